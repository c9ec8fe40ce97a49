use Rattle.check_insert.proofs.Following.{insert_follows}
use Rattle.check_insert.proofs.laws.checked_code_follows.Goals as goal

pub returns : goal.returns
returns c = insert_follows
