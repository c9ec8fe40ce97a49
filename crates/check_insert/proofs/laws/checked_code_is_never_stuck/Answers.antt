use Rattle.check_insert.proofs.Following.{checked_follows, checked_never_stuck}
use Rattle.check_insert.proofs.laws.checked_code_is_never_stuck.Goals as goal

pub returns : goal.returns
returns c = record { follows = checked_follows; never = checked_never_stuck }
