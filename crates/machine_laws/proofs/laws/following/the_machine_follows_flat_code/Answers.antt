use Rattle.machine_laws.proofs.Following.Follows.{machine_follows}
use Rattle.machine_laws.proofs.laws.following.the_machine_follows_flat_code.Goals as goal

pub returns : goal.returns
returns c = machine_follows
