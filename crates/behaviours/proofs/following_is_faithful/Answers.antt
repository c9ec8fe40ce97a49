use Rattle.behaviours.proofs.Following.{faithful}
use Rattle.behaviours.proofs.following_is_faithful.Goals as goal

pub returns : goal.returns
returns c = faithful
