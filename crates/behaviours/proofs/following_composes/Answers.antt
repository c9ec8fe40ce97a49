use Rattle.behaviours.proofs.Following.{follows_trans}
use Rattle.behaviours.proofs.following_composes.Goals as goal

pub returns : goal.returns
returns c = follows_trans
