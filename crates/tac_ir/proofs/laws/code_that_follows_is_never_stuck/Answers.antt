use Rattle.tac_ir.proofs.Turns.{follower_never_stuck}
use Rattle.tac_ir.proofs.laws.code_that_follows_is_never_stuck.Goals as goal

pub returns : goal.returns
returns c = follower_never_stuck
