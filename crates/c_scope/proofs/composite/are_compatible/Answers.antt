use Rattle.std.proofs.Common.{arith}
use Rattle.c_scope.proofs.Compositing.{incompatible}
use Rattle.c_scope.proofs.composite.are_compatible.Goals as goal

pub returns-in_default : goal.returns-in_default
returns-in_default c =
    incompatible c.args.left.now c.loop-word.word-index c.loop-word.rest.now _ (omega arith) (omega arith)
    c.loop-word.invariant
