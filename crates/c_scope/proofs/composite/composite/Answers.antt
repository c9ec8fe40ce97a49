use Rattle.std.proofs.Common.{arith}
use Rattle.c_scope.proofs.Compositing.{no_composite}
use Rattle.c_scope.proofs.composite.composite.Goals as goal

pub returns-in_default : goal.returns-in_default
returns-in_default c =
    no_composite c.args.left.now c.loop-word.word-index c.loop-word.rest.now c.loop-word.words.items _ (omega arith)
    (omega arith) c.loop-word.invariant
