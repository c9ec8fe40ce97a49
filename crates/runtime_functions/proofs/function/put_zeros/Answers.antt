use Rattle.std.proofs.Common.{◌+◌, arith}
use Rattle.runtime_functions.proofs.Zeros.{zeros_put}
use Rattle.runtime_functions.proofs.function.put_zeros.Goals as goal

pub loop-number-preserved : goal.loop-number-preserved
loop-number-preserved c =
    zeros_put _ _ _ _ _ (omega (arith, c.loop-number-test.true)) c.in_ok-put.ensures c.loop-number.invariant
