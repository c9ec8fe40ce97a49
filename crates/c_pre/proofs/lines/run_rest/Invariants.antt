use Rattle.std.proofs.Common.{◌≡◌, ◌+◌, ◌≤◌, length}
use Rattle.c_pre.specs.Outcomes.{run_rest}
use Rattle.c_pre.proofs.lines.run_rest.Given as goal

abbrev pub invariant-loop-rest : goal.invariant-loop-rest
invariant-loop-rest l = record
    { same : run_rest l.tokens ≡ l.n + run_rest l.rest; within : l.n + length l.rest ≤ length l.tokens }

abbrev pub decreases-loop-rest : goal.decreases-loop-rest
decreases-loop-rest l = length l.rest
