use Rattle.std.proofs.Common.{◌≡◌, ◌+◌, ◌≤◌, length}
use Rattle.c_pre.specs.Outcomes.{line_rest}
use Rattle.c_pre.proofs.lines.line_rest.Given as goal

abbrev pub invariant-loop-rest : goal.invariant-loop-rest
invariant-loop-rest l = record
    { same : line_rest l.tokens ≡ l.n + line_rest l.rest; within : l.n + length l.rest ≤ length l.tokens }

abbrev pub decreases-loop-rest : goal.decreases-loop-rest
decreases-loop-rest l = length l.rest
