use Rattle.std.proofs.Common.{◌≡◌, ◌+◌, ◌≤◌, length}
use Rattle.c_pre.specs.Outcomes.{close_index}
use Rattle.c_pre.proofs.Closing.{behind}
use Rattle.c_pre.proofs.directive.close_at.Given as goal

abbrev pub invariant-loop-rest : goal.invariant-loop-rest
invariant-loop-rest l = record {
  same : close_index l.tokens ≡ behind l.n (close_index l.rest);
  within : l.n + length l.rest ≤ length l.tokens;
}

abbrev pub decreases-loop-rest : goal.decreases-loop-rest
decreases-loop-rest l = length l.rest
