use Rattle.std.proofs.Common.{◌≡◌, ◌+◌, ◌≤◌, length}
use Rattle.c_pre.specs.Directives.{names_among}
use Rattle.c_pre.specs.Outcomes.{parameter_index}
use Rattle.c_pre.proofs.Closing.{behind}
use Rattle.c_pre.proofs.parameters.parameter_at.Given as goal

abbrev pub invariant-loop-rest : goal.invariant-loop-rest
invariant-loop-rest l = record {
  same : parameter_index l.name (names_among l.tokens) ≡ behind l.n (parameter_index l.name (names_among l.rest));
  within : l.n + length l.rest ≤ length l.tokens;
}

abbrev pub decreases-loop-rest : goal.decreases-loop-rest
decreases-loop-rest l = length l.rest
