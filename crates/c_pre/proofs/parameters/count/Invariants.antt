use Rattle.std.proofs.Common.{◌≡◌, ◌+◌, ◌≤◌, length}
use Rattle.c_pre.specs.Directives.{names_among}
use Rattle.c_pre.proofs.parameters.count.Given as goal

abbrev pub invariant-loop-rest : goal.invariant-loop-rest
invariant-loop-rest l = record {
  same : length (names_among l.tokens) ≡ l.n + length (names_among l.rest);
  within : l.n + length l.rest ≤ length l.tokens;
}

abbrev pub decreases-loop-rest : goal.decreases-loop-rest
decreases-loop-rest l = length l.rest
