use Rattle.std.proofs.Common.{◌≡◌, length}
use Rattle.c_pre.specs.Directives.{names_among, differ}
use Rattle.c_pre.proofs.parameters.differ.Given as goal

abbrev pub invariant-loop-rest : goal.invariant-loop-rest
invariant-loop-rest l = differ (names_among l.tokens) ≡ differ (names_among l.rest)

abbrev pub decreases-loop-rest : goal.decreases-loop-rest
decreases-loop-rest l = length l.rest
