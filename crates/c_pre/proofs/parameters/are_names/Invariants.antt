use Rattle.std.proofs.Common.{◌≡◌, length}
use Rattle.c_pre.specs.Directives.{are_names}
use Rattle.c_pre.proofs.parameters.are_names.Given as goal

abbrev pub invariant-loop-rest : goal.invariant-loop-rest
invariant-loop-rest l = are_names l.tokens ≡ are_names l.rest

abbrev pub decreases-loop-rest : goal.decreases-loop-rest
decreases-loop-rest l = length l.rest
