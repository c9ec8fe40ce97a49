use Rattle.std.proofs.Common.{◌≡◌, length}
use Rattle.c_pre.specs.Directives.{names_among}
use Rattle.c_pre.proofs.parameters.from_name.Given as goal

abbrev pub invariant-loop-rest : goal.invariant-loop-rest
invariant-loop-rest l = names_among l.tokens ≡ names_among l.rest

abbrev pub decreases-loop-rest : goal.decreases-loop-rest
decreases-loop-rest l = length l.rest
