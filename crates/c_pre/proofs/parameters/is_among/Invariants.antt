use Rattle.std.proofs.Common.{◌≡◌, length}
use Rattle.c_pre.specs.Directives.{names_among}
use Rattle.c_pre.specs.Names.{member}
use Rattle.c_pre.proofs.parameters.is_among.Given as goal

abbrev pub invariant-loop-rest : goal.invariant-loop-rest
invariant-loop-rest l = member l.name (names_among l.tokens) ≡ member l.name (names_among l.rest)

abbrev pub decreases-loop-rest : goal.decreases-loop-rest
decreases-loop-rest l = length l.rest
