use Rattle.std.proofs.Common.{◌≡◌, length}
use Rattle.std.specs.List.{list_any}
use Rattle.c_pre.specs.Directives.{is_left_out}
use Rattle.c_pre.proofs.parameters.has_left_out.Given as goal

abbrev pub invariant-loop-rest : goal.invariant-loop-rest
invariant-loop-rest l =
    list_any (λ token. is_left_out token.kind) l.tokens ≡ list_any (λ token. is_left_out token.kind) l.rest

abbrev pub decreases-loop-rest : goal.decreases-loop-rest
decreases-loop-rest l = length l.rest
