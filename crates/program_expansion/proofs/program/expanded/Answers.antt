use Rattle.std.proofs.Common.{ap, sym, slice_get, ◌∙◌}
use Rattle.program_expansion.proofs.Prepared.{can_be_called}
use Rattle.program_expansion.proofs.program.expanded.Goals as goal

pub type_keys-requires-clause-bytes : goal.type_keys-requires-clause-bytes
type_keys-requires-clause-bytes g c =
    let limits = c.in_ok-are_within_limits.ensures.0 c.if-not-branch.false in
    λ f d there.
    (can_be_called d (limits.functions f d (ap (λ fs. slice_get fs f) (sym c.as_slice.ensures) ∙ there)).small).bytes
