use Rattle.std.proofs.Common.{ℕ, ◌+◌, ◌≤◌, refl, ◌∙◌}
use Rattle.std.proofs.lemmas.Result.{IfOk-weaker}
use Rattle.flat_code.specs.Routines.Shape.{HasShape}
use Rattle.flat_actions.proofs.ByParts.{joined_are}
use Rattle.lib_wrappers.proofs.Shapes.{first_judged_shape}
use Rattle.lib_wrappers.proofs.strings.scanning.first_judged.Goals as goal

pub returns-clause-shape : goal.returns-clause-shape
returns-clause-shape c =
    let a = c.args in
    IfOk-weaker _ _
    (λ r. (k m : ℕ) → a.scratch + 2 ≤ m → HasShape a.turns.now k m → HasShape r.items (11 + k) m)
    (λ r e. λ k m le h. first_judged_shape a.turns.now a.scratch k m le e refl
    (c.deref-2.ensures.value ∙ joined_are _ _ _ _ _ c.in_ok-rest.ensures c.deref.ensures.value refl)
    c.in_ok-judging.ensures.shape h) c.joined-2.ensures
