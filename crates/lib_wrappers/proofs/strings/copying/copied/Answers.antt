use Rattle.std.proofs.Common.{◌+◌, ◌++◌, refl, ◌∙◌}
use Rattle.lib_wrappers.proofs.Shapes.{copied_shape}
use Rattle.flat_code.proofs.Routines.Shape.{same_shape}
use Rattle.std.proofs.lemmas.Result.{IfOk-weaker}
use Rattle.lib_wrappers.specs.StringRoutines.Copying.{size_code}
use Rattle.lib_wrappers.proofs.StringRoutines.Made.{is_copied}
use Rattle.flat_actions.proofs.ByParts.{joined_are}
use Rattle.lib_wrappers.proofs.strings.copying.copied.Goals as goal
use Rattle.flat_actions.specs.Actions.{runtime_basis}

pub returns-clause-does : goal.returns-clause-does
returns-clause-does g c =
    let a = c.args in
    let scanned = c.in_ok-scanned.scanned.items in
    let judging = c.in_ok-judging.judging.items in
    let moving = c.in_ok-moving.moving.items in
    let sizes = size_code (a.scratch + 1) a.from.value a.scratch in
    IfOk-weaker _ _ _
    (λ r e. is_copied (runtime_basis a.map.now g.S.ShadowForm.entry (g.S.ShadowForm.IsGood a.map.now)) a.to a.from
    a.line a.scratch _ scanned judging moving c.in_ok-scanned.ensures.does c.in_ok-judging.ensures.does c.in_ok-moving.ensures.does
    (joined_are _ _ _ scanned (sizes ++ (judging ++ moving)) e c.deref-4.ensures.value
    (c.deref-5.ensures.value ∙ joined_are _ _ _ sizes (judging ++ moving) c.in_ok-rest.ensures refl
    (c.deref-3.ensures.value ∙ joined_are _ _ _ judging moving c.in_ok-act.ensures c.deref.ensures.value
    c.deref-2.ensures.value))))
    c.joined-3.ensures

pub returns-clause-shape : goal.returns-clause-shape
returns-clause-shape g c =
    let a = c.args in
    let scanned = c.in_ok-scanned.scanned.items in
    let judging = c.in_ok-judging.judging.items in
    let moving = c.in_ok-moving.moving.items in
    let sizes = size_code (a.scratch + 1) a.from.value a.scratch in
    IfOk-weaker _ _ _
    (λ r e. same_shape
    (joined_are _ _ _ scanned (sizes ++ (judging ++ moving)) e c.deref-4.ensures.value
    (c.deref-5.ensures.value ∙ joined_are _ _ _ sizes (judging ++ moving) c.in_ok-rest.ensures refl
    (c.deref-3.ensures.value ∙ joined_are _ _ _ judging moving c.in_ok-act.ensures c.deref.ensures.value
    c.deref-2.ensures.value)))
    (copied_shape a.from.value a.scratch scanned judging moving c.requires.from.0 c.in_ok-scanned.ensures.shape
    c.in_ok-judging.ensures.shape c.in_ok-moving.ensures.shape)) c.joined-3.ensures
