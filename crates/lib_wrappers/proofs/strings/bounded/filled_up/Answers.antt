use Rattle.std.proofs.Common.{◌+◌, ◌++◌, refl, ◌∙◌}
use Rattle.lib_wrappers.proofs.Shapes.{filled_up_shape}
use Rattle.flat_code.proofs.Routines.Shape.{same_shape}
use Rattle.std.proofs.lemmas.Result.{IfOk-weaker}
use Rattle.lib_wrappers.specs.StringRoutines.Copying.{count_code, tail_code}
use Rattle.lib_wrappers.proofs.StringRoutines.Made.{is_filled_up}
use Rattle.flat_actions.proofs.ByParts.{joined_are}
use Rattle.lib_wrappers.proofs.strings.bounded.filled_up.Goals as goal

pub returns-clause-does : goal.returns-clause-does
returns-clause-does c =
    let a = c.args in
    let t = a.scratch in
    let counting = count_code (t + 1) a.from t in
    let tailing = tail_code a.to a.size (t + 1) (t + 2) (t + 3) in
    let moving = c.in_ok-moving.moving.items in
    let filling = c.in_ok-filling.filling.items in
    IfOk-weaker _ _ _
    (λ r e. is_filled_up a.map.now a.to a.from a.size t _ moving filling c.in_ok-moving.ensures.does c.in_ok-filling.ensures.does
    (joined_are _ _ _ counting (moving ++ (tailing ++ filling)) e refl
    (c.deref-4.ensures.value ∙ joined_are _ _ _ moving (tailing ++ filling) c.in_ok-rest.ensures c.deref-2.ensures.value
    (c.deref-3.ensures.value ∙ joined_are _ _ _ tailing filling c.in_ok-end.ensures refl c.deref.ensures.value))))
    c.joined-3.ensures

pub returns-clause-shape : goal.returns-clause-shape
returns-clause-shape c =
    let a = c.args in
    let t = a.scratch in
    let counting = count_code (t + 1) a.from t in
    let tailing = tail_code a.to a.size (t + 1) (t + 2) (t + 3) in
    let moving = c.in_ok-moving.moving.items in
    let filling = c.in_ok-filling.filling.items in
    IfOk-weaker _ _ _
    (λ r e. same_shape
    (joined_are _ _ _ counting (moving ++ (tailing ++ filling)) e refl
    (c.deref-4.ensures.value ∙ joined_are _ _ _ moving (tailing ++ filling) c.in_ok-rest.ensures c.deref-2.ensures.value
    (c.deref-3.ensures.value ∙ joined_are _ _ _ tailing filling c.in_ok-end.ensures refl c.deref.ensures.value)))
    (filled_up_shape a.to a.from a.size t moving filling c.requires.below c.in_ok-moving.ensures.shape
    c.in_ok-filling.ensures.shape)) c.joined-3.ensures
