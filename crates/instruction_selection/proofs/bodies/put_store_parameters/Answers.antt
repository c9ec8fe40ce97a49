use Rattle.std.proofs.Common.{◌≡◌, ◌<◌, ◌∙◌, Some, length, subst}
use Rattle.std.specs.Prelude.{slice_get}
use Rattle.metadata_relation.specs.InlineLists.{inline_lists}
use Rattle.instruction_selection.proofs.Joined.{next_stored}
use Rattle.instruction_selection.proofs.bodies.put_store_parameters.Goals as goal

pub loop-i-preserved : goal.loop-i-preserved
loop-i-preserved g c =
    let same = c.as_slice-parameters.ensures in
    next_stored (inline_lists g.S.ShadowForm.entry_read g.S.ShadowForm.entry_write c.args.context.now.map.now)
    c.args.context.now.program.now c.args.context.now.function.now c.args.context.now.function.now.parameters c.loop-i.i
    c.variable_at.result c.loop-i.code.items (subst (λ ps. c.loop-i.i < length ps) same c.loop-i-test.true)
    (subst (λ ps. slice_get ps c.loop-i.i ≡ Some c.variable_at.result) same c.variable_at.ensures)
    c.in_ok-put_if_object.ensures
    ∙ c.loop-i.invariant
