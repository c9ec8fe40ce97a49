use Rattle.std.proofs.Common.{sym, subst}
use Rattle.image_compiler.specs.Built.{ArePlans}
use Rattle.image_compiler.proofs.Images.{ready}
use Rattle.image_compiler.proofs.Expanded.{objects_fit, spaces_fit, expanded_image}
use Rattle.image_compiler.proofs.expansion.image_of_expansion.Goals as goal

pub image_of-requires-clause-ready : goal.image_of-requires-clause-ready
image_of-requires-clause-ready g c =
    ready c.in_ok-flat.flat c.in_ok-plan.plan.functions.items c.deref.result.now c.deref.ensures.value
    c.in_ok-plan.ensures c.in_ok-flat.ensures.few c.in_ok-flat.ensures.plannable

pub image_of-requires-clause-objects : goal.image_of-requires-clause-objects
image_of-requires-clause-objects g c =
    objects_fit c.args.map.now c.args.code.now c.in_ok-data.data.objects.items c.requires c.in_ok-data.ensures.objects

pub image_of-requires-clause-spaces : goal.image_of-requires-clause-spaces
image_of-requires-clause-spaces g c =
    spaces_fit c.args.map.now c.in_ok-data.data.spaces.items c.in_ok-data.ensures.fit

pub returns-in-Ok : goal.returns-in-Ok
returns-in-Ok g c =
    let flat = c.in_ok-flat.flat in
    expanded_image g.S.ShadowForm.entry_read g.S.ShadowForm.entry_write g.S.ShadowForm.entry
    (g.S.ShadowForm.IsGood c.args.map.now) c.args.map.now c.args.code.now flat c.in_ok-flat.ensures c.deref.result.now
    (subst (ArePlans flat) (sym c.deref.ensures.value) c.in_ok-plan.ensures) c.in_ok-data.data c.in_ok-data.ensures
    c.in-Ok.file.items c.in-Ok.ensures.image
