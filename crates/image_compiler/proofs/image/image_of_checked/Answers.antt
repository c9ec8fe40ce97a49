use Rattle.std.proofs.Common.{sym, subst, ap, length, arith}
use Rattle.reg_plan.specs.Planned.{ArePlannable}
use Rattle.flat_code.specs.declared.function.FlatProgram.{FlatProgram}
use Rattle.image_laws.proofs.Images.Runtime.{flat_count}
use Rattle.image_compiler.proofs.Images.{compiled_result, never_runtime}
use Rattle.image_compiler.proofs.image.image_of_checked.Goals as goal

pub image_of_flat-requires-clause-count : goal.image_of_flat-requires-clause-count
image_of_flat-requires-clause-count c =
    let same = ap (λ (k : FlatProgram). length k.functions) c.in_ok-code.ensures in
    let count = flat_count c.args.map.now c.args.checked.now in
    let few = c.requires.count in
    omega (arith, same, count, few)

pub image_of_flat-requires-clause-plannable : goal.image_of_flat-requires-clause-plannable
image_of_flat-requires-clause-plannable c =
    subst ArePlannable (sym c.in_ok-code.ensures)
    (c.requires.expandable.plannable (c.in_ok-fits.ensures.0 c.if-not-branch.false))

pub compiled-requires : goal.compiled-requires
compiled-requires c = λ bytes.
    let small = c.in_ok-fits.ensures.0 c.if-not-branch.false in
    never_runtime c.args.map.now c.args.checked.now small c.in_ok-code.code c.image_of_flat.result bytes
    (c.runtimes_have_room.ensures c.args.map.now c.args.checked.now small c.requires.count
    (c.requires.expandable.plannable small) (c.requires.expandable.encodable small))
    c.in_ok-code.ensures c.image_of_flat.ensures

pub returns : goal.returns
returns c =
    compiled_result c.args.map.now c.args.checked.now (c.in_ok-fits.ensures.0 c.if-not-branch.false)
    c.in_ok-code.code c.image_of_flat.result c.compiled.result c.in_ok-code.ensures c.compiled.ensures
    c.image_of_flat.ensures
