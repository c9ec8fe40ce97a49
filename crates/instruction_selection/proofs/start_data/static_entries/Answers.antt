use Rattle.std.proofs.Common.{arith, drop, ap}
use Rattle.tac_ir.specs.declared.function.StaticData.{StaticData}
use Rattle.instruction_selection.proofs.StaticPlaces.{end_above, place_ends}
use Rattle.instruction_selection.proofs.start_data.static_entries.Goals as goal

pub rounded-start-requires : goal.rounded-start-requires
rounded-start-requires c =
    let above = end_above (drop c.loop-i.i c.args.statics.now) c.loop-i.offset in
    omega (arith, above, c.loop-i.invariant.end, c.requires.small)

pub put_static-requires-clause-low : goal.put_static-requires-clause-low
put_static-requires-clause-low c =
    let ends = place_ends c.args.statics.now c.loop-i.i c.index-statics-i.result c.loop-i.offset c.loop-i-test.true in
    let same = ap (λ (d : StaticData). d.size) c.index-statics-i.is in
    omega (arith, ends, same, c.rounded-start.ensures, c.loop-i.invariant.end, c.requires.small)

pub overflow_add-offset : goal.overflow_add-offset
overflow_add-offset c =
    let ends = place_ends c.args.statics.now c.loop-i.i c.index-statics-i-in-loop-i.result c.loop-i.offset c.loop-i-test.true in
    omega (arith, ends, c.rounded-start.ensures, c.loop-i.invariant.end, c.requires.small)
