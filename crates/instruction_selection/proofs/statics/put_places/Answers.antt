use Rattle.std.proofs.Common.{arith, drop}
use Rattle.instruction_selection.proofs.StaticPlaces.{end_above, place_ends}
use Rattle.instruction_selection.proofs.statics.put_places.Goals as goal

pub rounded-start-requires : goal.rounded-start-requires
rounded-start-requires c =
    let above = end_above (drop c.loop-i.i c.args.statics.now) c.loop-i.offset in
    omega (arith, above, c.loop-i.invariant.end, c.requires.small)

pub overflow_add-first : goal.overflow_add-first
overflow_add-first c =
    let ends = place_ends c.args.statics.now c.loop-i.i c.index-statics-i.result c.loop-i.offset c.loop-i-test.true in
    omega (arith, ends, c.rounded-start.ensures, c.loop-i.invariant.end, c.requires.small, c.requires.first)

pub overflow_add-offset : goal.overflow_add-offset
overflow_add-offset c =
    let ends = place_ends c.args.statics.now c.loop-i.i c.index-statics-i.result c.loop-i.offset c.loop-i-test.true in
    omega (arith, ends, c.rounded-start.ensures, c.loop-i.invariant.end, c.requires.small)
