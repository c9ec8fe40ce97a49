use Rattle.std.proofs.Common.{arith, drop}
use Rattle.instruction_selection.proofs.BlockObjects.{end_above, object_ends}
use Rattle.instruction_selection.proofs.blocks.put_homes.Goals as goal

pub rounded-start-requires : goal.rounded-start-requires
rounded-start-requires c =
    let above = end_above (drop c.loop-i.i c.args.variables.now) c.loop-i.offset in
    omega (arith, above, c.loop-i.invariant.end, c.requires.small)

pub overflow_add-offset : goal.overflow_add-offset
overflow_add-offset c =
    let ends = object_ends c.args.variables.now c.loop-i.i _ c.loop-i.offset c.loop-i-test.true c.if-variable.true in
    omega (arith, ends, c.rounded-start.ensures, c.size_of-size.ensures, c.loop-i.invariant.end, c.requires.small)
