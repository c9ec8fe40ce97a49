use Rattle.std.proofs.Common.{arith, drop}
use Rattle.instruction_selection.proofs.BlockObjects.{end_above, object_ends}
use Rattle.instruction_selection.proofs.blocks.block_bytes.Goals as goal

pub rounded-requires : goal.rounded-requires
rounded-requires c =
    let above = end_above (drop c.loop-i.i c.args.variables.now) c.loop-i.end in
    omega (arith, above, c.loop-i.invariant, c.requires)

pub overflow_add-end : goal.overflow_add-end
overflow_add-end c =
    let ends = object_ends c.args.variables.now c.loop-i.i _ c.loop-i.end c.loop-i-test.true c.if-variable.true in
    omega (arith, ends, c.rounded.ensures, c.size_of.ensures, c.loop-i.invariant, c.requires)
