use Rattle.std.proofs.Common.{arith, map, drop}
use Rattle.c_tree.specs.View.{static_of}
use Rattle.source_meaning.proofs.Constants.Statics.{ends}
use Rattle.static_data.proofs.Laying.{next_below, next_end}
use Rattle.static_data.proofs.pointers.global_bytes.Goals as goal

pub loop-i-preserved : goal.loop-i-preserved
loop-i-preserved c =
    next_end c.args.statics.now c.loop-i.i c.loop-i.offset _ _ _ c.index-statics-i.result c.loop-i-test.true
    c.rounded.ensures c.size_of.ensures c.loop-i.invariant

pub rounded-requires : goal.rounded-requires
rounded-requires c =
    let below = ends (map static_of (drop c.loop-i.i c.args.statics.now)) c.loop-i.offset in
    omega (arith, below, c.loop-i.invariant, c.requires)

pub overflow_add-offset : goal.overflow_add-offset
overflow_add-offset c =
    let below = next_below c.args.statics.now c.loop-i.i c.loop-i.offset _ c.index-statics-i.result c.loop-i-test.true
    c.loop-i.invariant c.requires in
    omega (arith, below, c.rounded.ensures, c.size_of.ensures)
