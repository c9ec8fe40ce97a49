use Rattle.std.proofs.Common.{arith, map, drop}
use Rattle.c_tree.specs.View.{static_of}
use Rattle.source_meaning.proofs.Constants.Statics.{ends}
use Rattle.static_data.proofs.Laying.{next_below, next_end, next_pointers}
use Rattle.static_data.proofs.pointers.static_pointers.Goals as goal

pub loop-i-preserved : goal.loop-i-preserved
loop-i-preserved c = record {
  made = next_pointers c.args.statics.now c.loop-i.i c.loop-i.offset _ _ c.index-statics-i.result
      c.loop-i.pointers.items _ _ c.loop-i-test.true c.rounded-start.ensures c.size_of-size.ensures
      c.in_ok-push.ensures.items
      c.loop-i.invariant.made;
  end = next_end c.args.statics.now c.loop-i.i c.loop-i.offset _ _ _ c.index-statics-i.result c.loop-i-test.true
      c.rounded-start.ensures c.size_of-size.ensures c.loop-i.invariant.end;
}

pub rounded-start-requires : goal.rounded-start-requires
rounded-start-requires c =
    let below = ends (map static_of (drop c.loop-i.i c.args.statics.now)) c.loop-i.offset in
    omega (arith, below, c.loop-i.invariant.end, c.requires)

pub overflow_add-base : goal.overflow_add-base
overflow_add-base c =
    let below = next_below c.args.statics.now c.loop-i.i c.loop-i.offset _ c.index-statics-i.result c.loop-i-test.true
    c.loop-i.invariant.end c.requires in
    omega (arith, below, c.rounded-start.ensures, c.size_of-size.ensures)

pub overflow_add-bound : goal.overflow_add-bound
overflow_add-bound c =
    let below = next_below c.args.statics.now c.loop-i.i c.loop-i.offset _ c.index-statics-i.result c.loop-i-test.true
    c.loop-i.invariant.end c.requires in
    omega (arith, below, c.rounded-start.ensures, c.size_of-size.ensures)

pub overflow_add-offset : goal.overflow_add-offset
overflow_add-offset c =
    let below = next_below c.args.statics.now c.loop-i.i c.loop-i.offset _ c.index-statics-i.result c.loop-i-test.true
    c.loop-i.invariant.end c.requires in
    omega (arith, below, c.rounded-start.ensures, c.size_of-size.ensures)
