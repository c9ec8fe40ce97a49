use Rattle.std.proofs.Common.{map}
use Rattle.c_tree.specs.declared.expression.Kind.TheVariants.{Void}
use Rattle.c_tree.specs.View.{static_of}
use Rattle.c_room.proofs.Composed.{rooms_more}
use Rattle.c_room.proofs.function.rooms.Goals as goal

pub loop-i-preserved : goal.loop-i-preserved
loop-i-preserved c =
    rooms_more (map static_of c.args.statics.now) c.args.functions.now c.args.results.now c.loop-i.i
    c.index-functions-i.result Void c.in_ok-heights.heights.items c.index.result.now _
    c.loop-i.all.items _ _ c.requires c.loop-i-test.true c.index-functions-i.is
    c.in_ok-heights.ensures c.index.ensures c.room_of.ensures c.in_ok-push.ensures.items c.loop-i.invariant
