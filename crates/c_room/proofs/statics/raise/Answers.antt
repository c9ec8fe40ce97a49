use Rattle.std.proofs.Common.{◌<◌, length, refl, arith}
use Rattle.std.proofs.lemmas.Option.{slice_get_read}
use Rattle.c_room.proofs.Tables.{raised_there, raised_nowhere}
use Rattle.c_room.proofs.statics.raise.Goals as goal

pub returns-then-function-len : goal.returns-then-function-len
returns-then-function-len c =
    let heights = c.args.heights.now.items in
    let f = c.args.function in
    let inside : f < length heights = omega (arith, c.if-function-len.true, c.len.ensures) in
    let at = slice_get_read heights (length heights) f c.index.result.now refl inside c.index.ensures in
    raised_there heights f c.args.height c.index.result.now c.greater.result inside at c.greater.ensures

pub returns-else-function-len : goal.returns-else-function-len
returns-else-function-len c =
    raised_nowhere c.args.heights.now.items c.args.function c.args.height
    (omega (arith, c.if-function-len.false, c.len.ensures))
