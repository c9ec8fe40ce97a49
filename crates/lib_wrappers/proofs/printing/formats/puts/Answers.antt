use Rattle.lib_wrappers.proofs.PrintingRoutines.Steps.{puts_done}
use Rattle.lib_wrappers.proofs.printing.formats.puts.Goals as goal

pub returns : goal.returns
returns c =
    let a = c.args in
    puts_done a.map.now a.scratch a.own a.printed.now c.loop-piece.piece-index c.loop-piece.index
    c.loop-piece.code.items
    c.loop-piece-test.false c.loop-piece.invariant.2
