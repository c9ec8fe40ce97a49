use Rattle.std.proofs.Common.{◌≡◌, ◌+◌, drop}
use Rattle.lib_wrappers.specs.PrintingRoutines.Printed.{argument_count, ArePrintable, PutsSoFar}
use Rattle.lib_wrappers.proofs.printing.formats.puts.Given as goal

abbrev pub invariant-loop-piece : goal.invariant-loop-piece
invariant-loop-piece l =
    ArePrintable l.scratch (drop l.piece-index l.printed)
    × (l.index + argument_count (drop l.piece-index l.printed) ≡ argument_count l.printed)
    × PutsSoFar l.map l.scratch l.own l.printed (drop l.piece-index l.printed) l.index l.code.items
