use Rattle.std.proofs.Common.{◌≡◌, ◌+◌, drop}
use Rattle.flat_actions.specs.Actions.{runtime_basis}
use Rattle.lib_wrappers.specs.PrintingRoutines.Printed.{argument_count, ArePrintable, ScansSoFar}
use Rattle.lib_wrappers.proofs.printing.formats.scans.Given as goal

abbrev pub invariant-loop-piece : goal.invariant-loop-piece
invariant-loop-piece g l =
    ArePrintable l.scratch (drop l.piece-index l.printed)
    × (l.index + argument_count (drop l.piece-index l.printed) ≡ argument_count l.printed)
    × ScansSoFar (runtime_basis l.map g.S.ShadowForm.entry (g.S.ShadowForm.IsGood l.map)) l.line l.scratch l.own
    l.printed
    (drop l.piece-index l.printed) l.index l.code.items
