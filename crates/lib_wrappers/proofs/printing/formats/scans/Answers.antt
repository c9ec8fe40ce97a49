use Rattle.flat_actions.specs.Actions.{runtime_basis}
use Rattle.lib_wrappers.proofs.PrintingRoutines.Steps.{scans_done}
use Rattle.lib_wrappers.proofs.printing.formats.scans.Goals as goal

pub returns : goal.returns
returns g c =
    let a = c.args in
    scans_done (runtime_basis a.map.now g.S.ShadowForm.entry (g.S.ShadowForm.IsGood a.map.now)) a.line a.scratch a.own
    a.printed.now
    c.loop-piece.piece-index c.loop-piece.index c.loop-piece.code.items c.loop-piece-test.false c.loop-piece.invariant.2
