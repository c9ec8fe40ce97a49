use Rattle.std.proofs.Common.{sym, subst}
use Rattle.lib_wrappers.proofs.Shapes.{entry_shape}
use Rattle.lib_wrappers.specs.MovingRoutines.Tagged.{CopiesEntry}
use Rattle.flat_actions.proofs.ByParts.{joined_are}
use Rattle.lib_wrappers.proofs.MovingRoutines.Words.{entry_copies}
use Rattle.lib_wrappers.proofs.Quiet.{joined_quiet, same_quiet}
use Rattle.lib_wrappers.proofs.moving.moving.entry_body.Goals as goal

pub returns-clause-does : goal.returns-clause-does
returns-clause-does g c =
    let a = c.args in
    let entry = g.S.ShadowForm.entry in
    let IsGood = g.S.ShadowForm.IsGood a.map.now in
    let items = joined_are _ _ _ _ _ c.in_ok-code.ensures c.as_slice.ensures.value c.as_slice-2.ensures.value in
    subst (CopiesEntry a.map.now entry IsGood a.scratch) (sym items)
    (entry_copies a.map.now entry IsGood a.scratch c.in_ok-read.read.items c.in_ok-write.write.items
    c.in_ok-read.ensures.does c.in_ok-write.ensures.does)

pub returns-clause-computes : goal.returns-clause-computes
returns-clause-computes g c =
    same_quiet (joined_are _ _ _ _ _ c.in_ok-code.ensures c.as_slice.ensures.value c.as_slice-2.ensures.value)
    (joined_quiet c.in_ok-read.read.items c.in_ok-write.write.items c.in_ok-read.ensures.computes
    c.in_ok-write.ensures.computes)

pub returns-clause-shape : goal.returns-clause-shape
returns-clause-shape g c =
    entry_shape c.args.scratch c.in_ok-code.ensures c.as_slice.ensures.value c.as_slice-2.ensures.value
    c.in_ok-read.ensures.shape c.in_ok-write.ensures.shape
