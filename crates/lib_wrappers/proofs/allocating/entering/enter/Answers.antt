use Rattle.std.proofs.Common.{sym, subst, ◌+◌}
use Rattle.lib_wrappers.proofs.AllocatingRoutines.Shapes.{enter_shape, enter_quiet}
use Rattle.lib_wrappers.proofs.Quiet.{same_quiet}
use Rattle.flat_code.proofs.Routines.Shape.{same_shape}
use Rattle.lib_wrappers.specs.AllocatingRoutines.Entering.{IsEnterRoutine, enter_code}
use Rattle.flat_actions.proofs.ByParts.{by_two}
use Rattle.lib_wrappers.proofs.AllocatingRoutines.Enters.{enter_does}
use Rattle.lib_wrappers.proofs.allocating.entering.enter.Goals as goal

pub returns-clause-does : goal.returns-clause-does
returns-clause-does g c =
    let a = c.args in
    let items = by_two
    (λ fresh zero. enter_code a.map.now fresh zero a.top a.bytes a.to a.line a.scratch (a.scratch + 1)) _ _ _
    c.in_ok-fresh.fresh.items c.in_ok-zeros.zeros.items c.in_ok-r.ensures c.as_slice.ensures.value
    c.as_slice-2.ensures.value in
    subst (IsEnterRoutine a.map.now g.S.ShadowForm.entry (g.S.ShadowForm.IsGood a.map.now) a.top a.bytes a.to a.line
    a.scratch) (sym items)
    (enter_does a.map.now c.requires.map g.S.ShadowForm.entry (g.S.ShadowForm.IsGood a.map.now)
    (λ m m' k h. c.entries_are_local.ensures a.map.now m m' c.requires.map k h) a.top a.bytes a.to a.line a.scratch
    c.requires.below c.requires.results c.requires.apart c.requires.distinct c.in_ok-fresh.fresh.items
    c.in_ok-zeros.zeros.items c.in_ok-fresh.ensures.does c.in_ok-zeros.ensures.does)

pub returns-clause-computes : goal.returns-clause-computes
returns-clause-computes g c =
    let a = c.args in
    same_quiet (by_two
    (λ fresh zero. enter_code a.map.now fresh zero a.top a.bytes a.to a.line a.scratch (a.scratch + 1)) _ _ _
    c.in_ok-fresh.fresh.items c.in_ok-zeros.zeros.items c.in_ok-r.ensures c.as_slice.ensures.value
    c.as_slice-2.ensures.value)
    (enter_quiet a.map.now c.in_ok-fresh.fresh.items c.in_ok-zeros.zeros.items a.top a.bytes a.to a.line a.scratch
    (a.scratch + 1) c.in_ok-fresh.ensures.computes c.in_ok-zeros.ensures.computes)

pub returns-clause-shape : goal.returns-clause-shape
returns-clause-shape g c =
    let a = c.args in
    same_shape (by_two
    (λ fresh zero. enter_code a.map.now fresh zero a.top a.bytes a.to a.line a.scratch (a.scratch + 1)) _ _ _
    c.in_ok-fresh.fresh.items c.in_ok-zeros.zeros.items c.in_ok-r.ensures c.as_slice.ensures.value
    c.as_slice-2.ensures.value)
    (enter_shape a.map.now c.requires.map c.in_ok-fresh.fresh.items c.in_ok-zeros.zeros.items a.top a.bytes a.to a.line
    a.scratch c.requires.below c.requires.results c.in_ok-fresh.ensures.shape c.in_ok-zeros.ensures.shape)
