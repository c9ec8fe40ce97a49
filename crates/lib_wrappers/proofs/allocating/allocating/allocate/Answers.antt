use Rattle.std.proofs.Common.{sym, subst, ◌+◌}
use Rattle.lib_wrappers.proofs.AllocatingRoutines.Shapes.{malloc_shape}
use Rattle.flat_code.proofs.Routines.Shape.{same_shape}
use Rattle.lib_wrappers.specs.AllocatingRoutines.Allocating.{IsAllocateRoutine, malloc_code}
use Rattle.flat_actions.proofs.ByParts.{by_three}
use Rattle.lib_wrappers.proofs.AllocatingRoutines.Allocates.{allocate_does}
use Rattle.lib_wrappers.proofs.allocating.allocating.allocate.Goals as goal

pub returns-clause-does : goal.returns-clause-does
returns-clause-does g c =
    let a = c.args in
    let items = by_three
    (λ place fresh zero. malloc_code a.map.now place fresh zero a.size a.into a.line a.scratch (a.scratch + 1)
    (a.scratch + 2)) _ _ _ _ c.in_ok-place.place.items c.in_ok-fresh.fresh.items c.in_ok-zeros.zeros.items
    c.in_ok-r.ensures c.as_slice.ensures.value c.as_slice-2.ensures.value c.as_slice-3.ensures.value in
    subst (IsAllocateRoutine a.map.now g.S.ShadowForm.entry (g.S.ShadowForm.IsGood a.map.now) a.size a.into a.line
    a.scratch)
    (sym items)
    (allocate_does a.map.now c.requires.map g.S.ShadowForm.entry (g.S.ShadowForm.IsGood a.map.now)
    (λ m m' k h. c.entries_are_local.ensures a.map.now m m' c.requires.map k h) a.size a.into a.line a.scratch
    c.requires.below c.requires.apart.0 c.requires.distinct c.in_ok-place.place.items c.in_ok-fresh.fresh.items
    c.in_ok-zeros.zeros.items c.in_ok-place.ensures.does c.in_ok-fresh.ensures.does c.in_ok-zeros.ensures.does)

pub returns-clause-shape : goal.returns-clause-shape
returns-clause-shape g c =
    let a = c.args in
    same_shape (by_three
    (λ place fresh zero. malloc_code a.map.now place fresh zero a.size a.into a.line a.scratch (a.scratch + 1)
    (a.scratch + 2)) _ _ _ _ c.in_ok-place.place.items c.in_ok-fresh.fresh.items c.in_ok-zeros.zeros.items
    c.in_ok-r.ensures c.as_slice.ensures.value c.as_slice-2.ensures.value c.as_slice-3.ensures.value)
    (malloc_shape a.map.now c.requires.map c.in_ok-place.place.items c.in_ok-fresh.fresh.items c.in_ok-zeros.zeros.items
    a.size a.into a.line a.scratch c.requires.below c.in_ok-place.ensures.shape c.in_ok-fresh.ensures.shape
    c.in_ok-zeros.ensures.shape)
