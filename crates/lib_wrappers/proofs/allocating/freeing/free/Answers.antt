use Rattle.std.proofs.Common.{sym, subst, ◌+◌}
use Rattle.lib_wrappers.proofs.AllocatingRoutines.Shapes.{free_shape}
use Rattle.flat_code.proofs.Routines.Shape.{same_shape}
use Rattle.lib_wrappers.specs.AllocatingRoutines.Freeing.{IsFreeRoutine, free_code}
use Rattle.flat_actions.proofs.ByParts.{by_three}
use Rattle.lib_wrappers.proofs.AllocatingRoutines.Frees.{free_does}
use Rattle.lib_wrappers.proofs.allocating.freeing.free.Goals as goal

pub returns-clause-does : goal.returns-clause-does
returns-clause-does g c =
    let a = c.args in
    let items = by_three
    (λ find unlist unlock. free_code find unlist unlock a.pointer a.line a.scratch (a.scratch + 2)) _ _ _ _
    c.in_ok-find.find.items c.in_ok-unlist.unlist.items c.in_ok-unlock.unlock.items
    c.in_ok-r.ensures c.as_slice.ensures.value c.as_slice-2.ensures.value c.as_slice-3.ensures.value in
    subst (IsFreeRoutine a.map.now g.S.ShadowForm.entry (g.S.ShadowForm.IsGood a.map.now) a.pointer a.line a.scratch)
    (sym items)
    (free_does a.map.now c.requires.map g.S.ShadowForm.entry (g.S.ShadowForm.IsGood a.map.now)
    (λ m m' k h. c.entries_are_local.ensures a.map.now m m' c.requires.map k h) a.pointer a.line a.scratch
    c.requires.below c.in_ok-find.find.items c.in_ok-unlist.unlist.items c.in_ok-unlock.unlock.items
    c.in_ok-find.ensures.does c.in_ok-unlist.ensures.does c.in_ok-unlock.ensures.does)

pub returns-clause-shape : goal.returns-clause-shape
returns-clause-shape g c =
    let a = c.args in
    same_shape (by_three
    (λ find unlist unlock. free_code find unlist unlock a.pointer a.line a.scratch (a.scratch + 2)) _ _ _ _
    c.in_ok-find.find.items c.in_ok-unlist.unlist.items c.in_ok-unlock.unlock.items
    c.in_ok-r.ensures c.as_slice.ensures.value c.as_slice-2.ensures.value c.as_slice-3.ensures.value)
    (free_shape c.in_ok-find.find.items c.in_ok-unlist.unlist.items c.in_ok-unlock.unlock.items a.pointer a.line a.scratch
    c.requires.below c.in_ok-find.ensures.shape c.in_ok-unlist.ensures.shape c.in_ok-unlock.ensures.shape)
