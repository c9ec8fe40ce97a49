use Rattle.std.proofs.Common.{sym, subst, ◌∙◌, ◌+◌}
use Rattle.lib_wrappers.proofs.AllocatingRoutines.Shapes.{realloc_shape}
use Rattle.flat_code.proofs.Routines.Shape.{same_shape}
use Rattle.lib_wrappers.specs.AllocatingRoutines.Reallocating.{IsReallocRoutine, replace_code, reallocating_code}
use Rattle.flat_actions.proofs.ByParts.{by_three}
use Rattle.lib_wrappers.proofs.AllocatingRoutines.Reallocs.{realloc_does}
use Rattle.lib_wrappers.proofs.allocating.reallocating.realloc.Goals as goal

pub returns-clause-does : goal.returns-clause-does
returns-clause-does g c =
    let a = c.args in
    let replace = by_three (λ moves unlist unlock. replace_code moves unlist unlock a.size (a.scratch + 1)) _ _ _ _
    c.in_ok-moves.moves.items c.in_ok-unlist.unlist.items c.in_ok-unlock.unlock.items c.in_ok-replace.ensures
    c.as_slice.ensures.value c.as_slice-2.ensures.value c.as_slice-3.ensures.value in
    let items = by_three
    (λ find block replace. reallocating_code find block replace a.old a.into a.line a.scratch (a.scratch + 2)) _ _ _ _
    c.in_ok-find.find.items c.in_ok-block.block.items _
    c.in_ok-r.ensures c.as_slice-4.ensures.value c.as_slice-5.ensures.value (c.as_slice-6.ensures.value ∙ replace) in
    subst (IsReallocRoutine a.map.now g.S.ShadowForm.entry (g.S.ShadowForm.IsGood a.map.now) a.old a.size a.into a.line
    a.scratch) (sym items)
    (realloc_does a.map.now c.requires.map g.S.ShadowForm.entry (g.S.ShadowForm.IsGood a.map.now)
    (λ m m' k h. c.entries_are_local.ensures a.map.now m m' c.requires.map k h) a.old a.size a.into a.line a.scratch
    c.requires.old c.requires.below.0 c.requires.below.1 c.requires.apart.1 c.requires.apart.0
    c.in_ok-find.find.items c.in_ok-block.block.items c.in_ok-moves.moves.items c.in_ok-unlist.unlist.items
    c.in_ok-unlock.unlock.items c.in_ok-find.ensures.does c.in_ok-block.ensures.does c.in_ok-moves.ensures.does
    c.in_ok-unlist.ensures.does c.in_ok-unlock.ensures.does)

pub returns-clause-shape : goal.returns-clause-shape
returns-clause-shape g c =
    let a = c.args in
    let replace = by_three (λ moves unlist unlock. replace_code moves unlist unlock a.size (a.scratch + 1)) _ _ _ _
    c.in_ok-moves.moves.items c.in_ok-unlist.unlist.items c.in_ok-unlock.unlock.items c.in_ok-replace.ensures
    c.as_slice.ensures.value c.as_slice-2.ensures.value c.as_slice-3.ensures.value in
    same_shape (by_three
    (λ find block replace. reallocating_code find block replace a.old a.into a.line a.scratch (a.scratch + 2)) _ _ _ _
    c.in_ok-find.find.items c.in_ok-block.block.items _
    c.in_ok-r.ensures c.as_slice-4.ensures.value c.as_slice-5.ensures.value (c.as_slice-6.ensures.value ∙ replace))
    (realloc_shape c.in_ok-find.find.items c.in_ok-block.block.items c.in_ok-moves.moves.items c.in_ok-unlist.unlist.items
    c.in_ok-unlock.unlock.items a.old a.size a.into a.line a.scratch c.requires.old c.requires.below
    c.in_ok-find.ensures.shape c.in_ok-block.ensures.shape c.in_ok-moves.ensures.shape c.in_ok-unlist.ensures.shape
    c.in_ok-unlock.ensures.shape)
