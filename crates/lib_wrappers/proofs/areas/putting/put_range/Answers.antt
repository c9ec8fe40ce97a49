use Rattle.std.proofs.Common.{sym, subst, ◌∙◌}
use Rattle.flat_actions.proofs.ByParts.{joined_are, by_body}
use Rattle.lib_wrappers.specs.AreaRoutines.Putting.{IsPutRangeRoutine, put_entries}
use Rattle.lib_wrappers.proofs.AreaRoutines.PutRanges.{puts_ranges}
use Rattle.lib_wrappers.proofs.AreaRoutines.Shapes.{put_shape}
use Rattle.lib_wrappers.proofs.Quiet.{same_quiet, put_quiet}
use Rattle.lib_wrappers.proofs.areas.putting.put_range.Goals as goal

pub returns-clause-does : goal.returns-clause-does
returns-clause-does g c =
    let a = c.args in
    let entry = g.S.ShadowForm.entry in
    let IsGood = g.S.ShadowForm.IsGood a.map.now in
    let entries = by_body (λ write. put_entries write a.to a.part a.bytes a.scratch) _ _ c.in_ok-write.write.items
    c.in_ok-entries.ensures c.as_slice.ensures.value in
    let items = joined_are _ _ _ _ _ c.in_ok-code.ensures c.as_slice-2.ensures.value
    (c.as_slice-3.ensures.value ∙ entries) in
    subst (IsPutRangeRoutine a.map.now entry IsGood a.to a.part a.bytes a.scratch) (sym items)
    (puts_ranges a.map.now c.requires.map entry IsGood
    (λ m m' keep good. c.entries_are_local.ensures a.map.now m m' c.requires.map keep good) a.to a.part a.bytes
    a.scratch c.requires.below c.in_ok-write.write.items c.in_ok-write.ensures.does c.in_ok-moves.moves.items
    c.in_ok-moves.ensures.does)

pub returns-clause-computes : goal.returns-clause-computes
returns-clause-computes g c =
    let a = c.args in
    let entries = by_body (λ write. put_entries write a.to a.part a.bytes a.scratch) _ _ c.in_ok-write.write.items
    c.in_ok-entries.ensures c.as_slice.ensures.value in
    same_quiet
    (joined_are _ _ _ _ _ c.in_ok-code.ensures c.as_slice-2.ensures.value (c.as_slice-3.ensures.value ∙ entries))
    (put_quiet c.in_ok-write.write.items c.in_ok-moves.moves.items a.to a.part a.bytes a.scratch
    c.in_ok-write.ensures.computes c.in_ok-moves.ensures.computes)

pub returns-clause-shape : goal.returns-clause-shape
returns-clause-shape g c =
    let a = c.args in
    let entries = by_body (λ write. put_entries write a.to a.part a.bytes a.scratch) _ _ c.in_ok-write.write.items
    c.in_ok-entries.ensures c.as_slice.ensures.value in
    put_shape c.in_ok-write.write.items a.to a.part a.bytes a.scratch c.requires.below c.in_ok-code.ensures
    c.as_slice-2.ensures.value (c.as_slice-3.ensures.value ∙ entries) c.in_ok-moves.ensures.shape
    c.in_ok-write.ensures.shape
