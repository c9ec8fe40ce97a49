use Rattle.std.proofs.Common.{sym, subst, ◌∙◌}
use Rattle.flat_actions.proofs.ByParts.{joined_are, by_body}
use Rattle.lib_wrappers.specs.AreaRoutines.Taking.{IsTakeRangeRoutine, take_entries}
use Rattle.lib_wrappers.proofs.AreaRoutines.TakeRanges.{takes_ranges}
use Rattle.lib_wrappers.proofs.AreaRoutines.Shapes.{take_shape}
use Rattle.lib_wrappers.proofs.Quiet.{same_quiet, take_quiet}
use Rattle.lib_wrappers.proofs.areas.taking.take_range.Goals as goal

pub returns-clause-does : goal.returns-clause-does
returns-clause-does g c =
    let a = c.args in
    let entry = g.S.ShadowForm.entry in
    let IsGood = g.S.ShadowForm.IsGood a.map.now in
    let entries = by_body (λ read. take_entries read a.to a.from a.bytes a.scratch) _ _ c.in_ok-read.read.items
    c.in_ok-entries.ensures c.as_slice.ensures.value in
    let range = joined_are _ _ _ _ _ c.in_ok-range.ensures
    (c.as_slice-2.ensures.value ∙ c.in_ok-zeros.ensures) c.as_slice-3.ensures.value in
    let items = joined_are _ _ _ _ _ c.in_ok-code.ensures (c.as_slice-4.ensures.value ∙ range)
    (c.as_slice-5.ensures.value ∙ entries) in
    subst (IsTakeRangeRoutine a.map.now entry IsGood a.to a.from a.bytes a.scratch) (sym items)
    (takes_ranges a.map.now c.requires.map entry IsGood
    (λ m m' keep good. c.entries_are_local.ensures a.map.now m m' c.requires.map keep good) a.to a.from a.bytes
    a.scratch c.requires.below c.in_ok-read.read.items c.in_ok-read.ensures.does c.in_ok-moves.moves.items
    c.in_ok-moves.ensures.does)

pub returns-clause-computes : goal.returns-clause-computes
returns-clause-computes g c =
    let a = c.args in
    let entries = by_body (λ read. take_entries read a.to a.from a.bytes a.scratch) _ _ c.in_ok-read.read.items
    c.in_ok-entries.ensures c.as_slice.ensures.value in
    let range = joined_are _ _ _ _ _ c.in_ok-range.ensures
    (c.as_slice-2.ensures.value ∙ c.in_ok-zeros.ensures) c.as_slice-3.ensures.value in
    same_quiet
    (joined_are _ _ _ _ _ c.in_ok-code.ensures (c.as_slice-4.ensures.value ∙ range)
    (c.as_slice-5.ensures.value ∙ entries))
    (take_quiet c.in_ok-read.read.items c.in_ok-moves.moves.items a.to a.from a.bytes a.scratch
    c.in_ok-read.ensures.computes c.in_ok-moves.ensures.computes)

pub returns-clause-shape : goal.returns-clause-shape
returns-clause-shape g c =
    let a = c.args in
    let entries = by_body (λ read. take_entries read a.to a.from a.bytes a.scratch) _ _ c.in_ok-read.read.items
    c.in_ok-entries.ensures c.as_slice.ensures.value in
    let range = joined_are _ _ _ _ _ c.in_ok-range.ensures
    (c.as_slice-2.ensures.value ∙ c.in_ok-zeros.ensures) c.as_slice-3.ensures.value in
    take_shape c.in_ok-read.read.items a.to a.from a.bytes a.scratch c.requires.below c.in_ok-code.ensures
    (c.as_slice-4.ensures.value ∙ range) (c.as_slice-5.ensures.value ∙ entries) c.in_ok-moves.ensures.shape
    c.in_ok-read.ensures.shape
