use Rattle.std.proofs.Common.{sym, subst, ◌∙◌}
use Rattle.lib_wrappers.proofs.Shapes.{memset_shape}
use Rattle.flat_actions.specs.Lists.{guarded_code}
use Rattle.lib_wrappers.specs.MovingRoutines.Library.{SetsObjects}
use Rattle.flat_actions.proofs.ByParts.{joined_are, by_body}
use Rattle.lib_wrappers.proofs.MovingRoutines.Sets.{sets_as}
use Rattle.lib_wrappers.proofs.moving.library.memset.Goals as goal
use Rattle.flat_actions.specs.Actions.{runtime_basis}

pub returns-clause-does : goal.returns-clause-does
returns-clause-does g c =
    let a = c.args in
    let h = a.range in
    let entry = g.S.ShadowForm.entry in
    let IsGood = g.S.ShadowForm.IsGood a.map.now in
    let whole = joined_are _ _ _ _ _ c.in_ok-whole.ensures c.as_slice.ensures.value c.as_slice-2.ensures.value in
    let items = by_body (guarded_code h.size h.to h.into) _ _ _ c.in_ok-code.ensures
    (c.as_slice-3.ensures.value ∙ whole) in
    subst (SetsObjects (runtime_basis a.map.now entry IsGood) h.to h.byte h.size h.into a.line a.scratch) (sym items)
    (sets_as a.map.now c.requires.map entry IsGood
    (λ m m' keep good. c.entries_are_local.ensures a.map.now m m' c.requires.map keep good) h.to h.byte h.size h.into
    a.line a.scratch c.requires.to c.requires.byte c.requires.size c.requires.into c.requires.distinct
    c.requires.others c.in_ok-first.first.items c.in_ok-act.act.items c.in_ok-first.ensures.does c.in_ok-act.ensures.does)

pub returns-clause-shape : goal.returns-clause-shape
returns-clause-shape g c =
    let a = c.args in
    let h = a.range in
    let whole = joined_are _ _ _ _ _ c.in_ok-whole.ensures c.as_slice.ensures.value c.as_slice-2.ensures.value in
    memset_shape h.size a.scratch h.to h.into c.requires.size c.requires.to c.requires.into
    (by_body (guarded_code h.size h.to h.into) _ _ _ c.in_ok-code.ensures (c.as_slice-3.ensures.value ∙ whole))
    c.in_ok-first.ensures.shape c.in_ok-act.ensures.shape
