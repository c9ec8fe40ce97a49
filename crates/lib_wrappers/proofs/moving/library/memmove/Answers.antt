use Rattle.std.proofs.Common.{sym, subst, ◌∙◌}
use Rattle.flat_actions.specs.Lists.{guarded_code}
use Rattle.lib_wrappers.specs.MovingRoutines.Library.{MovesObjects}
use Rattle.flat_actions.proofs.ByParts.{joined_are, by_body}
use Rattle.lib_wrappers.proofs.MovingRoutines.Acts.{moves_as}
use Rattle.lib_wrappers.proofs.Shapes.{memmove_shape}
use Rattle.lib_wrappers.proofs.moving.library.memmove.Goals as goal
use Rattle.flat_actions.specs.Actions.{runtime_basis}

pub returns : goal.returns
returns g c =
    let a = c.args in
    let h = a.copy in
    let entry = g.S.ShadowForm.entry in
    let IsGood = g.S.ShadowForm.IsGood a.map.now in
    let rest = joined_are _ _ _ _ _ c.in_ok-rest.ensures c.as_slice.ensures.value c.as_slice-2.ensures.value in
    let whole = joined_are _ _ _ _ _ c.in_ok-whole.ensures c.as_slice-3.ensures.value
    (c.as_slice-4.ensures.value ∙ rest) in
    let items = by_body (guarded_code h.size h.to h.into) _ _ _ c.in_ok-code.ensures
    (c.as_slice-5.ensures.value ∙ whole) in
    let moves = subst (MovesObjects (runtime_basis a.map.now entry IsGood) h.to h.from h.size h.into a.line a.scratch)
    (sym items)
    (moves_as a.map.now c.requires.map entry IsGood h.to h.from h.size h.into a.line a.scratch c.requires.to
    c.requires.from c.requires.size c.requires.into c.requires.distinct c.requires.others c.in_ok-first.first.items
    c.in_ok-second.second.items c.in_ok-act.act.items c.in_ok-first.ensures.does c.in_ok-second.ensures.does
    c.in_ok-act.ensures.does) in
    record {
      memmove = moves;
      memcpy = moves;
      shape = memmove_shape h.size a.scratch h.to h.into c.requires.size c.requires.to c.requires.into items
          c.in_ok-first.ensures.shape c.in_ok-second.ensures.shape c.in_ok-act.ensures.shape;
    }
