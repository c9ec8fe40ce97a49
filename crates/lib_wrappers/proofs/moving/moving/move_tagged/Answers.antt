use Rattle.std.proofs.Common.{sym, subst, ◌∙◌}
use Rattle.flat_actions.specs.Ranges.{IsTaggedMoveRoutine}
use Rattle.lib_wrappers.specs.MovingRoutines.Tagged.{move_words}
use Rattle.flat_actions.proofs.ByParts.{joined_are, by_body}
use Rattle.lib_wrappers.proofs.MovingRoutines.Tagged.{moves_tagged}
use Rattle.lib_wrappers.proofs.Quiet.{joined_quiet, same_quiet, move_words_quiet}
use Rattle.lib_wrappers.proofs.Shapes.{tagged_shape}
use Rattle.lib_wrappers.proofs.moving.moving.move_tagged.Goals as goal

pub returns : goal.returns
returns g c =
    let a = c.args in
    let second = by_body (move_words a.to a.from a.bytes a.scratch) _ _ c.in_ok-body.body.items c.in_ok-second.ensures
    c.as_slice.ensures.value in
    let items = joined_are _ _ _ _ _ c.in_ok-code.ensures c.as_slice-2.ensures.value
    (c.as_slice-3.ensures.value ∙ second) in
    record {
      does = subst
          (IsTaggedMoveRoutine a.map.now g.S.ShadowForm.entry (g.S.ShadowForm.IsGood a.map.now) a.to a.from a.bytes
          a.scratch)
          (sym items)
          (moves_tagged a.map.now c.requires.map g.S.ShadowForm.entry (g.S.ShadowForm.IsGood a.map.now)
          (λ m m' keep good. c.entries_are_local.ensures a.map.now m m' c.requires.map keep good) a.to a.from a.bytes
          a.scratch c.requires.below c.in_ok-first.first.items c.in_ok-body.body.items c.in_ok-first.ensures.does
          c.in_ok-body.ensures.does);
      computes = same_quiet items
          (joined_quiet c.in_ok-first.first.items (move_words a.to a.from a.bytes a.scratch c.in_ok-body.body.items)
          c.in_ok-first.ensures.computes
          (move_words_quiet a.to a.from a.bytes a.scratch c.in_ok-body.body.items c.in_ok-body.ensures.computes));
      shape = tagged_shape a.to a.from a.bytes a.scratch c.in_ok-body.body.items c.requires.below c.in_ok-code.ensures
          c.as_slice-2.ensures.value (c.as_slice-3.ensures.value ∙ second) c.in_ok-first.ensures.shape
          c.in_ok-body.ensures.shape;
    }
