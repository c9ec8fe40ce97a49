use Rattle.std.proofs.Common.{sym, subst, refl, ◌∙◌, ◌++◌}
use Rattle.flat_code.proofs.Routines.InputOutput.{computes}
use Rattle.flat_actions.proofs.ByParts.{joined_are}
use Rattle.lib_wrappers.specs.AreaRoutines.Moving.{IsMoveAreaRoutine, move_parts, clear_rest}
use Rattle.lib_wrappers.proofs.AreaRoutines.MoveAreas.{moves_areas}
use Rattle.lib_wrappers.proofs.AreaRoutines.Shapes.{move_shape}
use Rattle.lib_wrappers.proofs.Quiet.{joined_quiet, same_quiet}
use Rattle.lib_wrappers.proofs.areas.moving.move_area.Goals as goal

pub returns-clause-does : goal.returns-clause-does
returns-clause-does c =
    let a = c.args in
    let behind = joined_are _ _ _ _ _ c.in_ok-behind.ensures (c.as_slice.ensures.value ∙ c.in_ok-entries.ensures)
    (c.as_slice-2.ensures.value ∙ c.in_ok-rest.ensures) in
    let items = joined_are _ _ _ _ _ c.in_ok-code.ensures c.as_slice-3.ensures.value
    (c.as_slice-4.ensures.value ∙ behind) in
    subst (IsMoveAreaRoutine a.map.now a.to a.part a.bytes a.scratch) (sym items)
    (moves_areas a.map.now c.requires.map a.to a.part a.bytes a.scratch c.requires.below c.in_ok-moves.moves.items
    c.in_ok-moves.ensures.does)

pub returns-clause-computes : goal.returns-clause-computes
returns-clause-computes c =
    let a = c.args in
    let behind = joined_are _ _ _ _ _ c.in_ok-behind.ensures (c.as_slice.ensures.value ∙ c.in_ok-entries.ensures)
    (c.as_slice-2.ensures.value ∙ c.in_ok-rest.ensures) in
    let own = move_parts a.to a.part a.bytes a.scratch ++ clear_rest a.part a.bytes a.scratch in
    same_quiet
    (joined_are _ _ _ _ _ c.in_ok-code.ensures c.as_slice-3.ensures.value (c.as_slice-4.ensures.value ∙ behind))
    (joined_quiet c.in_ok-moves.moves.items own c.in_ok-moves.ensures.computes (computes own refl))

pub returns-clause-shape : goal.returns-clause-shape
returns-clause-shape c =
    let a = c.args in
    let behind = joined_are _ _ _ _ _ c.in_ok-behind.ensures (c.as_slice.ensures.value ∙ c.in_ok-entries.ensures)
    (c.as_slice-2.ensures.value ∙ c.in_ok-rest.ensures) in
    move_shape a.to a.part a.bytes a.scratch c.requires.below c.in_ok-code.ensures c.as_slice-3.ensures.value
    (c.as_slice-4.ensures.value ∙ behind) c.in_ok-moves.ensures.shape
