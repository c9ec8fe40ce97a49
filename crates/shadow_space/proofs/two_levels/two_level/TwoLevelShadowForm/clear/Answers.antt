use Rattle.std.proofs.Common.{sym, subst, ◌+◌, refl}
use Rattle.std.proofs.lemmas.Result.{IfOk-weaker}
use Rattle.shadow_space.specs.Form.{IsClearRoutine}
use Rattle.shadow_space.specs.TwoLevel.Tables.{two_level_entry, AreTablesGood}
use Rattle.shadow_space.proofs.TwoLevel.Clearing.{two_level_clears}
use Rattle.flat_code.specs.Routines.InputOutput.{IsWithoutInputOutput}
use Rattle.flat_code.proofs.Routines.InputOutput.{computes}
use Rattle.flat_code.specs.Routines.Shape.{HasShape}
use Rattle.shadow_space.proofs.Shapes.{two_level_clear_shape}
use Rattle.shadow_space.specs.TwoLevel.Code.{two_level_clear}
use Rattle.shadow_space.proofs.two_levels.two_level.TwoLevelShadowForm.clear.Goals as goal

pub returns-clause-does : goal.returns-clause-does
returns-clause-does c = IfOk-weaker _ _ _
    (λ r e. subst (IsClearRoutine c.args.map.now two_level_entry (AreTablesGood c.args.map.now) c.args.first
    c.args.bytes c.args.scratch) (sym e)
    (two_level_clears c.args.map.now c.args.first c.args.bytes c.args.scratch c.requires.map c.requires.below))
    c.clear_code.ensures

pub returns-clause-computes : goal.returns-clause-computes
returns-clause-computes c = IfOk-weaker _ _ _
    (λ r e. subst IsWithoutInputOutput (sym e) (computes (two_level_clear c.args.first c.args.bytes c.args.scratch (c.args.scratch + 1) (c.args.scratch + 2) (c.args.scratch + 3)
    (c.args.scratch + 4) (c.args.scratch + 5)) refl)) c.clear_code.ensures

pub returns-clause-shape : goal.returns-clause-shape
returns-clause-shape c = IfOk-weaker _ _ _
    (λ r e. subst (λ l. HasShape l 32 (c.args.scratch + 6)) (sym e) (two_level_clear_shape c.args.first c.args.bytes c.args.scratch c.requires.below)) c.clear_code.ensures
