use Rattle.std.proofs.Common.{◌+◌, refl, sym, subst, arith}
use Rattle.std.proofs.lemmas.Result.{IfOk-weaker}
use Rattle.flat_code.specs.Routines.InputOutput.{IsWithoutInputOutput}
use Rattle.flat_code.proofs.Routines.InputOutput.{computes}
use Rattle.shadow_space.specs.TwoLevel.Code.{two_level_read}
use Rattle.shadow_space.specs.Form.{IsReadRoutine}
use Rattle.shadow_space.specs.TwoLevel.Tables.{two_level_entry, AreTablesGood}
use Rattle.shadow_space.proofs.TwoLevel.Reading.{two_level_reads}
use Rattle.flat_code.specs.Routines.Shape.{HasShape}
use Rattle.flat_code.proofs.Routines.Shape.{more}
use Rattle.shadow_space.proofs.Shapes.{two_level_read_shape}
use Rattle.shadow_space.proofs.two_levels.two_level.TwoLevelShadowForm.read_entry.Goals as goal

pub returns-clause-does : goal.returns-clause-does
returns-clause-does c = IfOk-weaker _ _ _
    (λ r e. subst (IsReadRoutine c.args.map.now two_level_entry (AreTablesGood c.args.map.now) c.args.at c.args.into
    c.args.scratch) (sym e)
    (two_level_reads c.args.map.now c.args.at c.args.into c.args.scratch c.requires.map c.requires.distinct
    c.requires.below)) c.read_code.ensures

pub returns-clause-computes : goal.returns-clause-computes
returns-clause-computes c = IfOk-weaker _ _ _
    (λ r e. subst IsWithoutInputOutput (sym e)
    (computes (two_level_read c.args.at c.args.into c.args.scratch (c.args.scratch + 1) (c.args.scratch + 2)) refl)) c.read_code.ensures

pub returns-clause-shape : goal.returns-clause-shape
returns-clause-shape c = IfOk-weaker _ _ _
    (λ r e. subst (λ l. HasShape l 32 (c.args.scratch + 6)) (sym e)
    (more _ 16 32 (c.args.scratch + 3) (c.args.scratch + 6) (omega arith) (omega arith) (two_level_read_shape c.args.at c.args.into c.args.scratch c.requires.below))) c.read_code.ensures
