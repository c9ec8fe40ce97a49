use Rattle.std.proofs.Common.{◌+◌, refl, sym, subst, arith}
use Rattle.std.proofs.lemmas.Result.{IfOk-weaker}
use Rattle.flat_code.specs.Routines.InputOutput.{IsWithoutInputOutput}
use Rattle.flat_code.proofs.Routines.InputOutput.{computes}
use Rattle.shadow_space.specs.TwoLevel.Code.{two_level_write}
use Rattle.shadow_space.specs.Form.{IsWriteRoutine}
use Rattle.shadow_space.specs.TwoLevel.Tables.{two_level_entry, AreTablesGood}
use Rattle.shadow_space.proofs.TwoLevel.Writing.{two_level_writes}
use Rattle.flat_code.specs.Routines.Shape.{HasShape}
use Rattle.flat_code.proofs.Routines.Shape.{more}
use Rattle.shadow_space.proofs.Shapes.{two_level_write_shape}
use Rattle.shadow_space.proofs.two_levels.two_level.TwoLevelShadowForm.write_entry.Goals as goal

pub returns-clause-does : goal.returns-clause-does
returns-clause-does c = IfOk-weaker _ _ _
    (λ r e. subst (IsWriteRoutine c.args.map.now two_level_entry (AreTablesGood c.args.map.now) c.args.at c.args.from
    c.args.scratch) (sym e)
    (two_level_writes c.args.map.now c.args.at c.args.from c.args.scratch c.requires.map c.requires.below))
    c.write_code.ensures

pub returns-clause-computes : goal.returns-clause-computes
returns-clause-computes c = IfOk-weaker _ _ _
    (λ r e. subst IsWithoutInputOutput (sym e)
    (computes (two_level_write c.args.map.now c.args.at c.args.from c.args.scratch (c.args.scratch + 1) (c.args.scratch + 2)
    (c.args.scratch + 3) (c.args.scratch + 4)) refl)) c.write_code.ensures

pub returns-clause-shape : goal.returns-clause-shape
returns-clause-shape c = IfOk-weaker _ _ _
    (λ r e. subst (λ l. HasShape l 32 (c.args.scratch + 6)) (sym e)
    (more _ 22 32 (c.args.scratch + 5) (c.args.scratch + 6) (omega arith) (omega arith) (two_level_write_shape c.args.map.now c.requires.map c.args.at c.args.from c.args.scratch c.requires.below))) c.write_code.ensures
