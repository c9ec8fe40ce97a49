use Rattle.std.proofs.Common.{refl, sym, subst, ◌+◌, arith}
use Rattle.std.proofs.lemmas.Result.{IfOk-weaker}
use Rattle.flat_code.proofs.Routines.Regions.{laid_out}
use Rattle.flat_code.specs.Routines.InputOutput.{IsWithoutInputOutput}
use Rattle.flat_code.proofs.Routines.InputOutput.{computes}
use Rattle.shadow_space.specs.Direct.{direct_write}
use Rattle.shadow_space.specs.Form.{IsWriteRoutine}
use Rattle.shadow_space.specs.Direct.{direct_entry}
use Rattle.shadow_space.proofs.Entries.{direct_writes}
use Rattle.flat_code.specs.Routines.Shape.{HasShape}
use Rattle.flat_code.proofs.Routines.Shape.{more}
use Rattle.shadow_space.proofs.Shapes.{direct_write_shape}
use Rattle.shadow_space.proofs.direct.DirectShadowForm.write_entry.Goals as goal

pub returns-clause-does : goal.returns-clause-does
returns-clause-does c = IfOk-weaker _ _ _
    (λ r e. subst (IsWriteRoutine c.args.map.now direct_entry (λ m. Unit {0}) c.args.at c.args.from c.args.scratch)
    (sym e)
    (direct_writes c.args.map.now c.args.at c.args.from c.args.scratch (laid_out c.args.map.now c.requires.map)
    c.requires.below)) c.write_code.ensures

pub returns-clause-computes : goal.returns-clause-computes
returns-clause-computes c = IfOk-weaker _ _ _
    (λ r e. subst IsWithoutInputOutput (sym e)
    (computes (direct_write c.args.at c.args.from c.args.scratch) refl)) c.write_code.ensures

pub returns-clause-shape : goal.returns-clause-shape
returns-clause-shape c = IfOk-weaker _ _ _
    (λ r e. subst (λ l. HasShape l 32 (c.args.scratch + 6)) (sym e)
    (more _ 22 32 (c.args.scratch + 5) (c.args.scratch + 6) (omega arith) (omega arith) (direct_write_shape c.args.at c.args.from c.args.scratch c.requires.below))) c.write_code.ensures
