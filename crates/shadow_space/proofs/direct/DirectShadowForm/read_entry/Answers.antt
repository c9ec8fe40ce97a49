use Rattle.std.proofs.Common.{refl, sym, subst, ◌+◌, arith}
use Rattle.std.proofs.lemmas.Result.{IfOk-weaker}
use Rattle.flat_code.proofs.Routines.Regions.{laid_out}
use Rattle.flat_code.specs.Routines.InputOutput.{IsWithoutInputOutput}
use Rattle.flat_code.proofs.Routines.InputOutput.{computes}
use Rattle.shadow_space.specs.Direct.{direct_read}
use Rattle.shadow_space.specs.Form.{IsReadRoutine}
use Rattle.shadow_space.specs.Direct.{direct_entry}
use Rattle.shadow_space.proofs.Entries.{direct_reads}
use Rattle.flat_code.specs.Routines.Shape.{HasShape}
use Rattle.flat_code.proofs.Routines.Shape.{more}
use Rattle.shadow_space.proofs.Shapes.{direct_read_shape}
use Rattle.shadow_space.proofs.direct.DirectShadowForm.read_entry.Goals as goal

pub returns-clause-does : goal.returns-clause-does
returns-clause-does c = IfOk-weaker _ _ _
    (λ r e. subst (IsReadRoutine c.args.map.now direct_entry (λ m. Unit {0}) c.args.at c.args.into c.args.scratch)
    (sym e)
    (direct_reads c.args.map.now c.args.at c.args.into c.args.scratch (laid_out c.args.map.now c.requires.map)
    c.requires.distinct c.requires.below)) c.read_code.ensures

pub returns-clause-computes : goal.returns-clause-computes
returns-clause-computes c = IfOk-weaker _ _ _
    (λ r e. subst IsWithoutInputOutput (sym e)
    (computes (direct_read c.args.at c.args.into c.args.scratch) refl)) c.read_code.ensures

pub returns-clause-shape : goal.returns-clause-shape
returns-clause-shape c = IfOk-weaker _ _ _
    (λ r e. subst (λ l. HasShape l 32 (c.args.scratch + 6)) (sym e)
    (more _ 16 32 (c.args.scratch + 3) (c.args.scratch + 6) (omega arith) (omega arith) (direct_read_shape c.args.at c.args.into c.args.scratch c.requires.below))) c.read_code.ensures
