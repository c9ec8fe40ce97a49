use Rattle.std.proofs.Common.{sym, subst, ◌+◌, refl}
use Rattle.std.proofs.lemmas.Result.{IfOk-weaker}
use Rattle.flat_code.proofs.Routines.Regions.{laid_out}
use Rattle.shadow_space.specs.Form.{IsClearRoutine}
use Rattle.shadow_space.specs.Direct.{direct_entry}
use Rattle.shadow_space.proofs.Clearing.{direct_clears}
use Rattle.flat_code.specs.Routines.InputOutput.{IsWithoutInputOutput}
use Rattle.flat_code.proofs.Routines.InputOutput.{computes}
use Rattle.flat_code.specs.Routines.Shape.{HasShape}
use Rattle.shadow_space.proofs.Shapes.{direct_clear_shape}
use Rattle.shadow_space.specs.Direct.{direct_clear}
use Rattle.shadow_space.proofs.direct.DirectShadowForm.clear.Goals as goal

pub returns-clause-does : goal.returns-clause-does
returns-clause-does c = IfOk-weaker _ _ _
    (λ r e. subst (IsClearRoutine c.args.map.now direct_entry (λ m. Unit {0}) c.args.first c.args.bytes c.args.scratch)
    (sym e)
    (direct_clears c.args.map.now c.args.first c.args.bytes c.args.scratch (laid_out c.args.map.now c.requires.map)
    c.requires.below)) c.clear_code.ensures

pub returns-clause-computes : goal.returns-clause-computes
returns-clause-computes c = IfOk-weaker _ _ _
    (λ r e. subst IsWithoutInputOutput (sym e) (computes (direct_clear c.args.first c.args.bytes c.args.scratch (c.args.scratch + 1) (c.args.scratch + 2)) refl)) c.clear_code.ensures

pub returns-clause-shape : goal.returns-clause-shape
returns-clause-shape c = IfOk-weaker _ _ _
    (λ r e. subst (λ l. HasShape l 32 (c.args.scratch + 6)) (sym e) (direct_clear_shape c.args.first c.args.bytes c.args.scratch c.requires.below)) c.clear_code.ensures
