use Rattle.std.proofs.Common.{◌+◌, refl, sym, subst}
use Rattle.std.proofs.lemmas.Result.{IfOk-weaker}
use Rattle.flat_code.specs.Routines.InputOutput.{IsWithoutInputOutput}
use Rattle.flat_code.proofs.Routines.InputOutput.{computes}
use Rattle.lock_space.specs.Routines.{release_code}
use Rattle.lock_space.specs.Routines.{IsReleaseRoutine}
use Rattle.lock_space.proofs.FreedLocks.{release_does}
use Rattle.flat_code.specs.Routines.Shape.{HasShape}
use Rattle.lock_space.proofs.Shapes.{release_shape}
use Rattle.lock_space.proofs.routines.release.Goals as goal

pub returns-clause-does : goal.returns-clause-does
returns-clause-does c = IfOk-weaker _ _ _
    (λ r e. subst (IsReleaseRoutine c.args.map.now c.args.lock c.args.scratch) (sym e)
    (release_does c.args.map.now c.args.lock c.args.scratch c.requires.map c.requires.below))
    c.release_instructions.ensures

pub returns-clause-computes : goal.returns-clause-computes
returns-clause-computes c = IfOk-weaker _ _ _
    (λ r e. subst IsWithoutInputOutput (sym e)
    (computes (release_code c.args.map.now c.args.lock c.args.scratch (c.args.scratch + 1) (c.args.scratch + 2)) refl)) c.release_instructions.ensures

pub returns-clause-shape : goal.returns-clause-shape
returns-clause-shape c = IfOk-weaker _ _ _
    (λ r e. subst (λ l. HasShape l 11 (c.args.scratch + 3)) (sym e) (release_shape c.args.map.now c.requires.map c.args.lock c.args.scratch c.requires.below)) c.release_instructions.ensures
