use Rattle.std.proofs.Common.{sym, subst, refl}
use Rattle.std.proofs.lemmas.Result.{IfOk-weaker}
use Rattle.flat_code.proofs.Routines.Shape.{same_shape}
use Rattle.lib_wrappers.proofs.MovingRoutines.Bytes.{moves_usable}
use Rattle.flat_code.proofs.Routines.InputOutput.{computes}
use Rattle.lib_wrappers.specs.MovingRoutines.Moving.{IsUsableMoveRoutine, move_bytes_code}
use Rattle.lib_wrappers.proofs.Quiet.{same_quiet}
use Rattle.lib_wrappers.proofs.Shapes.{move_bytes_shape}
use Rattle.lib_wrappers.proofs.moving.moving.move_usable.Goals as goal

pub returns-clause-does : goal.returns-clause-does
returns-clause-does c = IfOk-weaker _ _ _
    (λ r e. subst (IsUsableMoveRoutine c.args.map.now c.args.to c.args.from c.args.bytes c.args.scratch) (sym e)
    (moves_usable c.args.map.now c.args.to c.args.from c.args.bytes c.args.scratch c.requires.below))
    c.move_bytes_instructions.ensures

pub returns-clause-computes : goal.returns-clause-computes
returns-clause-computes c =
    let a = c.args in
    IfOk-weaker _ _ _ (λ r e. same_quiet e (computes (move_bytes_code a.to a.from a.bytes a.scratch) refl))
    c.move_bytes_instructions.ensures

pub returns-clause-shape : goal.returns-clause-shape
returns-clause-shape c =
    let a = c.args in
    IfOk-weaker _ _ _ (λ r e. same_shape e (move_bytes_shape a.to a.from a.bytes a.scratch c.requires.below))
    c.move_bytes_instructions.ensures
