use Rattle.std.proofs.Common.{sym, subst, ◌+◌, refl}
use Rattle.std.proofs.lemmas.Result.{IfOk-weaker}
use Rattle.lock_space.specs.Routines.{IsNextRoutine}
use Rattle.lock_space.proofs.NewKeys.{next_does}
use Rattle.flat_code.specs.Routines.InputOutput.{IsWithoutInputOutput}
use Rattle.flat_code.proofs.Routines.InputOutput.{computes}
use Rattle.flat_code.specs.Routines.Shape.{HasShape}
use Rattle.lock_space.proofs.Shapes.{next_shape}
use Rattle.lock_space.specs.Routines.{next_code}
use Rattle.lock_space.proofs.routines.next.Goals as goal

pub returns-clause-does : goal.returns-clause-does
returns-clause-does c = IfOk-weaker _ _ _
    (λ r e. subst (IsNextRoutine c.args.map.now c.args.key c.args.scratch) (sym e)
    (next_does c.args.map.now c.args.key c.args.scratch c.requires.map c.requires.below))
    c.next_instructions.ensures

pub returns-clause-computes : goal.returns-clause-computes
returns-clause-computes c = IfOk-weaker _ _ _
    (λ r e. subst IsWithoutInputOutput (sym e) (computes (next_code c.args.map.now c.args.key c.args.scratch) refl)) c.next_instructions.ensures

pub returns-clause-shape : goal.returns-clause-shape
returns-clause-shape c = IfOk-weaker _ _ _
    (λ r e. subst (λ l. HasShape l 3 (c.args.scratch + 1)) (sym e) (next_shape c.args.map.now c.requires.map c.args.key c.args.scratch c.requires.below)) c.next_instructions.ensures
