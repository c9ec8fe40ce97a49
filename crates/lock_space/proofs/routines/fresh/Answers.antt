use Rattle.std.proofs.Common.{sym, subst, ◌+◌, refl}
use Rattle.std.proofs.lemmas.Result.{IfOk-weaker}
use Rattle.lock_space.specs.Routines.{IsFreshRoutine}
use Rattle.lock_space.proofs.NewKeys.{fresh_does}
use Rattle.flat_code.specs.Routines.InputOutput.{IsWithoutInputOutput}
use Rattle.flat_code.proofs.Routines.InputOutput.{computes}
use Rattle.flat_code.specs.Routines.Shape.{HasShape}
use Rattle.lock_space.proofs.Shapes.{fresh_shape}
use Rattle.lock_space.specs.Routines.{fresh_code}
use Rattle.lock_space.proofs.routines.fresh.Goals as goal

pub returns-clause-does : goal.returns-clause-does
returns-clause-does c = IfOk-weaker _ _ _
    (λ r e. subst (IsFreshRoutine c.args.map.now c.args.key c.args.lock c.args.scratch) (sym e)
    (fresh_does c.args.map.now c.args.key c.args.lock c.args.scratch c.requires.map c.requires.distinct
    c.requires.below))
    c.fresh_instructions.ensures

pub returns-clause-computes : goal.returns-clause-computes
returns-clause-computes c = IfOk-weaker _ _ _
    (λ r e. subst IsWithoutInputOutput (sym e) (computes (fresh_code c.args.map.now c.args.key c.args.lock c.args.scratch (c.args.scratch + 1)) refl)) c.fresh_instructions.ensures

pub returns-clause-shape : goal.returns-clause-shape
returns-clause-shape c = IfOk-weaker _ _ _
    (λ r e. subst (λ l. HasShape l 14 (c.args.scratch + 2)) (sym e) (fresh_shape c.args.map.now c.requires.map c.args.key c.args.lock c.args.scratch c.requires.below)) c.fresh_instructions.ensures
