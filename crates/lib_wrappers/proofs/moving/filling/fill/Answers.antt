use Rattle.std.proofs.Common.{sym, subst}
use Rattle.lib_wrappers.proofs.Shapes.{fill_shape}
use Rattle.flat_code.proofs.Routines.Shape.{same_shape}
use Rattle.std.proofs.lemmas.Result.{IfOk-weaker}
use Rattle.flat_code.proofs.Routines.Regions.{laid_out}
use Rattle.flat_actions.specs.Ranges.{IsFillRoutine}
use Rattle.lib_wrappers.proofs.MovingRoutines.Fills.{fills}
use Rattle.lib_wrappers.proofs.moving.filling.fill.Goals as goal

pub returns-clause-does : goal.returns-clause-does
returns-clause-does c = IfOk-weaker _ _ _
    (λ r e. subst (IsFillRoutine c.args.map.now c.args.to c.args.byte c.args.bytes c.args.scratch) (sym e)
    (fills c.args.map.now c.args.to c.args.byte c.args.bytes c.args.scratch
    (laid_out c.args.map.now c.requires.map) c.requires.below))
    c.fill_instructions.ensures

pub returns-clause-shape : goal.returns-clause-shape
returns-clause-shape c =
    let a = c.args in
    IfOk-weaker _ _ _ (λ r e. same_shape e (fill_shape a.to a.byte a.bytes a.scratch c.requires.below)) c.fill_instructions.ensures
