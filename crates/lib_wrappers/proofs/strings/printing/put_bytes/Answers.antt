use Rattle.std.proofs.Common.{sym, subst}
use Rattle.lib_wrappers.proofs.Shapes.{put_shape}
use Rattle.flat_code.proofs.Routines.Shape.{same_shape}
use Rattle.std.proofs.lemmas.Result.{IfOk-weaker}
use Rattle.lib_wrappers.specs.StringRoutines.Putting.{IsPutRoutine}
use Rattle.lib_wrappers.proofs.StringRoutines.PutLoop.{puts_out}
use Rattle.lib_wrappers.proofs.strings.printing.put_bytes.Goals as goal

pub returns-clause-does : goal.returns-clause-does
returns-clause-does c =
    let a = c.args in
    IfOk-weaker _ _ _
    (λ r e. subst (IsPutRoutine a.map.now a.from a.to a.scratch) (sym e)
    (puts_out a.map.now a.from a.to a.scratch c.requires.below))
    c.put_instructions.ensures

pub returns-clause-shape : goal.returns-clause-shape
returns-clause-shape c =
    let a = c.args in
    IfOk-weaker _ _ _ (λ r e. same_shape e (put_shape a.from a.to a.scratch c.requires.below)) c.put_instructions.ensures
