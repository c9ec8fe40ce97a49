use Rattle.std.proofs.Common.{refl, sym, subst}
use Rattle.std.proofs.lemmas.Result.{IfOk-weaker}
use Rattle.flat_code.specs.Routines.InputOutput.{IsWithoutInputOutput}
use Rattle.flat_code.proofs.Routines.InputOutput.{computes}
use Rattle.flat_actions.specs.Narrowing.{IsNarrowRoutine, IsMoveOnRoutine, narrow_code}
use Rattle.flat_actions.proofs.Narrowed.{narrow_does, goes_on}
use Rattle.flat_actions.proofs.narrowing.narrow.Goals as goal

pub returns-clause-narrows : goal.returns-clause-narrows
returns-clause-narrows c = IfOk-weaker _ _ _
    (λ r e. subst (IsNarrowRoutine c.args.pointer c.args.offset c.args.size c.args.scratch) (sym e)
    (narrow_does c.args.pointer c.args.offset c.args.size c.args.scratch c.requires))
    c.narrow_instructions.ensures

pub returns-clause-goes_on : goal.returns-clause-goes_on
returns-clause-goes_on c = IfOk-weaker _ _ _
    (λ r e. subst (IsMoveOnRoutine c.args.pointer c.args.offset c.args.scratch) (sym e)
    (goes_on c.args.pointer c.args.offset c.args.size c.args.scratch c.requires))
    c.narrow_instructions.ensures

pub returns-clause-computes : goal.returns-clause-computes
returns-clause-computes c = IfOk-weaker _ _ _
    (λ r e. subst IsWithoutInputOutput (sym e)
    (computes (narrow_code c.args.pointer c.args.offset c.args.size c.args.scratch) refl)) c.narrow_instructions.ensures
