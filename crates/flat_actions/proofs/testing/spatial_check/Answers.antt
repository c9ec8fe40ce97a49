use Rattle.std.proofs.Common.{refl, sym, subst}
use Rattle.std.proofs.lemmas.Result.{IfOk-weaker}
use Rattle.flat_code.specs.Routines.InputOutput.{IsWithoutInputOutput}
use Rattle.flat_code.proofs.Routines.InputOutput.{computes}
use Rattle.flat_actions.specs.Judgement.Code.{spatial_code}
use Rattle.flat_actions.specs.Judgement.Testing.{IsSpatialRoutine}
use Rattle.flat_actions.proofs.Judgement.Tests.{spatial_does}
use Rattle.flat_actions.proofs.testing.spatial_check.Goals as goal

pub returns-clause-does : goal.returns-clause-does
returns-clause-does c = IfOk-weaker _ _ _
    (λ r e. subst (IsSpatialRoutine c.args.pointer c.args.size c.args.line c.args.scratch) (sym e)
    (spatial_does c.args.pointer c.args.size c.args.line c.args.scratch c.requires.below c.requires.size))
    c.spatial_instructions.ensures

pub returns-clause-computes : goal.returns-clause-computes
returns-clause-computes c = IfOk-weaker _ _ _
    (λ r e. subst IsWithoutInputOutput (sym e)
    (computes (spatial_code c.args.pointer c.args.size c.args.line c.args.scratch) refl)) c.spatial_instructions.ensures
