use Rattle.std.proofs.Common.{refl, sym, subst}
use Rattle.std.proofs.lemmas.Result.{IfOk-weaker}
use Rattle.flat_code.specs.Routines.InputOutput.{IsWithoutInputOutput}
use Rattle.flat_code.proofs.Routines.InputOutput.{computes}
use Rattle.flat_actions.specs.Judgement.Code.{temporal_code}
use Rattle.flat_actions.specs.Judgement.Testing.{IsTemporalRoutine}
use Rattle.flat_actions.proofs.Judgement.Tests.{temporal_does}
use Rattle.flat_actions.proofs.testing.temporal_check.Goals as goal

pub returns-clause-does : goal.returns-clause-does
returns-clause-does c = IfOk-weaker _ _ _
    (λ r e. subst (IsTemporalRoutine c.args.pointer c.args.line c.args.scratch) (sym e)
    (temporal_does c.args.pointer c.args.line c.args.scratch c.requires.below))
    c.temporal_instructions.ensures

pub returns-clause-computes : goal.returns-clause-computes
returns-clause-computes c = IfOk-weaker _ _ _
    (λ r e. subst IsWithoutInputOutput (sym e)
    (computes (temporal_code c.args.pointer c.args.line c.args.scratch) refl)) c.temporal_instructions.ensures
