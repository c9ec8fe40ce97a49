use Rattle.std.proofs.Common.{sym, subst}
use Rattle.flat_actions.proofs.Shapes.{judge_shape}
use Rattle.flat_code.proofs.Routines.Shape.{same_shape}
use Rattle.std.proofs.lemmas.Result.{IfOk-weaker}
use Rattle.flat_actions.specs.Judgement.Judging.{IsJudgeRoutine}
use Rattle.flat_actions.proofs.Judgement.Judges.{judges}
use Rattle.flat_actions.proofs.judging.judge.Goals as goal

pub returns-clause-does : goal.returns-clause-does
returns-clause-does c = IfOk-weaker _ _ _
    (λ r e. subst (IsJudgeRoutine c.args.pointer c.args.size c.args.line c.args.scratch) (sym e)
    (judges c.args.pointer c.args.size c.args.line c.args.scratch c.requires.below))
    c.judge_instructions.ensures

pub returns-clause-shape : goal.returns-clause-shape
returns-clause-shape c = IfOk-weaker _ _ _
    (λ r e. same_shape e (judge_shape c.args.pointer c.args.size c.args.line c.args.scratch c.requires.below))
    c.judge_instructions.ensures
