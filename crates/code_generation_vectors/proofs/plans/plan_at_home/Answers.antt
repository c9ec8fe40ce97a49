use Rattle.std.proofs.Common.{◌+◌, List, ap, ◌∙◌, subst, sym, refl, length}
use Rattle.std.specs.Prelude.{slice_get}
use Rattle.std.proofs.lemmas.Option.{slice_get_read}
use Rattle.reg_plan.specs.declared.plan.FunctionPlan.{FunctionPlan}
use Rattle.reg_plan.specs.Planned.{ArePlanned}
use Rattle.reg_plan.proofs.Plans.{planned_more}
use Rattle.code_generation_vectors.specs.Named.{HasNeeded}
use Rattle.code_generation_vectors.proofs.plans.plan_at_home.Goals as goal

pub loop-number-preserved : goal.loop-number-preserved
loop-number-preserved c =
    let functions = c.as_slice-functions.result.now in
    let f = c.index-functions-number.result in
    subst (λ (l : List FunctionPlan). ArePlanned c.args.program.now l (c.loop-number.number + 1)
    (HasNeeded c.args.program.now)) (sym c.in_ok-push.ensures.items)
    (planned_more c.args.program.now c.loop-number.plans.items c.loop-number.number (HasNeeded c.args.program.now) f
    c.in_ok-plan.plan c.loop-number.invariant
    (ap (λ l. slice_get l c.loop-number.number) (sym c.as_slice-functions.ensures)
    ∙ slice_get_read functions (length functions) c.loop-number.number f refl
    c.loop-number-test.true c.index-functions-number.is)
    c.in_ok-plan.ensures)
