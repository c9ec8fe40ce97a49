use Rattle.std.proofs.Common.{◌≡◌, ⊎_elim, Some, subst, sym, ap, ◌∙◌, refl, arith, length}
use Rattle.std.specs.Prelude.{slice_get}
use Rattle.std.proofs.lemmas.Bool.{cases_lt}
use Rattle.std.proofs.lemmas.Option.{slice_get_read, slice_get_within}
use Rattle.flat_code.specs.declared.function.FlatFunction.{FlatFunction}
use Rattle.reg_plan.specs.declared.plan.FunctionPlan.{FunctionPlan}
use Rattle.reg_plan.specs.Accepted.{IsAccepted}
use Rattle.reg_plan.proofs.accepts.accepts.Goals as goal

pub loop-number-preserved : goal.loop-number-preserved
loop-number-preserved c k f plan lt hf hp = ⊎_elim
    (λ low. c.loop-number.invariant k f plan low hf hp)
    (λ high. let n = c.loop-number.number in
    let same : k ≡ n = omega arith in
    let functions = c.as_slice-functions.result.now in
    let plans = c.as_slice-plans.result.now in
    let at_f = slice_get_read functions (length functions) n c.index-functions-number.result refl
    c.loop-number-test.true c.index-functions-number.is in
    let at_p = slice_get_read plans (length plans) n c.index-plans-number.result refl
    (omega (arith, c.loop-number-test.true, c.if-functions-plans.false)) c.index-plans-number.is in
    let wf : Some c.index-functions-number.result ≡ Some f = sym at_f ∙ ap (slice_get functions) (sym same) ∙ hf in
    let wp : Some c.index-plans-number.result ≡ Some plan = sym at_p ∙ ap (slice_get plans) (sym same) ∙ hp in
    let ef : c.index-functions-number.result ≡ f = cc in
    let ep : c.index-plans-number.result ≡ plan = cc in
    subst (λ z. IsAccepted c.args.program.now z f plan) (sym same)
    (subst (λ (q : FunctionPlan). IsAccepted c.args.program.now n f q) ep
    (subst (λ (g : FlatFunction). IsAccepted c.args.program.now n g c.index-plans-number.result) ef
    (c.if-not-is_accepted.ensures.yes refl))))
    (cases_lt k c.loop-number.number)

pub returns-clause-yes : goal.returns-clause-yes
returns-clause-yes c _ = record {
  size = ap length (sym c.as_slice-plans.ensures.value) ∙ sym c.if-functions-plans.false
      ∙ ap length c.as_slice-functions.ensures;
  each = λ k f plan hf hp.
      let f' = ap (λ l. slice_get l k) c.as_slice-functions.ensures ∙ hf in
      let p' = ap (λ l. slice_get l k) c.as_slice-plans.ensures.value ∙ hp in
      c.loop-number.invariant k f plan
      (let l = slice_get_within c.as_slice-functions.result.now k f f' in omega (arith, c.loop-number-test.false))
      f' p';
}
