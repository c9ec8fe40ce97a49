use Rattle.std.proofs.Common.{◌≡◌, ⊎_elim, Some, subst, sym, ap, ◌∙◌, refl, arith, length}
use Rattle.std.specs.Prelude.{slice_get}
use Rattle.std.proofs.lemmas.Bool.{cases_lt}
use Rattle.std.proofs.lemmas.Option.{slice_get_read, slice_get_within}
use Rattle.flat_code.specs.declared.function.FlatFunction.{FlatFunction}
use Rattle.reg_plan.specs.Planned.{IsPlannable}
use Rattle.target_limits.proofs.plannable.is_plannable.Goals as goal

pub loop-number-preserved : goal.loop-number-preserved
loop-number-preserved c k f lt h = ⊎_elim
    (λ low. c.loop-number.invariant k f low h)
    (λ high. let n = c.loop-number.number in
    let same : k ≡ n = omega arith in
    let functions = c.as_slice-functions.result.now in
    let here = slice_get_read functions (length functions) n c.index-functions-number.result refl
    c.loop-number-test.true c.index-functions-number.is in
    let w : Some c.index-functions-number.result ≡ Some f = sym here ∙ ap (slice_get functions) (sym same) ∙ h in
    let e : c.index-functions-number.result ≡ f = cc in
    subst (λ q. IsPlannable c.args.program.now q f) (sym same)
    (subst (λ (g : FlatFunction). IsPlannable c.args.program.now n g) e
    (c.in_ok-can_plan.ensures c.if-not-branch.false)))
    (cases_lt k c.loop-number.number)

pub returns-clause-plannable : goal.returns-clause-plannable
returns-clause-plannable c _ k f h =
    let there = ap (λ l. slice_get l k) c.as_slice-functions.ensures ∙ h in
    let l = slice_get_within c.as_slice-functions.result.now k f there in
    c.loop-number.invariant k f (omega (arith, c.loop-number-test.false)) there
