use Rattle.std.proofs.Common.{◌≡◌, ⊎_elim, subst, sym, refl, arith}
use Rattle.std.proofs.lemmas.Bool.{cases_lt}
use Rattle.reg_plan.specs.Tests.{IsKept}
use Rattle.reg_plan.proofs.Exact.{kept_past}
use Rattle.reg_plan.proofs.accepts.are_kept.Goals as goal

pub loop-register-preserved : goal.loop-register-preserved
loop-register-preserved c x lt = ⊎_elim
    (λ low. c.loop-register.invariant x low)
    (λ high. let same : x ≡ c.loop-register.register = omega arith in
    subst (IsKept c.args.function.now c.args.plan.now c.args.count) (sym same) (c.if-not-is_kept.ensures.yes refl))
    (cases_lt x c.loop-register.register)

pub returns-clause-yes : goal.returns-clause-yes
returns-clause-yes c _ x = ⊎_elim
    (λ low. c.loop-register.invariant x low)
    (λ high. kept_past c.args.function.now c.args.plan.now c.args.count x (omega (arith, c.loop-register-test.false)))
    (cases_lt x c.loop-register.register)
