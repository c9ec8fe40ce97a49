-- How the plan of a function is looked up.
use Rattle.std.proofs.Common.{◌≡◌, ℕ, ◌<◌, List, length, Some, refl, sym, ◌∙◌, subst, get_or}
use Rattle.std.proofs.lemmas.Option.{slice_get_read}
use Rattle.reg_plan.specs.declared.lookup.LiveLookup.{LiveLookup}
use Rattle.reg_plan.specs.declared.plan.FunctionPlan.{FunctionPlan}
use Rattle.reg_plan.specs.Order.{IsLookup, IsLookupAt}

pub lookup_at : (live : LiveLookup) (plans : List FunctionPlan) (f : ℕ) (plan : FunctionPlan) → f < length plans
    → plan ≡ get_or plans f plan → IsLookupAt live plans f → IsLookup live plan
lookup_at live plans f plan lt is h = h plan (slice_get_read plans (length plans) f plan refl lt is)

pub lookup_from : (live : LiveLookup) (plans : List FunctionPlan) (f : ℕ) (plan : FunctionPlan) → f < length plans
    → plan ≡ get_or plans f plan → IsLookup live plan → IsLookupAt live plans f
lookup_from live plans f plan lt is h other at =
    let both : Some plan ≡ Some other = sym (slice_get_read plans (length plans) f plan refl lt is) ∙ at in
    let same : plan ≡ other = cc in
    subst (IsLookup live) same h
