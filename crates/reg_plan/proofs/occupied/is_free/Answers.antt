use Rattle.std.proofs.Common.{◌≡◌, ⊎_elim, Some, true, subst, sym, ap, ◌∙◌, arith, refl, get_or}
use Rattle.std.specs.Prelude.{slice_get}
use Rattle.std.proofs.lemmas.Bool.{cases_lt}
use Rattle.std.proofs.lemmas.Option.{slice_get-get_or, slice_get_within}
use Rattle.reg_plan.specs.declared.plan.LiveInterval.{LiveInterval}
use Rattle.reg_plan.specs.Accepted.{holds}
use Rattle.reg_plan.proofs.GivingOut.{covers_by}
use Rattle.reg_plan.proofs.occupied.is_free.Goals as goal

pub loop-interval-preserved : goal.loop-interval-preserved
loop-interval-preserved c k pc i lt h e =
    let n = c.loop-interval.interval-index in
    ⊎_elim
    (λ low. c.loop-interval.invariant k pc i low h e)
    (λ high. let same : k ≡ n = omega arith in
    let here = slice_get-get_or c.args.range.now n (record { start = 0; end = 0 }) c.loop-interval-test.true in
    let w : Some i ≡ Some (get_or c.args.range.now n (record { start = 0; end = 0 })) = sym h
    ∙ ap (slice_get c.args.range.now) same ∙ here in
    let q : i ≡ get_or c.args.range.now n (record { start = 0; end = 0 }) = cc in
    c.if-not-is_interval_free.ensures.free refl pc (subst (λ (j : LiveInterval). holds j pc ≡ true) q e))
    (cases_lt k n)

pub returns-clause-free : goal.returns-clause-free
returns-clause-free c _ pc h =
    let o = covers_by c.args.range.now pc h in
    c.loop-interval.invariant o.0 pc o.1
    (let l = slice_get_within c.args.range.now o.0 o.1 o.2 in omega (arith, c.loop-interval-test.false)) o.2 o.3
