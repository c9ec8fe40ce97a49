use Rattle.std.proofs.Common.{◌≡◌, ⊎_elim, Some, subst, sym, ap, ◌∙◌, refl, arith, length}
use Rattle.std.specs.Prelude.{slice_get}
use Rattle.std.proofs.lemmas.Bool.{cases_lt}
use Rattle.std.proofs.lemmas.Option.{slice_get_read, slice_get_within}
use Rattle.flat_code.specs.declared.instruction.FlatInstruction.{FlatInstruction}
use Rattle.reg_plan.specs.Tests.{IsClosedAt}
use Rattle.reg_plan.proofs.closed.is_closed.Goals as goal

pub loop-place-preserved : goal.loop-place-preserved
loop-place-preserved c pc i lt h = ⊎_elim
    (λ low. c.loop-place.invariant pc i low h)
    (λ high. let body = c.args.body.now in
    let same : pc ≡ c.loop-place.place = omega arith in
    let here = slice_get_read body (length body) c.loop-place.place c.index-body-place.result refl
    c.loop-place-test.true c.index-body-place.is in
    let w : Some c.index-body-place.result ≡ Some i = sym here ∙ ap (slice_get body) (sym same) ∙ h in
    let e : c.index-body-place.result ≡ i = cc in
    subst (λ n. IsClosedAt c.args.program.now c.args.number (length body) c.args.plan.now n i) (sym same)
    (subst (λ (j : FlatInstruction). IsClosedAt c.args.program.now c.args.number (length body) c.args.plan.now
    c.loop-place.place j) e (c.if-not-is_closed_at.ensures.yes refl)))
    (cases_lt pc c.loop-place.place)

pub returns-clause-yes : goal.returns-clause-yes
returns-clause-yes c _ pc i h = c.loop-place.invariant pc i
    (let l = slice_get_within c.args.body.now pc i h in omega (arith, c.loop-place-test.false)) h
