use Rattle.std.proofs.Common.{◌≡◌, ⊎_elim, Some, subst, sym, ap, ◌∙◌, refl, arith, length}
use Rattle.std.specs.Prelude.{slice_get}
use Rattle.std.proofs.lemmas.Bool.{cases_lt}
use Rattle.std.proofs.lemmas.Option.{slice_get_read, slice_get_within}
use Rattle.flat_code.specs.declared.instruction.FlatInstruction.{FlatInstruction}
use Rattle.target_limits.specs.Planning.{HasNames}
use Rattle.target_limits.proofs.Planning.{named}
use Rattle.target_limits.proofs.plannable.is_named.Goals as goal

pub loop-place-preserved : goal.loop-place-preserved
loop-place-preserved c pc i lt h = ⊎_elim
    (λ low. c.loop-place.invariant pc i low h)
    (λ high. let body = c.args.body.now in
    let same : pc ≡ c.loop-place.place = omega arith in
    let here = slice_get_read body (length body) c.loop-place.place c.index-body-place.result refl
    c.loop-place-test.true c.index-body-place.is in
    let w : Some c.index-body-place.result ≡ Some i = sym here ∙ ap (slice_get body) (sym same) ∙ h in
    let e : c.index-body-place.result ≡ i = cc in
    subst (λ (j : FlatInstruction). HasNames c.args.program.now c.args.number j c.args.count) e
    (c.if-not-has_names.ensures refl))
    (cases_lt pc c.loop-place.place)

pub returns : goal.returns
returns c _ = named c.args.program.now c.args.number c.args.body.now c.args.count
    (λ pc i h. c.loop-place.invariant pc i
    (let l = slice_get_within c.args.body.now pc i h in omega (arith, c.loop-place-test.false)) h)
