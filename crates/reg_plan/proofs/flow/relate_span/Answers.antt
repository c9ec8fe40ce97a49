use Rattle.std.proofs.Common.{◌≡◌, ◌+◌, ◌≤◌, ◌<◌, inl, inr, ⊎_elim, arith, refl, true, ◌∙◌}
use Rattle.std.proofs.lemmas.Bool.{cases_lt}
use Rattle.reg_plan.specs.Effects.{is_among}
use Rattle.reg_plan.proofs.Flows.{gains_none, gains_one, gains_as, among, among_low, among_high}
use Rattle.reg_plan.proofs.flow.relate_span.Goals as goal

pub loop-register-init : goal.loop-register-init
loop-register-init c = record {
  gains = gains_none c.args.relation.now (λ y. (c.from-first.result ≤ y) × (y < c.from-first.result)) c.args.node
      (λ a h. let l = h.0 in let g = h.1 in absurd (omega arith));
  size = refl;
  first = c.from-first.ensures;
  end = omega (arith, c.from-first.ensures, c.from.ensures);
}

pub relate-requires : goal.relate-requires
relate-requires c =
    let k = c.requires c.loop-register.register
    (among c.args.span c.loop-register.register (omega (arith, c.from-first.ensures))
    (omega (arith, c.from-first.ensures, c.from.ensures))) in
    omega (arith, k, c.loop-register.invariant.size)

pub loop-register-preserved : goal.loop-register-preserved
loop-register-preserved c =
    let r = c.in_ok-relate.ensures in
    let i = c.loop-register.register in
    record {
      gains = gains_one c.args.relation.now c.loop-register.relation c.relate.new.self
          (λ y. (c.from-first.result ≤ y) × (y < i)) (λ y. (c.from-first.result ≤ y) × (y < i + 1)) i c.args.node
          c.loop-register.invariant.gains r.added r.others
          (λ a h. let l = h.0 in let g = h.1 in ⊎_elim (λ lo. inl (l, lo)) (λ hi. inr (omega arith)) (cases_lt a i))
          (λ a h. let g = h.1 in (h.0, omega arith))
          (c.loop-register.auto.register, omega arith);
      size = r.size ∙ c.loop-register.invariant.size;
      first = c.from-first.ensures;
      end = omega (arith, c.from-first.ensures, c.from.ensures);
    }

pub returns-clause-gains : goal.returns-clause-gains
returns-clause-gains c =
    gains_as c.args.relation.now c.loop-register.relation
    (λ y. (c.from-first.result ≤ y) × (y < c.loop-register.register)) (λ y. is_among c.args.span y ≡ true)
    c.args.node c.loop-register.invariant.gains
    (λ y h. let l = h.0 in let g = h.1 in among c.args.span y (omega (arith, c.from-first.ensures))
    (omega (arith, c.from-first.ensures, c.from.ensures, c.loop-register.auto.register-end)))
    (λ y h. let l = among_low c.args.span y h in let g = among_high c.args.span y h in (
      omega (arith, c.from-first.ensures),
      omega
          (arith, c.from-first.ensures, c.from.ensures, c.loop-register-test.false),
    ))
