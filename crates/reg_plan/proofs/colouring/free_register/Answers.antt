use Rattle.std.proofs.Common.{◌≡◌, ℕ, ⊎_elim, true, false, subst, sym, arith}
use Rattle.std.proofs.lemmas.Bool.{cases_lt}
use Rattle.reg_plan.specs.Colours.{range_of}
use Rattle.reg_plan.specs.Accepted.{covers}
use Rattle.reg_plan.proofs.colouring.free_register.Goals as goal

pub loop-register-preserved : goal.loop-register-preserved
loop-register-preserved c =
    let v = c.loop-register.invariant in
    let n = c.loop-register.register in
    record {
      given = λ r h. ⊎_elim (λ o. let l = v.given r o in omega (arith, l)) (λ o. let e = o.0 in omega (arith, e))
          (c.better-best.ensures.one r h);
      free = λ r h pc k. ⊎_elim (λ o. v.free r o pc k)
          (λ o. subst (λ z. covers (range_of c.args.used.now z) pc ≡ false) (sym o.0) (o.1 pc k))
          (c.better-best.ensures.one r h);
      taken = λ h r lt. let o = c.better-best.ensures.none h in ⊎_elim (λ low. v.taken o.0 r low)
          (λ high. let e : n ≡ r = omega arith in
          subst (λ z. (pc : ℕ) × (covers c.args.range.now pc ≡ true)
          × (covers (range_of c.args.used.now z) pc ≡ true)) e o.1)
          (cases_lt r n);
    }
