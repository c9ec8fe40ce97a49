-- A propagated program can be planned where each register of the program has a home of its own.
use Rattle.std.proofs.Common.{◌≡◌, ◌⊎◌, inl, inr, ⊎_elim, ℕ, suc, ◌+◌, ◌-◌, ◌<◌, refl, sym, ap, ◌∙◌, subst}
use Rattle.std.proofs.Common.{arith, true, List, [], ◌∷◌, length, Option, Some, None}
use Rattle.std.specs.Prelude.{slice_get}
use Rattle.std.specs.Option.{option_map}
use Rattle.std.proofs.lemmas.Option.{same_Some, none-some, slice_get-map}
use Rattle.std.proofs.lemmas.Bool.{eq-eqb}
use Rattle.addr_map.specs.Places.{MapSizes}
use Rattle.flat_code.specs.declared.instruction.FlatInstruction.{FlatInstruction}
use Rattle.flat_code.specs.declared.instruction.FlatInstruction.TheVariants as flat
use Rattle.flat_code.specs.declared.function.FlatFunction.{FlatFunction}
use Rattle.flat_code.specs.declared.function.FlatProgram.{FlatProgram}
use Rattle.reg_plan.specs.declared.effects.Span.{Span}
use Rattle.reg_plan.specs.Effects.{read_by, is_read, made_by, makes_only, is_among, one, none, many, next_of, taken_of}
use Rattle.reg_plan.specs.Effects.{Leads}
use Rattle.reg_plan.specs.Needs.{ReadsAt, MakesAt, AlwaysMakesAt, LeadsAt, IsNeeded, Read, Made, Before}
use Rattle.reg_plan.specs.Planned.{IsPlannable, ArePlannable}
use Rattle.flat_propagation.specs.Facts.{Facts}
use Rattle.flat_propagation.specs.Known.{after, jumps_to, known_at}
use Rattle.flat_propagation.specs.Propagated.{right_source, rewritten, rewritten_from}
use Rattle.flat_propagation.specs.Propagated.{propagated_function, propagated}
use Rattle.flat_propagation.proofs.Meaning.{moved_is, branch_is, target_at, target_knows, next_knows, get_rewritten}
use Rattle.flat_propagation.proofs.Meaning.{results_same}
use Rattle.image_laws.specs.Propagation.Homes.{IsUsed, HasHomes, HaveHomes}
use Rattle.image_laws.proofs.Propagation.Fits.{known_has}
use Rattle.image_laws.proofs.Propagation.Registers.{Speaks, OfFact, of_fact, speaks_of, rewritten_reads, after_of}

-- ---- what an instruction makes, and where it leads

next_same : (k : Facts) (i : FlatInstruction) (pc : ℕ) → next_of (rewritten k i) pc ≡ next_of i pc
unfolding rewritten
next_same k (flat.Constant x n) pc = refl
next_same k (flat.Move x y) pc = moved_is (λ i. next_of i pc ≡ Some (pc + 1)) x y (λ z. refl) (λ n e. refl) (k y)
next_same k (flat.Operate op x y z) pc = refl
next_same k (flat.Operate32 op x y z) pc = refl
next_same k (flat.Load op x y offset) pc = refl
next_same k (flat.Store op y offset x) pc = refl
next_same k (flat.Branch op y z past) pc =
    branch_is (λ i. next_of i pc ≡ Some (pc + 1)) past (λ o a b. refl) op (k y) y (right_source k z)
next_same k (flat.JumpForward past) pc = refl
next_same k (flat.JumpBack back) pc = refl
next_same k flat.Turn pc = refl
next_same k (flat.Call g first x) pc = refl
next_same k (flat.CallAddress y first n x r) pc = refl
next_same k (flat.Return y) pc = refl
next_same k (flat.Get x) pc = refl
next_same k (flat.Put x) pc = refl
next_same k (flat.Exit x) pc = refl
next_same k (flat.End e) pc = refl
next_same k (flat.Charged x) pc = refl

-- whether a value is all that an instruction makes
only_same : (k : Facts) (i : FlatInstruction) → makes_only (rewritten k i) ≡ makes_only i
unfolding rewritten
only_same k (flat.Constant x n) = refl
only_same k (flat.Move x y) = moved_is (λ i. makes_only i ≡ Some x) x y (λ z. refl) (λ n e. refl) (k y)
only_same k (flat.Operate op x y z) = refl
only_same k (flat.Operate32 op x y z) = refl
only_same k (flat.Load op x y offset) = refl
only_same k (flat.Store op y offset x) = refl
only_same k (flat.Branch op y z past) =
    branch_is (λ i. makes_only i ≡ None) past (λ o a b. refl) op (k y) y (right_source k z)
only_same k (flat.JumpForward past) = refl
only_same k (flat.JumpBack back) = refl
only_same k flat.Turn = refl
only_same k (flat.Call g first x) = refl
only_same k (flat.CallAddress y first n x r) = refl
only_same k (flat.Return y) = refl
only_same k (flat.Get x) = refl
only_same k (flat.Put x) = refl
only_same k (flat.Exit x) = refl
only_same k (flat.End e) = refl
only_same k (flat.Charged x) = refl

taken_same : (k : Facts) (i : FlatInstruction) (pc : ℕ) → taken_of (rewritten k i) pc ≡ taken_of i pc
unfolding rewritten
taken_same k (flat.Constant x n) pc = refl
taken_same k (flat.Move x y) pc = moved_is (λ i. taken_of i pc ≡ None) x y (λ z. refl) (λ n e. refl) (k y)
taken_same k (flat.Operate op x y z) pc = refl
taken_same k (flat.Operate32 op x y z) pc = refl
taken_same k (flat.Load op x y offset) pc = refl
taken_same k (flat.Store op y offset x) pc = refl
taken_same k (flat.Branch op y z past) pc =
    branch_is (λ i. taken_of i pc ≡ Some (pc + 1 + past)) past (λ o a b. refl) op (k y) y (right_source k z)
taken_same k (flat.JumpForward past) pc = refl
taken_same k (flat.JumpBack back) pc = refl
taken_same k flat.Turn pc = refl
taken_same k (flat.Call g first x) pc = refl
taken_same k (flat.CallAddress y first n x r) pc = refl
taken_same k (flat.Return y) pc = refl
taken_same k (flat.Get x) pc = refl
taken_same k (flat.Put x) pc = refl
taken_same k (flat.Exit x) pc = refl
taken_same k (flat.End e) pc = refl
taken_same k (flat.Charged x) pc = refl

-- on to the next one, or by a jump
leads_by : (i : FlatInstruction) (pc q : ℕ) → Leads i pc q → (q ≡ pc + 1) ⊎ (jumps_to i pc q ≡ true)
leads_by i pc q (inl e) = by i e
  where
    on : Some (pc + 1) ≡ Some q → q ≡ pc + 1
    on e = sym (same_Some (pc + 1) q e)

    by : (i : FlatInstruction) → next_of i pc ≡ Some q → (q ≡ pc + 1) ⊎ (jumps_to i pc q ≡ true)
    by (flat.Constant x n) e = inl (on e)
    by (flat.Move x y) e = inl (on e)
    by (flat.Operate op x y z) e = inl (on e)
    by (flat.Operate32 op x y z) e = inl (on e)
    by (flat.Load op x y offset) e = inl (on e)
    by (flat.Store op y offset x) e = inl (on e)
    by (flat.Branch op y z past) e = inl (on e)
    by (flat.JumpForward past) e = inr (eq-eqb (pc + 1 + past) q (same_Some (pc + 1 + past) q e))
    by (flat.JumpBack back) e = inr (eq-eqb (pc - back) q (same_Some (pc - back) q e))
    by flat.Turn e = inl (on e)
    by (flat.Call g first x) e = inl (on e)
    by (flat.CallAddress y first n x r) e = inl (on e)
    by (flat.Return y) e = absurd (none-some q e)
    by (flat.Get x) e = inl (on e)
    by (flat.Put x) e = inl (on e)
    by (flat.Exit x) e = absurd (none-some q e)
    by (flat.End x) e = absurd (none-some q e)
    by (flat.Charged x) e = inl (on e)
leads_by i pc q (inr e) = by i e
  where
    by : (i : FlatInstruction) → taken_of i pc ≡ Some q → (q ≡ pc + 1) ⊎ (jumps_to i pc q ≡ true)
    by (flat.Branch op y z past) e = inr (eq-eqb (pc + 1 + past) q (same_Some (pc + 1 + past) q e))
    by _ e = absurd (none-some q e)

rewritten_length : (body is : List FlatInstruction) (a : ℕ) → length (rewritten_from body a is) ≡ length is
unfolding rewritten_from
rewritten_length body [] a = refl
rewritten_length body (i ∷ is) a = ap suc (rewritten_length body is (a + 1))

module _ (m : MapSizes) (p : FlatProgram) (f : ℕ) (body : List FlatInstruction) where
  abbrev q : FlatProgram
  q = propagated p

  abbrev body' : List FlatInstruction
  body' = rewritten_from body 0 body

  made_same : (k : Facts) (i : FlatInstruction) → made_by q (rewritten k i) ≡ made_by p i
  unfolding rewritten
  made_same k (flat.Constant x n) = refl
  made_same k (flat.Move x y) = moved_is (λ i. made_by q i ≡ one x) x y (λ z. refl) (λ n e. refl) (k y)
  made_same k (flat.Operate op x y z) = refl
  made_same k (flat.Operate32 op x y z) = refl
  made_same k (flat.Load op x y offset) = refl
  made_same k (flat.Store op y offset x) = refl
  made_same k (flat.Branch op y z past) =
      branch_is (λ i. made_by q i ≡ none) past (λ o a b. refl) op (k y) y (right_source k z)
  made_same k (flat.JumpForward past) = refl
  made_same k (flat.JumpBack back) = refl
  made_same k flat.Turn = refl
  made_same k (flat.Call g first x) = ap (many x) (results_same m p g)
  made_same k (flat.CallAddress y first n x r) = refl
  made_same k (flat.Return y) = refl
  made_same k (flat.Get x) = refl
  made_same k (flat.Put x) = refl
  made_same k (flat.Exit x) = refl
  made_same k (flat.End e) = refl
  made_same k (flat.Charged x) = refl

  -- ---- instructions by their places

  abbrev IsRewritten : (pc : ℕ) → FlatInstruction → Type 0
  IsRewritten pc j = (i : FlatInstruction) × (slice_get body pc ≡ Some i) × (rewritten (known_at body pc) i ≡ j)

  pub original : (pc : ℕ) (j : FlatInstruction) → slice_get body' pc ≡ Some j → IsRewritten pc j
  original pc j at =
      let z : 0 + pc ≡ pc = omega arith in
      by (slice_get body pc) refl
      (ap (λ n. option_map (rewritten (known_at body n)) (slice_get body pc)) (sym z)
      ∙ sym (get_rewritten body body 0 pc) ∙ at)
    where
      by : (o : Option FlatInstruction) → slice_get body pc ≡ o
          → option_map (rewritten (known_at body pc)) o ≡ Some j → IsRewritten pc j
      by None s e = absurd (none-some j e)
      by (Some i) s e = (i, s, same_Some (rewritten (known_at body pc) i) j e)

  leads_at : (pc n : ℕ) → LeadsAt body' pc n → LeadsAt body pc n
  leads_at pc n l =
      let o = original pc l.0 l.1 in
      let k = known_at body pc in
      let back : Leads (rewritten k o.0) pc n = subst (λ i. Leads i pc n) (sym o.2) l.2 in (
        o.0,
        o.1,
        ⊎_elim (λ e. inl (sym (next_same k o.0 pc) ∙ e)) (λ e. inr (sym (taken_same k o.0 pc) ∙ e)) back,
        subst (λ z. n < z) (rewritten_length body body 0) l.3,
      )

  makes_at : (pc y : ℕ) → MakesAt q body' pc y → MakesAt p body pc y
  makes_at pc y h =
      let o = original pc h.0 h.1 in (
        o.0,
        o.1,
        subst (λ (s : Span). is_among s y ≡ true) (made_same (known_at body pc) o.0)
            (subst (λ i. is_among (made_by q i) y ≡ true) (sym o.2) h.2),
      )

  always_makes_at : (pc y : ℕ) → AlwaysMakesAt q body' pc y → AlwaysMakesAt p body pc y
  always_makes_at pc y h =
      let o = original pc h.0 h.1 in (
        o.0,
        o.1,
        subst (λ (s : Span). is_among s y ≡ true) (made_same (known_at body pc) o.0)
            (subst (λ i. is_among (made_by q i) y ≡ true) (sym o.2) h.2),
        sym (only_same (known_at body pc) o.0) ∙ ap makes_only o.2 ∙ h.3,
      )

  at_makes : (pc y : ℕ) → MakesAt p body pc y → MakesAt q body' pc y
  at_makes pc y h =
      let k = known_at body pc in
      let z : 0 + pc ≡ pc = omega arith in (
        rewritten k h.0,
        get_rewritten body body 0 pc
            ∙ ap (λ n. option_map (rewritten (known_at body n)) (slice_get body pc)) z
            ∙ ap (option_map (rewritten k)) h.1,
        subst (λ (s : Span). is_among s y ≡ true) (sym (made_same k h.0)) h.2,
      )

  -- ---- what is read

  -- of known facts, and of what is read, where all that is read is such
  module _ (R : ℕ → Type 0) (reads : (pc y : ℕ) → ReadsAt p f body pc y → R y) where
    known_of : (pc y : ℕ) → OfFact m p f R (known_at body pc y)
    known_of pc y =
        known_has (OfFact m p f R) body tt
        (λ n i k at h z. after_of m p f R k h i (λ x e. reads n x (i, at, e)) z) pc y

    pub reads_at : (pc y : ℕ) → ReadsAt q f body' pc y → R y
    reads_at pc y h =
        let o = original pc h.0 h.1 in
        rewritten_reads m p f R (known_at body pc) (known_of pc) o.0 (λ x e. reads pc x (o.0, o.1, e)) y
        (subst (λ i. is_read (read_by q f i) y ≡ true) (sym o.2) h.2)

  -- ---- what is needed

  abbrev IsSpoken : (pc y : ℕ) → Type 0
  IsSpoken pc y = (z : ℕ) × Speaks (known_at body pc z) y

  -- it was, or a fact speaks of it
  abbrev Was : (pc y : ℕ) → Type 0
  Was pc y = IsNeeded p f body pc y ⊎ IsSpoken pc y

  spoken_of : (pc z : ℕ) → OfFact m p f (Was pc) (known_at body pc z)
  spoken_of pc z = of_fact m p f (Was pc) (known_at body pc z) (λ y s. inr (z, s))

  was_read : (pc : ℕ) (i : FlatInstruction) → slice_get body pc ≡ Some i → (y : ℕ)
      → is_read (read_by p f i) y ≡ true → Was pc y
  was_read pc i at y e = inl (Read pc y (i, at, e))

  needed_was : (pc y : ℕ) → IsNeeded q f body' pc y → Was pc y
  needed_was _ _ (Read pc y h) =
      let o = original pc h.0 h.1 in
      rewritten_reads m p f (Was pc) (known_at body pc) (spoken_of pc) o.0 (was_read pc o.0 o.1) y
      (subst (λ i. is_read (read_by q f i) y ≡ true) (sym o.2) h.2)
  needed_was _ _ (Made pc n y l h) = inl (Made pc n y (leads_at pc n l) (always_makes_at pc y h))
  needed_was _ _ (Before pc n y l h not_made) =
      let on = leads_at pc n l in
      ⊎_elim (λ was. inl (Before pc n y on was (λ made. not_made (at_makes pc y made))))
      (λ spoken. by on spoken (leads_by on.0 pc n on.2)) (needed_was n y h)
    where
      by : (on : LeadsAt body pc n) → IsSpoken n y → (n ≡ pc + 1) ⊎ (jumps_to on.0 pc n ≡ true) → Was pc y
      by on spoken (inl next) =
          next_knows body pc on.0 on.1 (λ (k : Facts). Speaks (k spoken.0) y → Was pc y) (λ s. absurd s)
          (λ s. speaks_of m p f (Was pc) (after (known_at body pc) on.0 spoken.0) y
          (after_of m p f (Was pc) (known_at body pc) (spoken_of pc) on.0 (was_read pc on.0 on.1) spoken.0) s)
          (subst (λ z. Speaks (known_at body z spoken.0) y) next spoken.1)
      by on spoken (inr jumps) =
          absurd (subst (λ (k : Facts). Speaks (k spoken.0) y)
          (target_knows body n (target_at body pc n on.0 on.1 jumps)) spoken.1)

  needed_used : (pc y : ℕ) → IsNeeded p f body pc y → IsUsed p f body y
  needed_used _ _ (Read pc y h) = (pc, inl h)
  needed_used _ _ (Made pc n y l h) = (pc, inr (h.0, h.1, h.2))
  needed_used _ _ (Before pc n y l h not_made) = needed_used n y h

  used : (pc y : ℕ) → IsNeeded q f body' pc y → IsUsed p f body y
  used pc y h =
      ⊎_elim (needed_used pc y)
      (λ s. speaks_of m p f (IsUsed p f body) (known_at body pc s.0) y
      (known_of (IsUsed p f body) (λ n x r. (n, inl r)) pc s.0) s.1) (needed_was pc y h)

  -- at the entry nothing is known
  pub first_needed : (y : ℕ) → IsNeeded q f body' 0 y → IsNeeded p f body 0 y
  unfolding known_at
  first_needed y h = ⊎_elim (λ was. was) (λ s. absurd s.1) (needed_was 0 y h)

plannable_function : (m : MapSizes) (p : FlatProgram) (f : ℕ) (g : FlatFunction) → IsPlannable p f g → HasHomes p f g
    → IsPlannable (propagated p) f (propagated_function g)
plannable_function m p f g plannable homes = record {
  count = let same = rewritten_length g.body g.body 0 in let few = plannable.count in omega (arith, same, few);
  named = record {
    read = λ pc y h. reads_at m p f g.body (λ y. y < length g.homes) plannable.named.read pc y h;
    made = λ pc y h. plannable.named.made pc y (makes_at m p f g.body pc y h);
  };
  inside = λ pc y h.
      let home = homes.inside y (used m p f g.body pc y h) in
      record { word = home.word; is = home.is; inside = home.inside };
  apart = λ pc x y w hx hy ex ey. homes.apart x y w (used m p f g.body pc x hx) (used m p f g.body pc y hy) ex ey;
  entry = λ y h. plannable.entry y (first_needed m p f g.body y h);
}

pub plannable : (m : MapSizes) (p : FlatProgram) → ArePlannable p → HaveHomes p → ArePlannable (propagated p)
unfolding propagated
plannable m p all homes f g at = by (slice_get p.functions f) refl (sym (slice_get-map propagated_function p.functions f) ∙ at)
  where
    by : (o : Option FlatFunction) → slice_get p.functions f ≡ o → option_map propagated_function o ≡ Some g
        → IsPlannable (propagated p) f g
    by None s e = absurd (none-some g e)
    by (Some h) s e =
        subst (IsPlannable (propagated p) f) (same_Some (propagated_function h) g e)
        (plannable_function m p f h (all f h s) (homes f h s))
