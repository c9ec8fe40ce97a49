-- Tests that compute, and what they show of a plan: that it is accepted.
use Rattle.std.proofs.Common.{◌≡◌, ℕ, zero, suc, ◌+◌, ◌*◌, ◌<◌, ◌⊎◌, Bool, true, false, not, ◌&&◌, ◌||◌, List, []}
use Rattle.std.proofs.Common.{◌∷◌, inl, inr, length, Option, Some, None, refl, sym, ap, ◌∙◌, subst, arith, ⊎_elim}
use Rattle.std.specs.Prelude.{slice_get, nat_le, nat_lt, nat_eq, Vec}
use Rattle.std.specs.Global.{Global}
use Rattle.std.proofs.lemmas.Bool.{ltb-true, leb-true, eqb-true, eq-eqb, and_parts, cases_lt}
use Rattle.flat_code.specs.declared.instruction.FlatInstruction.{FlatInstruction}
use Rattle.flat_code.specs.declared.function.FlatFunction.{FlatFunction}
use Rattle.flat_code.specs.declared.function.FlatProgram.{FlatProgram}
use Rattle.flat_code.specs.Calls.{record_bytes}
use Rattle.reg_plan.specs.declared.effects.Span.{Span}
use Rattle.reg_plan.specs.declared.effects.Reads.{Reads}
use Rattle.reg_plan.specs.Registers.{registers_given_out}
use Rattle.reg_plan.specs.declared.plan.LiveInterval.{LiveInterval}
use Rattle.reg_plan.specs.declared.plan.Place.{Place}
use Rattle.reg_plan.specs.declared.plan.Place.TheVariants.{Home, Register}
use Rattle.reg_plan.specs.declared.plan.FunctionPlan.{FunctionPlan}
use Rattle.reg_plan.specs.Effects.{read_by, is_read, made_by, is_among, next_of, taken_of, Leads}
use Rattle.reg_plan.specs.Accepted.{intervals_of, covers, is_live, IsLive, AreClosed, HasHome, IsAccepted}
use Rattle.machine_laws.proofs.Following.Sound.{get_below}

-- ---- tests of all numbers below one

unfoldable pub all_below : ℕ → (ℕ → Bool) → Bool
all_below zero P = true
all_below (suc n) P = all_below n P && P n

pub below_all : (n : ℕ) (P : ℕ → Bool) → all_below n P ≡ true → (k : ℕ) → k < n → P k ≡ true
unfolding all_below
below_all zero P h k lt = absurd (omega arith)
below_all (suc n) P h k lt =
    let parts = and_parts (all_below n P) (P n) h in
    ⊎_elim (λ less. below_all n P parts.0 k less)
    (λ least. let same : n ≡ k = omega arith in subst (λ i. P i ≡ true) same parts.1) (cases_lt k n)

abbrev implies : Bool → Bool → Bool
implies true b = b
implies false b = true

modus : (a b : Bool) → implies a b ≡ true → a ≡ true → b ≡ true
modus true b h e = h
modus false b h e = cc

-- ---- what is not among so many first ones

abbrev is_within : ℕ → Span → Bool
is_within c s = nat_le (s.first + s.count) c

among_below : (c : ℕ) (s : Span) (y : ℕ) → is_within c s ≡ true → is_among s y ≡ true → y < c
among_below c s y h e =
    let a = leb-true (s.first + s.count) c h in
    let parts = and_parts (nat_le s.first y) (nat_lt y (s.first + s.count)) e in
    let b = ltb-true y (s.first + s.count) parts.1 in
    omega arith

either : (a b : Bool) → (a || b) ≡ true → (a ≡ true) ⊎ (b ≡ true)
either true b h = inl refl
either false b h = inr h

abbrev are_within : ℕ → Reads → Bool
are_within c r = is_within c r.left && (is_within c r.right && is_within c r.others)

read_below : (c : ℕ) (r : Reads) (y : ℕ) → are_within c r ≡ true → is_read r y ≡ true → y < c
read_below c r y h e =
    let first = and_parts (is_within c r.left) (is_within c r.right && is_within c r.others) h in
    let second = and_parts (is_within c r.right) (is_within c r.others) first.1 in
    ⊎_elim (λ l. among_below c r.left y first.0 l)
    (λ o. ⊎_elim (λ m. among_below c r.right y second.0 m) (λ m. among_below c r.others y second.1 m)
    (either (is_among r.right y) (is_among r.others y) o))
    (either (is_among r.left y) (is_among r.right y || is_among r.others y) e)

-- a virtual register that is live has a live range
range_below : (ranges : List (Vec LiveInterval Global)) (y pc : ℕ)
    → covers (intervals_of (slice_get ranges y)) pc ≡ true → y < length ranges
range_below [] y pc e = cc
range_below (x ∷ xs) zero pc e = omega arith
range_below (x ∷ xs) (suc y) pc e = let r = range_below xs y pc e in omega arith

-- ---- the tests of a plan

module _ (p : FlatProgram) (f : ℕ) (g : FlatFunction) (plan : FunctionPlan) where
  abbrev c : ℕ
  c = length plan.live.items

  abbrev n : ℕ
  n = length g.body

  -- behind an instruction what it makes is live, and what else is live there is live before it
  abbrev flow_at : (made : Span) (pc q y : ℕ) → Bool
  flow_at made pc q y =
      implies (is_among made y) (is_live plan q y)
      && implies (is_live plan q y) (is_among made y || is_live plan pc y)

  abbrev flow_to : (made : Span) (pc : ℕ) → Option ℕ → Bool
  flow_to made pc None = true
  flow_to made pc (Some q) = all_below c (flow_at made pc q)

  abbrev step_ok : ℕ → Option FlatInstruction → Bool
  step_ok pc None = true
  step_ok pc (Some i) =
      are_within c (read_by p f i)
      && (is_within c (made_by p i)
      && (all_below c (λ y. implies (is_read (read_by p f i) y) (is_live plan pc y))
      && (flow_to (made_by p i) pc (next_of i pc) && flow_to (made_by p i) pc (taken_of i pc))))

  abbrev same_word : Option ℕ → Option ℕ → Bool
  same_word (Some a) (Some b) = nat_eq a b
  same_word (Some a) None = false
  same_word None b = false

  abbrev same_register : Option Place → Option Place → Bool
  same_register (Some (Register a)) (Some (Register b)) = nat_eq a b
  same_register a b = false

  abbrev home_ok : Option ℕ → Bool
  home_ok None = false
  home_ok (Some w) = nat_le (8 * w + 16) (record_bytes g)

  abbrev place_ok : Option Place → Bool
  place_ok None = false
  place_ok (Some Home) = true
  place_ok (Some (Register r)) = nat_lt r registers_given_out

  abbrev value_ok : ℕ → Bool
  value_ok y =
      home_ok (slice_get g.homes y)
      && (place_ok (slice_get plan.places.items y) && implies (is_live plan 0 y) (nat_lt y g.parameters))

  abbrev pair_ok : ℕ → ℕ → Bool
  pair_ok x y =
      nat_eq x y
      || (not (same_word (slice_get g.homes x) (slice_get g.homes y))
      && not (same_register (slice_get plan.places.items x) (slice_get plan.places.items y)))

  abbrev pub accepts : Bool
  accepts =
      all_below n (λ pc. step_ok pc (slice_get g.body pc))
      && (all_below c value_ok && all_below c (λ x. all_below c (pair_ok x)))

  live_below : (pc y : ℕ) → IsLive plan pc y → y < c
  live_below pc y e = range_below plan.live.items y pc e

  home_of_ok : (y : ℕ) (o : Option ℕ) → slice_get g.homes y ≡ o → home_ok o ≡ true → HasHome g y
  home_of_ok y None e h = cc
  home_of_ok y (Some w) e h = record { word = w; is = e; inside = leb-true (8 * w + 16) (record_bytes g) h }

  place_of_ok : (y : ℕ) (o : Option Place) → slice_get plan.places.items y ≡ o → place_ok o ≡ true
      → (place : Place) × (slice_get plan.places.items y ≡ Some place)
  place_of_ok y None e h = cc
  place_of_ok y (Some place) e h = (place, e)

  register_of_ok : (y r : ℕ) → slice_get plan.places.items y ≡ Some (Register r)
      → place_ok (slice_get plan.places.items y) ≡ true → r < registers_given_out
  register_of_ok y r e h =
      let t : place_ok (Some (Register r)) ≡ true = ap place_ok (sym e) ∙ h in ltb-true r registers_given_out t

  other_words : (x y w : ℕ) → pair_ok x y ≡ true → slice_get g.homes x ≡ Some w → slice_get g.homes y ≡ Some w
      → x ≡ y
  other_words x y w h a b = ⊎_elim (λ e. eqb-true x y e)
      (λ o.
      let parts = and_parts (not (same_word (slice_get g.homes x) (slice_get g.homes y)))
      (not (same_register (slice_get plan.places.items x) (slice_get plan.places.items y))) o in
      let t : same_word (slice_get g.homes x) (slice_get g.homes y) ≡ same_word (Some w) (Some w) =
      ap (λ z. same_word z (slice_get g.homes y)) a ∙ ap (same_word (Some w)) b in
      let s : same_word (slice_get g.homes x) (slice_get g.homes y) ≡ true = t ∙ eq-eqb w w refl in
      let u : not true ≡ true = ap not (sym s) ∙ parts.0 in cc)
      (either (nat_eq x y) _ h)

  other_registers : (x y r : ℕ) → pair_ok x y ≡ true → slice_get plan.places.items x ≡ Some (Register r)
      → slice_get plan.places.items y ≡ Some (Register r) → x ≡ y
  other_registers x y r h a b = ⊎_elim (λ e. eqb-true x y e)
      (λ o.
      let parts = and_parts (not (same_word (slice_get g.homes x) (slice_get g.homes y)))
      (not (same_register (slice_get plan.places.items x) (slice_get plan.places.items y))) o in
      let t : same_register (slice_get plan.places.items x) (slice_get plan.places.items y)
      ≡ same_register (Some (Register r)) (Some (Register r)) =
      ap (λ z. same_register z (slice_get plan.places.items y)) a ∙ ap (same_register (Some (Register r))) b in
      let s : same_register (slice_get plan.places.items x) (slice_get plan.places.items y) ≡ true =
      t ∙ eq-eqb r r refl in
      let u : not true ≡ true = ap not (sym s) ∙ parts.1 in cc)
      (either (nat_eq x y) _ h)

  -- ---- what is shown by them

  record IsStep (pc : ℕ) (i : FlatInstruction) : Type 0 where
    reads : are_within c (read_by p f i) ≡ true
    makes : is_within c (made_by p i) ≡ true
    read : all_below c (λ y. implies (is_read (read_by p f i) y) (is_live plan pc y)) ≡ true
    next : flow_to (made_by p i) pc (next_of i pc) ≡ true
    taken : flow_to (made_by p i) pc (taken_of i pc) ≡ true

  step_parts : (pc : ℕ) (i : FlatInstruction) → step_ok pc (Some i) ≡ true → IsStep pc i
  step_parts pc i h =
      let a = and_parts (are_within c (read_by p f i)) _ h in
      let b = and_parts (is_within c (made_by p i)) _ a.1 in
      let d = and_parts (all_below c (λ y. implies (is_read (read_by p f i) y) (is_live plan pc y))) _ b.1 in
      let e = and_parts (flow_to (made_by p i) pc (next_of i pc)) _ d.1 in
      record { reads = a.0; makes = b.0; read = d.0; next = e.0; taken = e.1 }

  flow_if : (made : Span) (pc q : ℕ) (o : Option ℕ) → o ≡ Some q → flow_to made pc o ≡ true
      → all_below c (flow_at made pc q) ≡ true
  flow_if made pc q o e h = let t : flow_to made pc (Some q) ≡ true = ap (flow_to made pc) (sym e) ∙ h in t

  flow_of : (pc q : ℕ) (i : FlatInstruction) → IsStep pc i → Leads i pc q
      → all_below c (flow_at (made_by p i) pc q) ≡ true
  flow_of pc q i s l = ⊎_elim (λ e. flow_if (made_by p i) pc q (next_of i pc) e s.next)
      (λ e. flow_if (made_by p i) pc q (taken_of i pc) e s.taken) l

  module _ (ok : accepts ≡ true) where
    steps : all_below n (λ pc. step_ok pc (slice_get g.body pc)) ≡ true
    steps = (and_parts (all_below n (λ pc. step_ok pc (slice_get g.body pc))) _ ok).0

    others : (all_below c value_ok ≡ true) × (all_below c (λ x. all_below c (pair_ok x)) ≡ true)
    others = and_parts (all_below c value_ok) _
        (and_parts (all_below n (λ pc. step_ok pc (slice_get g.body pc))) _ ok).1

    step_at : (pc : ℕ) (i : FlatInstruction) → slice_get g.body pc ≡ Some i → IsStep pc i
    step_at pc i e =
        let lt = get_below g.body pc i e in
        let t = below_all (length g.body) (λ pc. step_ok pc (slice_get g.body pc)) steps pc lt in
        step_parts pc i (ap (step_ok pc) (sym e) ∙ t)

    pair_at : (x y : ℕ) → x < c → y < c → pair_ok x y ≡ true
    pair_at x y a b = below_all c (pair_ok x) (below_all c (λ x. all_below c (pair_ok x)) others.1 x a) y b

    value_at : (y : ℕ) → y < c → value_ok y ≡ true
    value_at y lt = below_all c value_ok others.0 y lt

    flow_parts : (made : Span) (pc q y : ℕ) → all_below c (flow_at made pc q) ≡ true → y < c
        → (implies (is_among made y) (is_live plan q y) ≡ true)
        × (implies (is_live plan q y) (is_among made y || is_live plan pc y) ≡ true)
    flow_parts made pc q y h lt =
        and_parts (implies (is_among made y) (is_live plan q y)) _ (below_all c (flow_at made pc q) h y lt)

    closed : AreClosed p f g.body plan
    closed = record {
      read = λ pc y r wanted.
          let s = step_at pc r.0 r.1 in
          let lt = read_below c (read_by p f r.0) y s.reads r.2 in
          modus (is_read (read_by p f r.0) y) (is_live plan pc y)
          (below_all c (λ y. implies (is_read (read_by p f r.0) y) (is_live plan pc y)) s.read y lt) r.2;
      made = λ pc q y l r.
          let s = step_at pc r.0 r.1 in
          let by_leads = l.1 in
          let by_makes = r.1 in
          let same : l.0 ≡ r.0 = cc in
          let leads : Leads r.0 pc q = subst (λ i. Leads i pc q) same l.2 in
          let lt = among_below c (made_by p r.0) y s.makes r.2 in
          modus (is_among (made_by p r.0) y) (is_live plan q y)
          (flow_parts (made_by p r.0) pc q y (flow_of pc q r.0 s leads) lt).0 r.2;
      rest = λ pc q y l live not_made.
          let s = step_at pc l.0 l.1 in
          let flow = flow_parts (made_by p l.0) pc q y (flow_of pc q l.0 s l.2) (live_below q y live) in
          ⊎_elim (λ m. absurd (not_made (l.0, l.1, m))) (λ here. here)
          (either (is_among (made_by p l.0) y) (is_live plan pc y)
          (modus (is_live plan q y) (is_among (made_by p l.0) y || is_live plan pc y) flow.1 live));
    }

    pub accepted : IsAccepted p f g plan
    accepted = record {
      closed = closed;
      homes = λ pc x y w lt a b h k.
          other_words x y w (pair_at x y (live_below pc x a) (live_below pc y b)) h k;
      registers = λ pc x y r lt a b h k.
          other_registers x y r (pair_at x y (live_below pc x a) (live_below pc y b)) h k;
      inside = λ pc y lt live.
          let v = and_parts (home_ok (slice_get g.homes y)) _ (value_at y (live_below pc y live)) in
          home_of_ok y (slice_get g.homes y) refl v.0;
      places = λ pc y lt live.
          let v = and_parts (home_ok (slice_get g.homes y)) _ (value_at y (live_below pc y live)) in
          let w = and_parts (place_ok (slice_get plan.places.items y)) _ v.1 in
          place_of_ok y (slice_get plan.places.items y) refl w.0;
      given = λ pc y r lt live e.
          let v = and_parts (home_ok (slice_get g.homes y)) _ (value_at y (live_below pc y live)) in
          let w = and_parts (place_ok (slice_get plan.places.items y)) _ v.1 in
          register_of_ok y r e w.0;
      entry = λ y some live.
          let v = and_parts (home_ok (slice_get g.homes y)) _ (value_at y (live_below 0 y live)) in
          let w = and_parts (place_ok (slice_get plan.places.items y)) _ v.1 in
          ltb-true y g.parameters (modus (is_live plan 0 y) (nat_lt y g.parameters) w.1 live);
    }
