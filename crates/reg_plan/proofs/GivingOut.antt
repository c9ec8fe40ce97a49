-- Giving out registers.
use Rattle.std.proofs.Common.{◌≡◌, ℕ, zero, suc, ◌<◌, ◌≤◌, ◌⊎◌, inl, inr, ⊎_elim, List, [], ◌∷◌, ◌++◌}
use Rattle.std.proofs.Common.{length, Some, true, false, refl, sym, ap, ◌∙◌, subst, arith, true≢false, get_or}
use Rattle.std.specs.Prelude.{slice_get, nat_le, nat_lt, Vec}
use Rattle.std.specs.Global.{Global}
use Rattle.std.proofs.lemmas.Bool.{cases_eq, or_cases, leb-true, ltb-true, le-leb, lt-ltb}
use Rattle.std.proofs.lemmas.Option.{slice_get_read}
use Rattle.data_flow.proofs.Lists.{at_front, at_end}
use Rattle.reg_plan.specs.declared.plan.LiveInterval.{LiveInterval}
use Rattle.reg_plan.specs.declared.plan.Place.{Place}
use Rattle.reg_plan.specs.declared.plan.Place.TheVariants.{Home, Register}
use Rattle.reg_plan.specs.Registers.{registers_given_out}
use Rattle.reg_plan.specs.Accepted.{holds, covers, intervals_of}
use Rattle.reg_plan.specs.Colours.{range_of, IsTaken, IsColoured}
use Rattle.reg_plan.specs.Occupied.{AreSpread, AreAllSpread, Occupies, IsColouring}
use Rattle.reg_plan.proofs.Flows.{and_left, and_right, and_both, or_left, or_right}

-- an interval and a live range at one place
pub holds_low : (i : LiveInterval) (pc : ℕ) → holds i pc ≡ true → i.start ≤ pc
holds_low i pc h = leb-true i.start pc (and_left _ (nat_lt pc i.end) h)

pub holds_high : (i : LiveInterval) (pc : ℕ) → holds i pc ≡ true → pc < i.end
holds_high i pc h = ltb-true pc i.end (and_right (nat_le i.start pc) _ h)

pub holds_between : (i : LiveInterval) (pc : ℕ) → i.start ≤ pc → pc < i.end → holds i pc ≡ true
holds_between i pc l h = and_both _ _ (le-leb i.start pc l) (lt-ltb pc i.end h)

pub covers_at : (list : List LiveInterval) (k pc : ℕ) (i : LiveInterval) → slice_get list k ≡ Some i → holds i pc ≡ true
    → covers list pc ≡ true
covers_at [] k pc i h e = cc
covers_at (j ∷ js) zero pc i h e = let q : j ≡ i = cc in or_left _ _ (subst (λ x. holds x pc ≡ true) (sym q) e)
covers_at (j ∷ js) (suc k) pc i h e = or_right (holds j pc) _ (covers_at js k pc i h e)

pub covers_by : (list : List LiveInterval) (pc : ℕ) → covers list pc ≡ true
    → (k : ℕ) × (i : LiveInterval) × (slice_get list k ≡ Some i) × (holds i pc ≡ true)
covers_by [] pc h = absurd (true≢false (sym h))
covers_by (j ∷ js) pc h = ⊎_elim
    (λ q. (0, j, refl, q))
    (λ q. let o = covers_by js pc q in (suc o.0, o.1, o.2, o.3))
    (or_cases (holds j pc) (covers js pc) h)

pub coloured_none : (ranges : List (Vec LiveInterval Global)) (places : List Place)
    → ((y : ℕ) (place : Place) → slice_get places y ≡ Some place → place ≡ Home) → IsColoured ranges places 0
coloured_none ranges places home = record {
  apart = λ x y r h k s. let e : Register r ≡ Home = home x (Register r) h in cc;
  given = λ y r h. let e : Register r ≡ Home = home y (Register r) h in cc;
  full = λ y r h lt. absurd (omega arith);
}

-- ---- one place more

at_where : {X : Type 0} (xs : List X) (y : X) (k : ℕ) (x : X) → slice_get (xs ++ y ∷ []) k ≡ Some x
    → (slice_get xs k ≡ Some x) ⊎ ((k ≡ length xs) × (y ≡ x))
at_where [] y zero x h = inr (refl, (let e : y ≡ x = cc in e))
at_where [] y (suc k) x h = inl h
at_where (z ∷ zs) y zero x h = inl h
at_where (z ∷ zs) y (suc k) x h = ⊎_elim (λ o. inl o) (λ o. inr (ap suc o.0, o.1)) (at_where zs y k x h)

pub colouring_begins : (ranges : List (Vec LiveInterval Global)) (used : List (Vec LiveInterval Global))
    → length used ≡ registers_given_out → AreAllSpread used
    → ((r pc : ℕ) → covers (range_of used r) pc ≡ false) → IsColouring ranges [] used
colouring_begins ranges used count spread none = record {
  coloured = record {
    apart = λ x y r h k s. cc;
    given = λ y r h. cc;
    full = λ y r h lt. cc;
  };
  count = count;
  spread = spread;
  in_use = λ x r pc h k. cc;
  only = λ r pc h. absurd (true≢false (sym h ∙ none r pc));
}

module _ (ranges : List (Vec LiveInterval Global)) (places : List Place) (used : List (Vec LiveInterval Global))
    (c : IsColouring ranges places used) where
  grown_taken : (p : Place) (r y : ℕ) → IsTaken ranges places r y → IsTaken ranges (places ++ p ∷ []) r y
  grown_taken p r y t = (t.0, at_front places p t.0 (Register r) t.1, t.2)

  -- the next one stays in its home
  pub colouring_leaves : (next : ℕ) → length places ≡ next
      → ((r : ℕ) → r < registers_given_out → (pc : ℕ) × (covers (range_of ranges next) pc ≡ true)
      × (covers (range_of used r) pc ≡ true))
      → IsColouring ranges (places ++ Home ∷ []) used
  colouring_leaves next size taken = record {
    coloured = record {
      apart = λ x y r h k s. c.coloured.apart x y r (old x r h) (old y r k) s;
      given = λ y r h. c.coloured.given y r (old y r h);
      full = λ y r h lt. ⊎_elim
          (λ o. grown_taken Home r y (c.coloured.full y r o lt))
          (λ o.
          let t = taken r lt in
          let w = c.only r t.0 t.2 in
          let e : next ≡ y = sym size ∙ sym o.0 in (
            w.0,
            at_front places Home w.0 (Register r) w.1,
            (t.0, w.2, subst (λ z. covers (range_of ranges z) t.0 ≡ true) e t.1),
          ))
          (at_where places Home y Home h);
    };
    count = c.count;
    spread = c.spread;
    in_use = λ x r pc h k. c.in_use x r pc (old x r h) k;
    only = λ r pc h. let o = c.only r pc h in (o.0, at_front places Home o.0 (Register r) o.1, o.2);
  }
    where
      old : (x r : ℕ) → slice_get (places ++ Home ∷ []) x ≡ Some (Register r) → slice_get places x ≡ Some (Register r)
      old x r h = ⊎_elim (λ o. o) (λ o. let e = o.1 in cc) (at_where places Home x (Register r) h)

  -- the next one gets a register
  pub colouring_gives : (next register : ℕ) (used' : List (Vec LiveInterval Global)) → length places ≡ next
      → register < registers_given_out
      → ((pc : ℕ) → covers (range_of ranges next) pc ≡ true → covers (range_of used register) pc ≡ false)
      → Occupies used used' register (range_of ranges next)
      → IsColouring ranges (places ++ Register register ∷ []) used'
  colouring_gives next register used' size few free o = record {
    coloured = record {
      apart = λ x y r h k s. ⊎_elim
          (λ a. ⊎_elim
          (λ b. c.coloured.apart x y r a b s)
          (λ b. absurd (clash x y r s.0 a b s.1 s.2))
          (at_where places (Register register) y (Register r) k))
          (λ a. ⊎_elim
          (λ b. absurd (clash y x r s.0 b a s.2 s.1))
          (λ b. a.0 ∙ sym b.0)
          (at_where places (Register register) y (Register r) k))
          (at_where places (Register register) x (Register r) h);
      given = λ y r h. ⊎_elim (λ a. c.coloured.given y r a) (λ a. let e : register ≡ r = same r a.1 in
          omega (arith, e, few)) (at_where places (Register register) y (Register r) h);
      full = λ y r h lt. ⊎_elim (λ a. grown_taken (Register register) r y (c.coloured.full y r a lt))
          (λ a. let e = a.1 in cc) (at_where places (Register register) y Home h);
    };
    count = o.count ∙ c.count;
    spread = λ r. ⊎_elim (λ e. subst (λ z. AreSpread (range_of used' z)) (sym e) o.spread)
        (λ ne. subst AreSpread (sym (o.others r ne)) (c.spread r)) (cases_eq r register);
    in_use = λ x r pc h k. ⊎_elim
        (λ a. kept r pc (c.in_use x r pc a k))
        (λ a.
        let e : register ≡ r = same r a.1 in
        let n : x ≡ next = a.0 ∙ size in
        subst (λ z. covers (range_of used' z) pc ≡ true) e
        (o.here pc ∙ or_right (covers (range_of used register) pc) (covers (range_of ranges next) pc)
        (subst (λ z. covers (range_of ranges z) pc ≡ true) n k)))
        (at_where places (Register register) x (Register r) h);
    only = λ r pc h. ⊎_elim
        (λ e.
        let h' : covers (range_of used' register) pc ≡ true =
        subst (λ z. covers (range_of used' z) pc ≡ true) e h in
        ⊎_elim
        (λ a. let w = c.only register pc a in (
          w.0,
          subst (λ z. slice_get (places ++ Register register ∷ []) w.0 ≡ Some (Register z)) (sym e)
              (at_front places (Register register) w.0 (Register register) w.1),
          w.2,
        ))
        (λ a. (
          next,
          subst (λ z. slice_get (places ++ Register register ∷ []) next ≡ Some (Register z)) (sym e)
              (subst (λ z. slice_get (places ++ Register register ∷ []) z ≡ Some (Register register)) size
              (at_end places (Register register))),
          a,
        ))
        (or_cases (covers (range_of used register) pc) (covers (range_of ranges next) pc) (sym (o.here pc) ∙ h')))
        (λ ne.
        let w = c.only r pc (subst (λ l. covers l pc ≡ true) (o.others r ne) h) in
        (w.0, at_front places (Register register) w.0 (Register r) w.1, w.2))
        (cases_eq r register);
  }
    where
      same : (r : ℕ) → Register register ≡ Register r → register ≡ r
      same r e = cc

      clash : (x y r pc : ℕ) → slice_get places x ≡ Some (Register r)
          → (y ≡ length places) × (Register register ≡ Register r) → covers (range_of ranges x) pc ≡ true
          → covers (range_of ranges y) pc ≡ true → ⊥
      clash x y r pc a b theirs mine =
          let e : register ≡ r = same r b.1 in
          true≢false (sym (subst (λ z. covers (range_of used z) pc ≡ true) (sym e) (c.in_use x r pc a theirs))
          ∙ free pc (subst (λ z. covers (range_of ranges z) pc ≡ true) (b.0 ∙ size) mine))

      kept : (r pc : ℕ) → covers (range_of used r) pc ≡ true → covers (range_of used' r) pc ≡ true
      kept r pc h = ⊎_elim
          (λ e. subst (λ z. covers (range_of used' z) pc ≡ true) (sym e)
          (o.here pc ∙ or_left (covers (range_of used register) pc) (covers (range_of ranges next) pc)
          (subst (λ z. covers (range_of used z) pc ≡ true) e h)))
          (λ ne. subst (λ l. covers l pc ≡ true) (sym (o.others r ne)) h)
          (cases_eq r register)

-- the live range that stands at a place of the list
pub range_is : (ranges : List (Vec LiveInterval Global)) (n : ℕ) (v : Vec LiveInterval Global)
    (list : List LiveInterval) → n < length ranges → v ≡ get_or ranges n v → list ≡ v.items → list ≡ range_of ranges n
range_is ranges n v list lt is e = e ∙ sym (ap intervals_of (slice_get_read ranges (length ranges) n v refl lt is))
