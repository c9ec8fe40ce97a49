-- Code that assigns what it reads, by what is assigned before each of its instructions; and such code behind such code.
use Rattle.std.proofs.Common.{◌≡◌, ◌⊎◌, inl, inr, ⊎_elim, ℕ, zero, suc, ◌+◌, ◌-◌, ◌<◌, ◌≤◌, refl, sym, ap, ◌∙◌, subst}
use Rattle.std.proofs.Common.{arith}
use Rattle.std.proofs.Common.{true, false, Bool, List, [], ◌∷◌, ◌++◌, length, length-append, append-nil, Some, None}
use Rattle.std.specs.Prelude.{slice_get}
use Rattle.std.proofs.lemmas.Bool.{cases_lt, both_ways}
use Rattle.std.proofs.lemmas.Option.{same_Some, none-some, slice_get_within}
use Rattle.flat_code.specs.declared.instruction.FlatInstruction.{FlatInstruction}
use Rattle.flat_code.specs.declared.instruction.FlatInstruction.TheVariants.{Constant, Move, Operate, Operate32}
use Rattle.flat_code.specs.declared.instruction.FlatInstruction.TheVariants.{Load, Branch, JumpForward, JumpBack}
use Rattle.flat_code.specs.declared.instruction.FlatInstruction.TheVariants.{Call, CallAddress, Get, Charged}
use Rattle.flat_code.specs.declared.function.FlatProgram.{FlatProgram}
use Rattle.reg_plan.specs.Effects.{read_by, is_read, made_by, makes_only, is_among, Leads}
use Rattle.reg_plan.specs.Needs.{AlwaysMakesAt}
use Rattle.image_laws.specs.Plans.Assignment.{Registers, IsOneOf, Way, Begins, Goes, IsMadeOn, IsAssigned, StaysWithin}
use Rattle.image_laws.specs.Plans.Assignment.{Assigns, Names}
use Rattle.image_laws.proofs.Plans.Flow.{none_has}
use Rattle.image_laws.proofs.Plans.Places.{get_append}
use Rattle.image_laws.proofs.Assignment.Leading.{leads_from}

-- ---- jumps that stay

pub stays_more : (e e' pc : ℕ) (i : FlatInstruction) → e ≤ e' → StaysWithin e pc i → StaysWithin e' pc i
stays_more e e' pc (Branch op y z past) le s = omega (arith, le, s)
stays_more e e' pc (JumpForward past) le s = omega (arith, le, s)
stays_more e e' pc (JumpBack back) le s = s
stays_more e e' pc _ le s = s

pub stays_behind : (a e e' pc pc' : ℕ) (i : FlatInstruction) → a + e ≤ e' → pc' ≡ a + pc → StaysWithin e pc i
    → StaysWithin e' pc' i
stays_behind a e e' pc pc' (Branch op y z past) le same s = omega (arith, le, same, s)
stays_behind a e e' pc pc' (JumpForward past) le same s = omega (arith, le, same, s)
stays_behind a e e' pc pc' (JumpBack back) le same s = omega (arith, le, same, s)
stays_behind a e e' pc pc' _ le same s = s

-- ---- what is made last

-- an instruction whose only effect is what it makes, or which makes nothing
abbrev pub is_quiet : FlatInstruction → Bool
is_quiet (Load op x y offset) = false
is_quiet (Call g first x) = false
is_quiet (CallAddress y first n x r) = false
is_quiet (Get x) = false
is_quiet _ = true

-- what the last instruction makes, whether or not it is needed, is among some registers
abbrev pub LastIn : FlatProgram → Registers → List FlatInstruction → Type 0
LastIn p E [] = Unit {0}
LastIn p E (i ∷ []) = (is_quiet i ≡ true) ⊎ ((y : ℕ) → is_among (made_by p i) y ≡ true → E y)
LastIn p E (i ∷ j ∷ is) = LastIn p E (j ∷ is)

pub last_append : (p : FlatProgram) (E : Registers) (is js : List FlatInstruction) → 0 < length js → LastIn p E js
    → LastIn p E (is ++ js)
last_append p E [] js some h = h
last_append p E (i ∷ is) [] some h = absurd (omega arith)
last_append p E (i ∷ []) (j ∷ js) some h = h
last_append p E (i ∷ k ∷ is) (j ∷ js) some h = last_append p E (k ∷ is) (j ∷ js) some h

pub last_both : (p : FlatProgram) (E : Registers) (is js : List FlatInstruction) → LastIn p E is → LastIn p E js
    → LastIn p E (is ++ js)
last_both p E is [] h k = subst (LastIn p E) (sym (append-nil is)) h
last_both p E is (j ∷ js) h k = last_append p E is (j ∷ js) (omega arith) k

only_none : (x : ℕ) → Some x ≡ None → ⊥
only_none x e = none-some x (sym e)

-- it leads to the next one alone
quiet_or : (p : FlatProgram) (i : FlatInstruction) (y pc q : ℕ) → is_among (made_by p i) y ≡ true → makes_only i ≡ None
    → Leads i pc q → (is_quiet i ≡ false) × (q ≡ pc + 1)
quiet_or p (Load op x a offset) y pc q m only (inl e) = (refl, sym (same_Some (pc + 1) q e))
quiet_or p (Call g first x) y pc q m only (inl e) = (refl, sym (same_Some (pc + 1) q e))
quiet_or p (CallAddress a first n x r) y pc q m only (inl e) = (refl, sym (same_Some (pc + 1) q e))
quiet_or p (Get x) y pc q m only (inl e) = (refl, sym (same_Some (pc + 1) q e))
quiet_or p (Constant x n) y pc q m only l = absurd (only_none x only)
quiet_or p (Move x z) y pc q m only l = absurd (only_none x only)
quiet_or p (Operate op x a z) y pc q m only l = absurd (only_none x only)
quiet_or p (Operate32 op x a z) y pc q m only l = absurd (only_none x only)
quiet_or p (Charged x) y pc q m only l = absurd (only_none x only)
quiet_or p (Load op x a offset) y pc q m only (inr e) = absurd (none-some q e)
quiet_or p (Call g first x) y pc q m only (inr e) = absurd (none-some q e)
quiet_or p (CallAddress a first n x r) y pc q m only (inr e) = absurd (none-some q e)
quiet_or p (Get x) y pc q m only (inr e) = absurd (none-some q e)
quiet_or p _ y pc q m only l = absurd (none_has y m)

-- an instruction that makes registers and is the last one
last_at : (p : FlatProgram) (E : Registers) (is : List FlatInstruction) (pc y : ℕ) (i : FlatInstruction) → LastIn p E is
    → slice_get is pc ≡ Some i → suc pc ≡ length is → is_quiet i ≡ false → is_among (made_by p i) y ≡ true → E y
last_at p E [] pc y i h at e loud m = absurd (none-some i at)
last_at p E (x ∷ []) zero y i h at e loud m =
    let same = same_Some x i at in
    ⊎_elim (λ q. absurd (both_ways (is_quiet x) (ap is_quiet same ∙ loud) q))
    (λ k. k y (subst (λ z. is_among (made_by p z) y ≡ true) (sym same) m)) h
last_at p E (x ∷ []) (suc pc) y i h at e loud m = absurd (none-some i at)
last_at p E (x ∷ z ∷ is) zero y i h at e loud m = absurd (omega (arith, e))
last_at p E (x ∷ z ∷ is) (suc pc) y i h at e loud m = last_at p E (z ∷ is) pc y i h at (omega (arith, e)) loud m

pub record EndsWith (p : FlatProgram) (is : List FlatInstruction) (E : Registers) : Type 0 where
  pub ends : (pc q y : ℕ) (i : FlatInstruction) → slice_get is pc ≡ Some i → Leads i pc q → AlwaysMakesAt p is pc y
      → length is ≤ q → E y

pub last_ends : (p : FlatProgram) (E : Registers) (is : List FlatInstruction) → LastIn p E is → EndsWith p is E
last_ends p E is h = record {
  ends = λ pc q y i at to always le.
      let same = same_Some always.0 i (sym always.1 ∙ at) in
      let m = subst (λ z. is_among (made_by p z) y ≡ true) same always.2 in
      let loud = quiet_or p i y pc q m (subst (λ z. makes_only z ≡ None) same always.3) to in
      let within = slice_get_within is pc i at in
      last_at p E is pc y i h at (omega (arith, loud.1, le, within)) loud.0 m;
}

-- where more is given
pub assigns_more : (p : FlatProgram) (u : ℕ) (G H : Registers) (is : List FlatInstruction) (b : ℕ) (M : List ℕ)
    → ((y : ℕ) → G y → H y) → Assigns p u G is b M → Assigns p u H is b M
assigns_more p u G H is b M more a =
    let wide = λ (q y : ℕ) (k : IsAssigned p G is q y) (way : Way is q). ⊎_elim (λ g. inl (more y g)) inr (k way) in
    record {
      stays = a.stays;
      reads = λ pc y r. wide pc y (a.reads pc y r);
      makes = λ pc q y i at to always lt. wide q y (a.makes pc q y i at to always lt);
      ends = λ pc q y i at to always le. ⊎_elim (λ g. inl (more y g)) inr (a.ends pc q y i at to always le);
      made_behind = λ q y le m. wide q y (a.made_behind q y le m);
    }

module _ (p : FlatProgram) (u : ℕ) (P : Registers) where
  -- an instruction at a place, by what is assigned at each
  pub record Local (at : ℕ → Registers) (end pc : ℕ) (i : FlatInstruction) : Type 0 where
    pub stays : StaysWithin end pc i
    pub reads : (y : ℕ) → is_read (read_by p u i) y ≡ true → at pc y
    pub steps : (q y : ℕ) → Leads i pc q → at q y → at pc y ⊎ (is_among (made_by p i) y ≡ true)
    pub makes : (q y : ℕ) → Leads i pc q → is_among (made_by p i) y ≡ true → makes_only i ≡ None → at q y
    pub named : (y : ℕ) → is_among (made_by p i) y ≡ true → P y

  -- code that is given some registers, leads to its end or so many places further, and has made some there
  pub record Flows (G : Registers) (is : List FlatInstruction) (b : ℕ) (M : List ℕ) : Type 1 where
    pub at : ℕ → Registers
    pub start : (y : ℕ) → at 0 y → G y
    pub keeps : (k y : ℕ) → G y → at k y
    pub low : (k y : ℕ) → at k y → P y
    pub each : (pc : ℕ) (i : FlatInstruction) → slice_get is pc ≡ Some i → Local at (length is + b) pc i
    pub behind : (q y : ℕ) → length is ≤ q → at (length is) y → at q y
    pub made : (y : ℕ) → IsOneOf M y → at (length is) y

  pub wider : (G : Registers) (is : List FlatInstruction) (b : ℕ) (M N : List ℕ) → Flows G is b M
      → ((y : ℕ) → IsOneOf N y → G y ⊎ IsOneOf M y) → Flows G is b N
  wider G is b M N f more = record {
    at = f.at;
    start = f.start;
    keeps = f.keeps;
    low = f.low;
    each = f.each;
    behind = f.behind;
    made = λ y n. ⊎_elim (f.keeps (length is) y) (f.made y) (more y n);
  }

  -- ---- code behind code

  module _ (G : Registers) (is js : List FlatInstruction) (b : ℕ) (M N : List ℕ) (f : Flows G is 0 M)
      (g : Flows (f.at (length is)) js b N) where
    abbrev n : ℕ
    n = length is

    record Both (k y : ℕ) : Type 0 where
      first : k < n → f.at k y
      second : (j : ℕ) → k ≡ n + j → g.at j y

    first_of : (k y : ℕ) → k < n → f.at k y → Both k y
    first_of k y lt a = record { first = λ l. a; second = λ j e. absurd (omega (arith, lt, e)) }

    second_of : (k j y : ℕ) → k ≡ n + j → g.at j y → Both k y
    second_of k j y e a = record {
      first = λ lt. absurd (omega (arith, lt, e));
      second = λ j' e'. let same : j ≡ j' = omega (arith, e, e') in subst (λ z. g.at z y) same a;
    }

    long : length (is ++ js) ≡ n + length js
    long = length-append is js

    front : (pc : ℕ) (i : FlatInstruction) → slice_get is pc ≡ Some i → Local Both (length (is ++ js) + b) pc i
    front pc i at =
        let within = slice_get_within is pc i at in
        let l = f.each pc i at in
        let zero_first : 0 + pc ≡ pc = omega arith in
        let target = λ (q : ℕ) (to : Leads i pc q).
        leads_from i 0 pc q (n + 0) l.stays (omega (arith, within)) (subst (λ z. Leads i z q) (sym zero_first) to) in
        let whole = long in
        record {
          stays = stays_more (n + 0) (length (is ++ js) + b) pc i (omega (arith, whole)) l.stays;
          reads = λ y r. first_of pc y within (l.reads y r);
          steps = λ q y to a.
              let t = target q to in
              let here : f.at q y =
              ⊎_elim (λ lt. a.first lt)
              (λ le.
              let e : q ≡ n + 0 = omega (arith, t.is, t.within, le) in
              let e' : n ≡ q = omega (arith, e) in
              subst (λ z. f.at z y) e' (g.start y (a.second 0 e)))
              (cases_lt q n) in
              ⊎_elim (λ k. inl (first_of pc y within k)) inr (l.steps q y to here);
          makes = λ q y to m only.
              let t = target q to in
              let here = l.makes q y to m only in
              record {
                first = λ lt. here;
                second = λ j e.
                    let e' : q ≡ n = omega (arith, e, t.is, t.within) in
                    g.keeps j y (subst (λ z. f.at z y) e' here);
              };
          named = l.named;
        }

    back : (pc j : ℕ) (i : FlatInstruction) → pc ≡ n + j → slice_get js j ≡ Some i
        → Local Both (length (is ++ js) + b) pc i
    back pc j i same at =
        let within = slice_get_within js j i at in
        let l = g.each j i at in
        let target = λ (q : ℕ) (to : Leads i pc q).
        leads_from i n j q (length js + b) l.stays (omega (arith, within)) (subst (λ z. Leads i z q) same to) in
        let whole = long in
        record {
          stays = stays_behind n (length js + b) (length (is ++ js) + b) j pc i (omega (arith, whole)) same l.stays;
          reads = λ y r. second_of pc j y same (l.reads y r);
          steps = λ q y to a.
              let t = target q to in
              ⊎_elim (λ k. inl (second_of pc j y same k)) inr (l.steps t.to y t.leads (a.second t.to t.is));
          makes = λ q y to m only.
              let t = target q to in second_of q t.to y t.is (l.makes t.to y t.leads m only);
          named = l.named;
        }

    pub append : Flows G (is ++ js) b N
    append = record {
      at = Both;
      start = λ y a.
          ⊎_elim (λ lt. f.start y (a.first lt))
          (λ le.
          let e : 0 ≡ n + 0 = omega (arith, le) in
          let e' : n ≡ 0 = omega (arith, le) in
          f.start y (subst (λ z. f.at z y) e' (g.start y (a.second 0 e))))
          (cases_lt 0 n);
      keeps = λ k y h. record { first = λ lt. f.keeps k y h; second = λ j e. g.keeps j y (f.keeps n y h) };
      low = λ k y a.
          ⊎_elim (λ lt. f.low k y (a.first lt))
          (λ le. let j = (k - n) in g.low (k - n) y (a.second (k - n) (omega (arith, le))))
          (cases_lt k n);
      each = λ pc i e. ⊎_elim (front pc i) (λ h. back pc h.0 i h.1 h.2) (get_append is js pc i e);
      behind = λ q y le a.
          let whole = long in
          let at_end = a.second (length js) whole in
          record {
            first = λ lt. absurd (omega (arith, lt, le, whole));
            second = λ j e. g.behind j y (omega (arith, le, whole, e)) at_end;
          };
      made = λ y m. second_of (length (is ++ js)) (length js) y long (g.made y m);
    }

  -- code by whatever is assigned behind other code
  pub followed : (G : Registers) (is js : List FlatInstruction) (b : ℕ) (M N : List ℕ) → Flows G is 0 M
      → ((S : Registers) → ((y : ℕ) → G y → S y) → ((y : ℕ) → IsOneOf M y → S y) → ((y : ℕ) → S y → P y)
      → Flows S js b N)
      → Flows G (is ++ js) b N
  followed G is js b M N f k =
      append G is js b M N f (k (f.at (length is)) (f.keeps (length is)) f.made (f.low (length is)))

  one_append : (xs ys : List ℕ) (y : ℕ) → IsOneOf (xs ++ ys) y → IsOneOf xs y ⊎ IsOneOf ys y
  one_append [] ys y h = inr h
  one_append (x ∷ xs) ys y (inl e) = inl (inl e)
  one_append (x ∷ xs) ys y (inr h) = ⊎_elim (λ m. inl (inr m)) inr (one_append xs ys y h)

  -- and both have made what they make
  pub and_then : (G : Registers) (is js : List FlatInstruction) (b : ℕ) (M N : List ℕ) → Flows G is 0 M
      → ((S : Registers) → ((y : ℕ) → G y → S y) → ((y : ℕ) → IsOneOf M y → S y) → ((y : ℕ) → S y → P y)
      → Flows S js b N)
      → Flows G (is ++ js) b (M ++ N)
  and_then G is js b M N f k =
      followed G is js b M (M ++ N) f
      (λ S keeps made low. wider S js b N (M ++ N) (k S keeps made low)
      (λ y m. ⊎_elim (λ one. inl (made y one)) inr (one_append M N y m)))

  -- ---- what the code assigns

  module _ (G : Registers) (is : List FlatInstruction) (b : ℕ) (M : List ℕ) (f : Flows G is b M) where
    assigned : (k y : ℕ) (way : Way is k) → f.at k y → G y ⊎ IsMadeOn p is y k way
    assigned _ y Begins a = inl (f.start y a)
    assigned _ y (Goes pc q i way at to) a =
        ⊎_elim (λ k. ⊎_elim inl (λ m. inr (inr m)) (assigned pc y way k)) (λ m. inr (inl m))
        ((f.each pc i at).steps q y to a)

    pub flow_names : Names p u is P
    flow_names = record {
      read = λ pc y r. f.low pc y ((f.each pc r.0 r.1).reads y r.2);
      made = λ pc y r. (f.each pc r.0 r.1).named y r.2;
    }

    -- where what is made last, whether or not it is needed, is given or said to be made
    pub flow_assigns : EndsWith p is (λ y. G y ⊎ IsOneOf M y) → Assigns p u G is b M
    flow_assigns e = record {
      stays = λ pc i at. (f.each pc i at).stays;
      reads = λ pc y r way. assigned pc y way ((f.each pc r.0 r.1).reads y r.2);
      makes = λ pc q y i at to always lt way.
          let same = same_Some always.0 i (sym always.1 ∙ at) in
          assigned q y way ((f.each pc i at).makes q y to
          (subst (λ z. is_among (made_by p z) y ≡ true) same always.2) (subst (λ z. makes_only z ≡ None) same always.3));
      ends = λ pc q y i at to always le. e.ends pc q y i at to always le;
      made_behind = λ q y le m way. assigned q y way (f.behind q y le (f.made y m));
    }
