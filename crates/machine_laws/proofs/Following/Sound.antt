-- What an accepted plan says of where a function keeps its values.
use Rattle.std.proofs.Common.{◌≡◌, ◌≢◌, ℕ, zero, suc, ◌+◌, ◌*◌, ◌<◌, ◌≤◌, ◌⊎◌, inl, inr, refl, sym, ap, ◌∙◌}
use Rattle.std.proofs.Common.{subst, arith, ⊎_elim, Bool, true, false, List, [], ◌∷◌, length, Option, Some, None}
use Rattle.std.proofs.Common.{true≢false}
use Rattle.std.specs.Prelude.{nat_lt, slice_get, if◌then◌else◌}
use Rattle.std.proofs.lemmas.Bool.{ltb-true, lt-ltb, le-ltb, and_parts, and_from, cases_lt, cases_order}
use Rattle.flat_code.specs.declared.instruction.FlatInstruction.{FlatInstruction}
use Rattle.flat_code.specs.declared.function.FlatFunction.{FlatFunction}
use Rattle.flat_code.specs.declared.function.FlatProgram.{FlatProgram}
use Rattle.flat_code.specs.Calls.{function_in, record_bytes}
use Rattle.flat_code.specs.Meaning.{instruction_at, body_of}
use Rattle.reg_plan.specs.declared.plan.Place.{Place}
use Rattle.reg_plan.specs.declared.plan.Place.TheVariants as place
use Rattle.reg_plan.specs.declared.plan.FunctionPlan.{FunctionPlan}
use Rattle.reg_plan.specs.Effects.{read_by, is_read, made_by, makes_only, is_among, Leads}
use Rattle.reg_plan.specs.Needs.{MakesAt}
use Rattle.reg_plan.specs.Accepted.{is_live, covers, intervals_of, HasHome, IsAccepted}
use Rattle.reg_plan.specs.Tests.{AreAccepted}
use Rattle.machine_laws.specs.declared.location.Location.TheVariants.{Frame}
use Rattle.machine_laws.specs.Blocks.Places.{saved_register, home_offset, home_of, location_at, home, location}
use Rattle.machine_laws.specs.Blocks.Places.{frame_register}
use Rattle.machine_laws.specs.Blocks.Effects.{IsSaved, IsIn, AreApart}
use Rattle.machine_laws.specs.Calls.Calls.{Keeping}
use Rattle.machine_laws.specs.Calls.Effects.{AreKept}
use Rattle.machine_laws.specs.Following.Code.{keeping_of, keeping}

-- ---- lists

pub get_below : {A : Type 0} (xs : List A) (k : ℕ) (x : A) → slice_get xs k ≡ Some x → k < length xs
get_below [] k x e = cc
get_below (y ∷ ys) zero x e = omega arith
get_below (y ∷ ys) (suc k) x e = let r = get_below ys k x e in omega arith

pub get_some : {A : Type 0} (xs : List A) (k : ℕ) → k < length xs → (x : A) × (slice_get xs k ≡ Some x)
get_some [] k lt = absurd (omega arith)
get_some (y ∷ ys) zero lt = (y, refl)
get_some (y ∷ ys) (suc k) lt = get_some ys k (omega arith)

same_at : (body : List FlatInstruction) (pc : ℕ) (i j : FlatInstruction) → slice_get body pc ≡ Some i
    → slice_get body pc ≡ Some j → i ≡ j
same_at body pc i j a b = let w : Some i ≡ Some j = sym a ∙ b in cc

-- ---- registers

saved_is : (r : ℕ) → r < 11 → ((r < 2) × (saved_register r ≡ 8 + r)) ⊎ ((2 ≤ r) × (saved_register r ≡ 16 + r))
saved_is r lt = ⊎_elim
    (λ l. inl (l, rw (lt-ltb r 2 l) (omega arith)))
    (λ h. inr (h, rw (le-ltb r 2 h) (omega arith)))
    (cases_lt r 2)

saved_saved : (r : ℕ) → r < 11 → IsSaved (saved_register r)
saved_saved r lt = ⊎_elim
    (λ q. subst IsSaved (sym q.1) (let l = q.0 in record {
      low = omega arith;
      high = omega arith;
      gap = inl (omega arith);
      a0 = omega arith;
      a1 = omega arith;
      a2 = omega
          arith;
      a7 = omega arith;
    }))
    (λ q. subst IsSaved (sym q.1) (let l = q.0 in record {
      low = omega arith;
      high = omega arith;
      gap = inr (omega arith);
      a0 = omega arith;
      a1 = omega arith;
      a2 = omega
          arith;
      a7 = omega arith;
    }))
    (saved_is r lt)

saved_differ : (r q : ℕ) → r < 11 → q < 11 → r ≢ q → saved_register r ≢ saved_register q
saved_differ r q lr lq ne e =
    let a = saved_is r lr in
    let b = saved_is q lq in
    ⊎_elim (λ u. ⊎_elim (λ w. ne (omega (arith, u.1, w.1, e))) (λ w. omega (arith, u.0, u.1, w.0, w.1, e)) b)
    (λ u. ⊎_elim (λ w. omega (arith, u.0, u.1, w.0, w.1, e)) (λ w. ne (omega (arith, u.1, w.1, e))) b) a

-- a record has at least the bytes that a call is charged
charged_most : (g : FlatFunction) → g.room ≤ record_bytes g
charged_most g = by g.is_runtime
  where
    by : (b : Bool) → g.room ≤ (if b then g.room else 2 * g.room)
    by true = omega arith
    by false = omega arith

-- ---- one function

module _ (p : FlatProgram) (f : ℕ) (g : FlatFunction) (plan : FunctionPlan) (ok : IsAccepted p f g plan) where
  k : Keeping
  k = keeping_of (Some g) (Some plan)

  live_is : (pc y : ℕ) → (keeping_of (Some g) (Some plan)).live pc y ≡ true
      → (pc < length g.body) × (is_live plan pc y ≡ true)
  live_is pc y e = let q = and_parts (nat_lt pc (length g.body)) (is_live plan pc y) e in
      (ltb-true pc (length g.body) q.0, q.1)

  live_from : (pc y : ℕ) → pc < length g.body → is_live plan pc y ≡ true
      → (keeping_of (Some g) (Some plan)).live pc y ≡ true
  live_from pc y lt e = and_from (nat_lt pc (length g.body)) (is_live plan pc y) (lt-ltb pc (length g.body) lt) e

  home_is : (y : ℕ) (h : HasHome g y) → home g y ≡ home_offset h.word
  unfolding home
  home_is y h = ap home_of h.is

  location_is : (y : ℕ) (at : Place) (h : HasHome g y) → slice_get plan.places.items y ≡ Some at
      → location g plan y ≡ location_at (Some at) (home_offset h.word)
  unfolding location
  location_is y at h e = ap (λ o. location_at o (home_of (slice_get g.homes y))) e
      ∙ ap (λ o. location_at (Some at) (home_of o)) h.is

  inside_by : (at : Place) (word : ℕ) → 8 * word + 16 ≤ record_bytes g → ((r : ℕ) → at ≡ place.Register r → r < 11)
      → IsIn (record_bytes g) (location_at (Some at) (home_offset word))
  inside_by place.Home word h given = (omega arith, omega arith)
  inside_by (place.Register r) word h given = saved_saved r (given r refl)

  own_by : (at : Place) (word o : ℕ) → location_at (Some at) (home_offset word) ≡ Frame o → o ≡ home_offset word
  own_by place.Home word o e = cc
  own_by (place.Register r) word o e = cc

  apart_by : (a b : Place) (u w : ℕ) → u ≢ w → ((r q : ℕ) → a ≡ place.Register r → b ≡ place.Register q → r ≢ q)
      → ((r : ℕ) → a ≡ place.Register r → r < 11) → ((r : ℕ) → b ≡ place.Register r → r < 11)
      → AreApart (location_at (Some a) (home_offset u)) (location_at (Some b) (home_offset w))
  apart_by place.Home place.Home u w ne differ ga gb = ⊎_elim (λ e. absurd (ne e))
      (λ o. ⊎_elim (λ l. inl (omega arith)) (λ l. inr (omega arith)) o) (cases_order u w)
  apart_by place.Home (place.Register q) u w ne differ ga gb = tt
  apart_by (place.Register r) place.Home u w ne differ ga gb = tt
  apart_by (place.Register r) (place.Register q) u w ne differ ga gb =
      saved_differ r q (ga r refl) (gb q refl) (differ r q refl refl)

  words_differ : (pc x y : ℕ) → pc < length g.body → is_live plan pc x ≡ true → is_live plan pc y ≡ true → x ≢ y
      → (hx : HasHome g x) (hy : HasHome g y) → hx.word ≢ hy.word
  words_differ pc x y lt lx ly ne hx hy e =
      ne (ok.homes pc x y hx.word lt lx ly hx.is (hy.is ∙ ap (λ w. Some w) (sym e)))

  given_by : (pc y : ℕ) (at : Place) → pc < length g.body → is_live plan pc y ≡ true
      → slice_get plan.places.items y ≡ Some at → (r : ℕ) → at ≡ place.Register r → r < 11
  given_by pc y at lt l e r q = ok.given pc y r lt l (e ∙ ap (λ z. Some z) q)

  pub are_kept : (pc : ℕ) → AreKept (keeping_of (Some g) (Some plan)) ((keeping_of (Some g) (Some plan)).live pc)
  are_kept pc = record {
    inside = λ y e. let l = live_is pc y e in let h = ok.inside pc y l.0 l.1 in let at = ok.places pc y l.0 l.1 in
        subst (IsIn (record_bytes g)) (sym (location_is y at.0 h at.1))
        (inside_by at.0 h.word h.inside (given_by pc y at.0 l.0 l.1 at.1));
    low = λ y e. let l = live_is pc y e in let h = ok.inside pc y l.0 l.1 in
        subst (λ n. 8 ≤ n) (sym (home_is y h)) (omega arith);
    high = λ y e. let l = live_is pc y e in let h = ok.inside pc y l.0 l.1 in
        subst (λ n. n + 8 ≤ record_bytes g) (sym (home_is y h)) (omega (arith, h.inside));
    own = λ y o e q. let l = live_is pc y e in let h = ok.inside pc y l.0 l.1 in let at = ok.places pc y l.0 l.1 in
        own_by at.0 h.word o (sym (location_is y at.0 h at.1) ∙ q) ∙ sym (home_is y h);
    homes = λ x y ex ey ne.
        let lx = live_is pc x ex in let ly = live_is pc y ey in
        let hx = ok.inside pc x lx.0 lx.1 in let hy = ok.inside pc y ly.0 ly.1 in
        let differ = words_differ pc x y lx.0 lx.1 ly.1 ne hx hy in
        ⊎_elim (λ e. absurd (differ e)) (λ o. ⊎_elim
        (λ l. inl (omega (arith, l, home_is x hx, home_is y hy)))
        (λ l. inr (omega (arith, l, home_is x hx, home_is y hy))) o) (cases_order hx.word hy.word);
    apart = λ x y ex ey ne.
        let lx = live_is pc x ex in let ly = live_is pc y ey in
        let hx = ok.inside pc x lx.0 lx.1 in let hy = ok.inside pc y ly.0 ly.1 in
        let ax = ok.places pc x lx.0 lx.1 in let ay = ok.places pc y ly.0 ly.1 in
        subst (λ q. AreApart q (location g plan y)) (sym (location_is x ax.0 hx ax.1))
        (subst (λ q. AreApart (location_at (Some ax.0) (home_offset hx.word)) q)
        (sym (location_is y ay.0 hy ay.1))
        (apart_by ax.0 ay.0 hx.word hy.word (words_differ pc x y lx.0 lx.1 ly.1 ne hx hy)
        (λ r q er eq same. ne (ok.registers pc x y q lx.0 lx.1 ly.1
        (ax.1 ∙ ap (λ z. Some z) er ∙ ap (λ z. Some (place.Register z)) same) (ay.1 ∙ ap (λ z. Some z) eq)))
        (given_by pc x ax.0 lx.0 lx.1 ax.1) (given_by pc y ay.0 ly.0 ly.1 ay.1)));
  }

  pub counted : (pc y : ℕ) → (keeping_of (Some g) (Some plan)).live pc y ≡ true → y < length plan.live.items
  counted pc y e = by (slice_get plan.live.items y) refl
    where
      by : (o : Option _) → slice_get plan.live.items y ≡ o → y < length plan.live.items
      by None q = absurd (true≢false (sym (live_is pc y e).1 ∙ ap (λ z. covers (intervals_of z) pc) q))
      by (Some list) q = get_below plan.live.items y list q

  not_made : (pc y : ℕ) (i : FlatInstruction) → slice_get g.body pc ≡ Some i → is_among (made_by p i) y ≡ false
      → MakesAt p g.body pc y → ⊥
  not_made pc y i at none m =
      let same : m.0 ≡ i = cc (m.1, at) in
      true≢false (sym m.2 ∙ ap (λ j. is_among (made_by p j) y) same ∙ none)

-- ---- all functions

-- what the simulation needs of the plans
pub record IsSound (p : FlatProgram) (plans : List FunctionPlan) : Type 0 where
  pub kept : (f pc : ℕ) (g : FlatFunction) → function_in p f ≡ Some g
      → AreKept (keeping p plans f) ((keeping p plans f).live pc)
  pub counted : (f pc y : ℕ) (g : FlatFunction) → function_in p f ≡ Some g → (keeping p plans f).live pc y ≡ true
      → y < (keeping p plans f).count
  pub reads : (f pc : ℕ) (g : FlatFunction) (i : FlatInstruction) → function_in p f ≡ Some g
      → instruction_at p f pc ≡ Some i → ((x : ℕ) → makes_only i ≡ Some x → (keeping p plans f).live (pc + 1) x ≡ true)
      → (y : ℕ) → is_read (read_by p f i) y ≡ true → (keeping p plans f).live pc y ≡ true
  pub makes : (f pc : ℕ) (g : FlatFunction) (i : FlatInstruction) → function_in p f ≡ Some g
      → instruction_at p f pc ≡ Some i → (q y : ℕ) → Leads i pc q → q < length g.body
      → is_among (made_by p i) y ≡ true → makes_only i ≡ None → (keeping p plans f).live q y ≡ true
  pub rest : (f pc : ℕ) (g : FlatFunction) (i : FlatInstruction) → function_in p f ≡ Some g
      → instruction_at p f pc ≡ Some i → (q y : ℕ) → Leads i pc q → (keeping p plans f).live q y ≡ true
      → is_among (made_by p i) y ≡ false → (keeping p plans f).live pc y ≡ true
  pub entry : (f : ℕ) (g : FlatFunction) → function_in p f ≡ Some g → (y : ℕ)
      → (keeping p plans f).live 0 y ≡ true → y < g.parameters
  pub within : (f pc y : ℕ) (g : FlatFunction) → function_in p f ≡ Some g → (keeping p plans f).live pc y ≡ true
      → pc < length g.body
  pub base : (f : ℕ) (g : FlatFunction) → function_in p f ≡ Some g → (keeping p plans f).base ≡ frame_register g
  pub room : (f : ℕ) (g : FlatFunction) → function_in p f ≡ Some g → (keeping p plans f).room ≡ record_bytes g
  pub charged_room : (f : ℕ) (g : FlatFunction) → function_in p f ≡ Some g → g.room ≤ (keeping p plans f).room

module _ (p : FlatProgram) (plans : List FunctionPlan) (ok : AreAccepted p plans) where
  -- the plan of a function, and how it keeps its values
  planned : (f : ℕ) (g : FlatFunction) → function_in p f ≡ Some g
      → (plan : FunctionPlan) × (IsAccepted p f g plan) × (keeping p plans f ≡ keeping_of (Some g) (Some plan))
  unfolding keeping
  planned f g there =
      let in_range : f < length p.functions = get_below p.functions f g there in
      let long : f < length plans = omega (arith, ok.size) in
      let plan = get_some plans f long in (
        plan.0,
        ok.each f g plan.0 there plan.1,
        ap (λ z. keeping_of z (slice_get plans f)) there ∙ ap (λ z. keeping_of (Some g) z) plan.1,
      )

  body_is : (f pc : ℕ) (g : FlatFunction) (i : FlatInstruction) → function_in p f ≡ Some g
      → instruction_at p f pc ≡ Some i → slice_get g.body pc ≡ Some i
  body_is f pc g i there at = sym (ap (λ o. slice_get (body_of o) pc) there) ∙ at

  pub sound : IsSound p plans
  sound = record {
    kept = λ f pc g there. let q = planned f g there in
        subst (λ k. AreKept k (k.live pc)) (sym q.2) (are_kept p f g q.0 q.1 pc);
    counted = λ f pc y g there. let q = planned f g there in
        subst (λ k. k.live pc y ≡ true → y < k.count) (sym q.2) (counted p f g q.0 q.1 pc y);
    reads = λ f pc g i there at wanted y e. let q = planned f g there in let b = body_is f pc g i there at in
        subst (λ k. k.live pc y ≡ true) (sym q.2)
        (live_from p f g q.0 q.1 pc y (get_below g.body pc i b) (q.1.closed.read pc y (i, b, e)
        (λ x w. (live_is p f g q.0 q.1 (pc + 1) x (subst (λ k. k.live (pc + 1) x ≡ true) q.2
        (wanted x (ap makes_only (same_at g.body pc i w.0 b w.1) ∙ w.2)))).1)));
    makes = λ f pc g i there at to y leads lt e always. let q = planned f g there in let b = body_is f pc g i there at in
        subst (λ k. k.live to y ≡ true) (sym q.2)
        (live_from p f g q.0 q.1 to y lt (q.1.closed.made pc to y (i, b, leads, lt) (i, b, e, always)));
    rest = λ f pc g i there at to y leads live e. let q = planned f g there in let b = body_is f pc g i there at in
        let l = live_is p f g q.0 q.1 to y (subst (λ k. k.live to y ≡ true) q.2 live) in
        subst (λ k. k.live pc y ≡ true) (sym q.2)
        (live_from p f g q.0 q.1 pc y (get_below g.body pc i b)
        (q.1.closed.rest pc to y (i, b, leads, l.0) l.1 (not_made p f g q.0 q.1 pc y i b e)));
    entry = λ f g there y live. let q = planned f g there in
        let l = live_is p f g q.0 q.1 0 y (subst (λ k. k.live 0 y ≡ true) q.2 live) in q.1.entry y l.0 l.1;
    within = λ f pc y g there live. let q = planned f g there in
        (live_is p f g q.0 q.1 pc y (subst (λ k. k.live pc y ≡ true) q.2 live)).0;
    base = λ f g there. ap (λ (k : Keeping). k.base) (planned f g there).2;
    room = λ f g there. ap (λ (k : Keeping). k.room) (planned f g there).2;
    charged_room = λ f g there. subst (λ k. g.room ≤ k.room) (sym (planned f g there).2) (charged_most g);
  }
