-- Rows of calls, and how many calls stand before a place.
use Rattle.std.proofs.Common.{◌≡◌, ℕ, zero, suc, ◌+◌, ◌-◌, ◌<◌, ◌≤◌, ◌⊎◌, inl, inr, ⊎_elim, List, [], ◌∷◌, ◌++◌, length}
use Rattle.std.proofs.Common.{Some, Bool}
use Rattle.std.proofs.Common.{true, false, ◌&&◌, ◌||◌, if◌then◌else◌, refl, sym, ap, ◌∙◌, subst, arith, true≢false}
use Rattle.std.proofs.Common.{append-nil, length-append, get_or, add-one}
use Rattle.std.specs.Prelude.{slice_get, nat_eq, nat_le, nat_lt, Vec}
use Rattle.std.specs.Global.{Global}
use Rattle.std.proofs.lemmas.Option.{get_or_from_slice_get}
use Rattle.std.proofs.lemmas.Bool.{cases_lt, lt-ltb, le-ltb, le-leb, lt-leb, eq-eqb, ne_eqb}
use Rattle.flat_code.specs.declared.instruction.FlatInstruction.{FlatInstruction}
use Rattle.flat_code.specs.declared.function.FlatFunction.{FlatFunction}
use Rattle.reg_plan.specs.declared.plan.FunctionPlan.{FunctionPlan}
use Rattle.reg_plan.specs.Saves.Saves.{is_call_at, calls_before, is_saved, saved_below, items_of, ends_with}
use Rattle.flat_code.specs.declared.function.FlatProgram.{FlatProgram}
use Rattle.flat_code.specs.Calls.{function_in}
use Rattle.flat_code.specs.Meaning.{body_of}
use Rattle.reg_plan.specs.declared.call_saves.saves.CallSaves.{CallSaves}
use Rattle.reg_plan.specs.Saves.Saves.{with_last, is_that, is_call, is_call_of, PutsWhere, Counts, HasSaves, row_of}
use Rattle.reg_plan.specs.Saves.Saves.{saved_at, saved_under}

-- a call stands at a place of the function
pub call_within : (body : List FlatInstruction) (pc : ℕ) → is_call_at body pc ≡ true → pc < length body
call_within [] zero h = absurd (true≢false (sym h))
call_within [] (suc pc) h = absurd (true≢false (sym h))
call_within (i ∷ is) zero h = omega arith
call_within (i ∷ is) (suc pc) h = let l = call_within is pc h in omega (arith, l)

-- no fewer calls stand before a later place, and one more behind a call
pub calls_grow : (body : List FlatInstruction) (m k n : ℕ) → m + k ≡ n → calls_before body m ≤ calls_before body n
unfolding calls_before
calls_grow body m zero n e = let same : m ≡ n = omega arith in
    subst (λ x. calls_before body m ≤ calls_before body x) same (omega arith)
calls_grow body m (suc k) zero e = absurd (omega arith)
calls_grow body m (suc k) (suc n) e = let l = calls_grow body m k n (omega arith) in omega (arith, l)

pub calls_more : (body : List FlatInstruction) (pc n : ℕ) → is_call_at body pc ≡ true → pc < n
    → calls_before body pc < calls_before body n
unfolding calls_before
calls_more body pc n h lt =
    let l = calls_grow body (suc pc) (n - suc pc) n (omega arith) in
    let e : calls_before body (suc pc) ≡ calls_before body pc + 1
    = ap (λ (b : Bool). calls_before body pc + (if b then 1 else 0)) h in
    omega (arith, l, e)

-- calls are in the order of their places
pub low_same : (body : List FlatInstruction) (m pc : ℕ) → is_call_at body pc ≡ true
    → nat_le (calls_before body m) (calls_before body pc) ≡ nat_le m pc
low_same body m pc h = ⊎_elim
    (λ low. let l = calls_more body pc m h low in
    lt-leb (calls_before body m) (calls_before body pc) l ∙ sym (lt-leb m pc low))
    (λ high. let l = calls_grow body m (pc - m) pc (omega arith) in
    le-leb (calls_before body m) (calls_before body pc) l ∙ sym (le-leb m pc high))
    (cases_lt pc m)

pub high_same : (body : List FlatInstruction) (pc n : ℕ) → is_call_at body pc ≡ true
    → nat_lt (calls_before body pc) (calls_before body n) ≡ nat_lt pc n
high_same body pc n h = ⊎_elim
    (λ low. let l = calls_more body pc n h low in
    lt-ltb (calls_before body pc) (calls_before body n) l ∙ sym (lt-ltb pc n low))
    (λ high. let l = calls_grow body n (pc - n) pc (omega arith) in
    le-ltb (calls_before body pc) (calls_before body n) l ∙ sym (le-ltb pc n high))
    (cases_lt pc n)

-- a number behind a list
pub last_of : (xs : List ℕ) (x : ℕ) → slice_get (xs ++ x ∷ []) (length xs) ≡ Some x
last_of [] x = refl
last_of (y ∷ ys) x = last_of ys x

pub ends_behind : (xs : List ℕ) (x y : ℕ) → ends_with (xs ++ x ∷ []) y ≡ nat_eq x y
unfolding ends_with
ends_behind xs x y =
    let l : length (xs ++ x ∷ []) ≡ length xs + 1 = length-append xs (x ∷ []) in
    let e : length (xs ++ x ∷ []) - 1 ≡ length xs = omega (arith, l) in
    ap (λ n. is_that (slice_get (xs ++ x ∷ []) n) y) e ∙ ap (λ o. is_that o y) (last_of xs x)

pub put_twice : (xs : List ℕ) (y : ℕ) → with_last (with_last xs y) y ≡ with_last xs y
unfolding with_last
put_twice xs y = by (ends_with xs y) refl
  where
    by : (b : Bool) → ends_with xs y ≡ b → with_last (with_last xs y) y ≡ with_last xs y
    by true e = rw (e, e) refl
    by false e = rw (e, ends_behind xs y y, eq-eqb y y refl) refl

-- what is saved of the first so many virtual registers does not end with a later one
pub saved_ends : (f : FlatFunction) (plan : FunctionPlan) (pc n m : ℕ) → n ≤ m
    → ends_with (saved_below f plan pc n) m ≡ false
unfolding saved_below ends_with
saved_ends f plan pc zero m l = refl
saved_ends f plan pc (suc n) m l = by (is_saved f plan pc n) (saved_ends f plan pc n m (omega arith))
  where
    by : (b : Bool) → ends_with (saved_below f plan pc n) m ≡ false
        → ends_with (saved_below f plan pc n ++ (if b then n ∷ [] else [])) m ≡ false
    by true h = ends_behind (saved_below f plan pc n) n m ∙ ne_eqb n m (λ e. omega (arith, e))
    by false h = ap (λ xs. ends_with xs m) (append-nil (saved_below f plan pc n)) ∙ h

pub saved_more : (f : FlatFunction) (plan : FunctionPlan) (pc n : ℕ) (row row' : List ℕ)
    → row ≡ saved_below f plan pc n → row' ≡ (if is_saved f plan pc n then with_last row n else row)
    → row' ≡ saved_below f plan pc (n + 1)
unfolding saved_below with_last
saved_more f plan pc n row row' e e' = e' ∙ by (is_saved f plan pc n) ∙ ap (saved_below f plan pc) (sym (add-one n))
  where
    by : (b : Bool) → (if b then with_last row n else row) ≡ saved_below f plan pc n ++ (if b then n ∷ [] else [])
    by true = rw (e, saved_ends f plan pc n n (omega arith)) refl
    by false = e ∙ sym (append-nil (saved_below f plan pc n))

-- one test after another, and none
pub puts_more : (body : List FlatInstruction) (old mid new : List (Vec ℕ Global)) (y : ℕ) (s t both : ℕ → Bool)
    → ((pc : ℕ) → both pc ≡ (s pc || t pc)) → PutsWhere body old mid y s → PutsWhere body mid new y t
    → PutsWhere body old new y both
puts_more body old mid new y s t both is a b = record {
  size = b.size ∙ a.size;
  rows = λ pc h. b.rows pc h
      ∙ by (s pc) (t pc) (items_of (slice_get old (calls_before body pc)))
      (items_of (slice_get mid (calls_before body pc))) (a.rows pc h)
      ∙ ap (λ x. if x then with_last (items_of (slice_get old (calls_before body pc))) y
      else items_of (slice_get old (calls_before body pc))) (sym (is pc));
}
  where
    by : (c d : Bool) (xs ys : List ℕ) → ys ≡ (if c then with_last xs y else xs)
        → (if d then with_last ys y else ys) ≡ (if c || d then with_last xs y else xs)
    by true true xs ys e = ap (λ zs. with_last zs y) e ∙ put_twice xs y
    by true false xs ys e = e
    by false true xs ys e = ap (λ zs. with_last zs y) e
    by false false xs ys e = e

pub puts_none : (body : List FlatInstruction) (old : List (Vec ℕ Global)) (y : ℕ) (t : ℕ → Bool)
    → ((pc : ℕ) → t pc ≡ false) → PutsWhere body old old y t
puts_none body old y t is = record {
  size = refl;
  rows = λ pc h. rw (is pc) refl;
}

pub puts_same : (body : List FlatInstruction) (old new : List (Vec ℕ Global)) (y : ℕ) (s t : ℕ → Bool)
    → ((pc : ℕ) → is_call_at body pc ≡ true → s pc ≡ t pc) → PutsWhere body old new y s → PutsWhere body old new y t
puts_same body old new y s t is a = record {
  size = a.size;
  rows = λ pc h. a.rows pc h
      ∙ ap (λ x. if x then with_last (items_of (slice_get old (calls_before body pc))) y
      else items_of (slice_get old (calls_before body pc))) (is pc h);
}

pub or_both : (c x y : Bool) → (c && (x || y)) ≡ ((c && x) || (c && y))
or_both true x y = refl
or_both false x y = refl

pub none_both : (c : Bool) → (c && false) ≡ false
none_both true = refl
none_both false = refl

-- rows from one to the one before another
pub same_end : (from to k j : ℕ) → to ≤ k → (from ≤ to → k ≤ to) → (to ≤ from → k ≡ from)
    → (nat_le from j && nat_lt j k) ≡ (nat_le from j && nat_lt j to)
same_end from to k j past end none = ⊎_elim
    (λ low. rw (lt-leb from j low) refl)
    (λ high. ⊎_elim
    (λ inside. let l = end (omega (arith, high, inside)) in
    let same : k ≡ to = omega (arith, l, past) in
    ap (λ n. nat_le from j && nat_lt j n) same)
    (λ outside. ap (λ b. nat_le from j && b)
    (le-ltb j k (by outside high (cases_lt from to)) ∙ sym (le-ltb j to outside)))
    (cases_lt j to))
    (cases_lt j from)
  where
    by : to ≤ j → from ≤ j → (from < to) ⊎ (to ≤ from) → k ≤ j
    by outside high (inl less) = let l = end (omega (arith, less)) in omega (arith, l, outside)
    by outside high (inr more) = let e = none more in omega (arith, e, high)

-- how many calls stand before a place, by the table
pub count_at : (before : List ℕ) (body : List FlatInstruction) → Counts before body → (pc : ℕ) → pc ≤ length body
    → get_or before pc 0 ≡ calls_before body pc
count_at before body c pc l = get_or_from_slice_get before pc (calls_before body pc) 0 (c.each pc l)

pub first_count : (body : List FlatInstruction) (xs : List ℕ) → xs ≡ 0 ∷ [] → (pc : ℕ) → pc ≤ 0
    → slice_get xs pc ≡ Some (calls_before body pc)
unfolding calls_before
first_count body xs e zero l = ap (λ ys. slice_get ys 0) e
first_count body xs e (suc pc) l = absurd (omega arith)

pub front_of : (xs : List ℕ) (y k : ℕ) → k < length xs → slice_get (xs ++ y ∷ []) k ≡ slice_get xs k
front_of [] y k l = absurd (omega arith)
front_of (x ∷ xs) y zero l = refl
front_of (x ∷ xs) y (suc k) l = front_of xs y k (omega arith)

pub counts_more : (body : List FlatInstruction) (xs xs' : List ℕ) (n x : ℕ) → length xs ≡ n + 1 → xs' ≡ xs ++ x ∷ []
    → x ≡ calls_before body (n + 1) → ((pc : ℕ) → pc ≤ n → slice_get xs pc ≡ Some (calls_before body pc)) → (pc : ℕ)
    → pc ≤ n + 1 → slice_get xs' pc ≡ Some (calls_before body pc)
counts_more body xs xs' n x l e is old pc le = ap (λ ys. slice_get ys pc) e ∙ ⊎_elim
    (λ low. front_of xs x pc (omega (arith, l)) ∙ old pc (omega (arith, low)))
    (λ high. let same : pc ≡ n + 1 = omega (arith, le, high) in
    ap (slice_get (xs ++ x ∷ [])) (same ∙ sym l) ∙ last_of xs x
    ∙ ap Some (is ∙ ap (calls_before body) (sym same)))
    (cases_lt pc (n + 1))

pub count_more : (body : List FlatInstruction) (n : ℕ) (i : FlatInstruction) → slice_get body n ≡ Some i
    → calls_before body (n + 1) ≡ calls_before body n + (if is_call i then 1 else 0)
unfolding calls_before
count_more body n i e =
    ap (calls_before body) (add-one n) ∙ ap (λ o. calls_before body n + (if is_call_of o then 1 else 0)) e

-- the rows of an interval
pub puts_between : (body : List FlatInstruction) (old new : List (Vec ℕ Global)) (y from to a b start end : ℕ)
    → from ≡ calls_before body a → to ≡ calls_before body b
    → ((pc : ℕ) → pc < length body → nat_le a pc ≡ nat_le start (pc + 1))
    → ((pc : ℕ) → nat_lt pc b ≡ (nat_lt (pc + 1) (length body) && nat_lt (pc + 1) end)) → length new ≡ length old
    → ((k : ℕ) → items_of (slice_get new k)
    ≡ (if nat_le from k && nat_lt k to then with_last (items_of (slice_get old k)) y else items_of (slice_get old k)))
    → PutsWhere body old new y (λ pc. nat_lt (pc + 1) (length body) && (nat_le start (pc + 1) && nat_lt (pc + 1) end))
puts_between body old new y from to a b start end ea eb low high size rows = record {
  size = size;
  rows = λ pc h.
      let low' : nat_le from (calls_before body pc) ≡ nat_le start (pc + 1)
      = ap (λ n. nat_le n (calls_before body pc)) ea ∙ low_same body a pc h ∙ low pc (call_within body pc h) in
      let high' : nat_lt (calls_before body pc) to ≡ (nat_lt (pc + 1) (length body) && nat_lt (pc + 1) end)
      = ap (nat_lt (calls_before body pc)) eb ∙ high_same body pc b h ∙ high pc in
      rows (calls_before body pc)
      ∙ ap (λ x. if x && nat_lt (calls_before body pc) to
      then with_last (items_of (slice_get old (calls_before body pc))) y
      else items_of (slice_get old (calls_before body pc))) low'
      ∙ ap (λ x. if nat_le start (pc + 1) && x then with_last (items_of (slice_get old (calls_before body pc))) y
      else items_of (slice_get old (calls_before body pc))) high'
      ∙ ap (λ x. if x then with_last (items_of (slice_get old (calls_before body pc))) y
      else items_of (slice_get old (calls_before body pc)))
      (and_swap (nat_le start (pc + 1)) (nat_lt (pc + 1) (length body)) (nat_lt (pc + 1) end));
}
  where
    and_swap : (x y z : Bool) → (x && (y && z)) ≡ (y && (x && z))
    and_swap true true z = refl
    and_swap true false z = refl
    and_swap false true z = refl
    and_swap false false z = refl

-- the rows of all calls
pub has_saves : (table : CallSaves) (p : FlatProgram) (plans : List FunctionPlan) (n : ℕ) (f : FlatFunction)
    (plan : FunctionPlan) → slice_get p.functions n ≡ Some f → slice_get plans n ≡ Some plan
    → Counts table.before.items f.body
    → ((pc : ℕ) → is_call_at f.body pc ≡ true
    → items_of (slice_get table.rows.items (calls_before f.body pc)) ≡ saved_below f plan pc (length plan.live.items))
    → HasSaves table p plans n (body_of (function_in p n))
unfolding saved_at
has_saves table p plans n f plan e e' counts rows = record {
  each = λ pc h.
      let h' : is_call_at f.body pc ≡ true = ap (λ o. is_call_at (body_of o) pc) (sym e) ∙ h in
      let l = call_within f.body pc h' in
      ap (row_of table.rows.items) (counts.each pc (omega (arith, l))) ∙ rows pc h'
      ∙ ap (λ o. saved_under (Some f) o pc) (sym e') ∙ ap (λ o. saved_under o (slice_get plans n) pc) (sym e);
}
