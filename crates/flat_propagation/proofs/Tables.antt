-- A table in which a register is made anew.
use Rattle.std.proofs.Common.{◌≡◌, ◌⊎◌, inl, inr, ⊎_elim, ℕ, zero, suc, ◌+◌, ◌<◌, ◌≤◌, refl, sym, ap, ◌∙◌, subst}
use Rattle.std.proofs.Common.{arith, Bool, true, false, not, List, [], ◌∷◌, ◌++◌, length, Option, Some, None}
use Rattle.std.specs.Prelude.{slice_get, slice_set, nat_le, ◌==◌, ◌&&◌, ◌||◌, if◌then◌else◌}
use Rattle.std.proofs.lemmas.Bool.{eqb-true, eq-eqb, le-leb, leb-true, cases_Bool, false≢true}
use Rattle.std.proofs.lemmas.Option.{same_Some}
use Rattle.flat_code.specs.declared.instruction.RightOperand.{RightOperand}
use Rattle.flat_code.specs.declared.instruction.RightOperand.TheVariants.{Register, Number}
use Rattle.flat_propagation.specs.declared.fact.Fact.{Fact}
use Rattle.flat_propagation.specs.declared.fact.Fact.TheVariants.{Unknown, Same, Word, Difference, Condition}
use Rattle.flat_propagation.specs.declared.table.Entry.{Entry}
use Rattle.flat_propagation.specs.declared.table.FactTable.{FactTable}
use Rattle.flat_propagation.specs.Facts.{names, right_names, unless_named, with_fact}
use Rattle.flat_propagation.specs.Tables.{made_by, made_at, right_stays, stays, fact_by, fact_among}
use Rattle.flat_propagation.specs.Tables.{AreBefore, IsBefore}
use Rattle.flat_propagation.proofs.Holding.{either}

-- ---- facts by what was made when

module _ (es es' : List Entry) (time : ℕ) where
  right_alike : (b : RightOperand) → ((x : ℕ) → nat_le (made_at es' x) time ≡ nat_le (made_at es x) time)
      → right_stays es' time b ≡ right_stays es time b
  right_alike (Register x) h = h x
  right_alike (Number n) h = refl

  stays_alike : (fact : Fact) → ((x : ℕ) → nat_le (made_at es' x) time ≡ nat_le (made_at es x) time)
      → stays es' time fact ≡ stays es time fact
  stays_alike Unknown h = refl
  stays_alike (Same x) h = h x
  stays_alike (Word n) h = refl
  stays_alike (Difference a b) h =
      ap (λ k. k && right_stays es' time b) (h a) ∙ ap (λ k. nat_le (made_at es a) time && k) (right_alike b h)
  stays_alike (Condition op a b) h =
      ap (λ k. k && right_stays es' time b) (h a) ∙ ap (λ k. nat_le (made_at es a) time && k) (right_alike b h)

  -- where one register more was made since, a fact stays that does not speak of it
  module _ (x : ℕ) (made : (z : ℕ) → nat_le (made_at es' z) time ≡ (nat_le (made_at es z) time && not (z == x))) where
    right_made : (b : RightOperand) → right_stays es' time b ≡ (right_stays es time b && not (right_names b x))
    right_made (Register z) = made z
    right_made (Number n) = refl

    both : (a b c d : Bool) → ((a && not b) && (c && not d)) ≡ ((a && c) && not (b || d))
    both true true c d = by c
      where
        by : (c : Bool) → false ≡ (c && false)
        by true = refl
        by false = refl
    both true false c d = refl
    both false b c d = refl

    true_and : (b : Bool) → b ≡ (b && true)
    true_and true = refl
    true_and false = refl

    stays_made : (fact : Fact) → stays es' time fact ≡ (stays es time fact && not (names fact x))
    stays_made Unknown = refl
    stays_made (Same z) = made z
    stays_made (Word n) = refl
    stays_made (Difference a b) =
        ap (λ k. k && right_stays es' time b) (made a)
        ∙ ap (λ k. (nat_le (made_at es a) time && not (a == x)) && k) (right_made b)
        ∙ both (nat_le (made_at es a) time) (a == x) (right_stays es time b) (right_names b x)
    stays_made (Condition op a b) =
        ap (λ k. k && right_stays es' time b) (made a)
        ∙ ap (λ k. (nat_le (made_at es a) time && not (a == x)) && k) (right_made b)
        ∙ both (nat_le (made_at es a) time) (a == x) (right_stays es time b) (right_names b x)

-- ---- an entry more

abbrev pub blank : Entry
blank = record { fact = Unknown; recorded = 0; made = 0 }

get_padded : (es : List Entry) (y : ℕ) → (slice_get (es ++ blank ∷ []) y ≡ slice_get es y)
    ⊎ ((slice_get es y ≡ None) × (slice_get (es ++ blank ∷ []) y ≡ Some blank))
get_padded [] zero = inr (refl, refl)
get_padded [] (suc y) = inl refl
get_padded (e ∷ es) zero = inl refl
get_padded (e ∷ es) (suc y) = get_padded es y

made_padded : (es : List Entry) (y : ℕ) → made_at (es ++ blank ∷ []) y ≡ made_at es y
made_padded es y =
    ⊎_elim (λ e. ap made_by e) (λ e. ap made_by e.1 ∙ sym (ap made_by e.0)) (get_padded es y)

blank_fact : (es : List Entry) (block : ℕ) → fact_by es block (Some blank) ≡ Unknown
blank_fact es block = either (λ f. f ≡ Unknown) (nat_le block 0 && true) Unknown Unknown (λ e. refl) (λ e. refl)

-- a fact by its entry depends on what was made alone
fact_alike : (es es' : List Entry) (block : ℕ) (o : Option Entry) → ((x : ℕ) → made_at es' x ≡ made_at es x)
    → fact_by es' block o ≡ fact_by es block o
fact_alike es es' block None h = refl
fact_alike es es' block (Some e) h =
    ap (λ b. if nat_le block e.recorded && b then e.fact else Unknown)
    (stays_alike es es' e.recorded e.fact (λ x. ap (λ n. nat_le n e.recorded) (h x)))

pub padded : (es : List Entry) (block y : ℕ) → fact_among (es ++ blank ∷ []) block y ≡ fact_among es block y
padded es block y =
    ⊎_elim
    (λ e. ap (fact_by (es ++ blank ∷ []) block) e
    ∙ fact_alike es (es ++ blank ∷ []) block (slice_get es y) (made_padded es))
    (λ e. ap (fact_by (es ++ blank ∷ []) block) e.1
    ∙ blank_fact (es ++ blank ∷ []) block
    ∙ sym (ap (fact_by es block) e.0))
    (get_padded es y)

pub padded_before : (es : List Entry) (time : ℕ) → 0 < time → AreBefore es time → AreBefore (es ++ blank ∷ []) time
padded_before es time some before = record {
  each = λ y e at.
      ⊎_elim (λ s. before.each y e (sym s ∙ at))
      (λ s.
      let same = same_Some blank e (sym s.1 ∙ at) in
      subst (λ (e : Entry). (e.recorded < time) × (e.made < time)) same (some, some)) (get_padded es y);
}

-- ---- an entry that is written

set_here : (es : List Entry) (n : ℕ) (e : Entry) → n < length es → slice_get (slice_set es n e) n ≡ Some e
set_here [] n e lt = absurd (omega arith)
set_here (x ∷ xs) zero e lt = refl
set_here (x ∷ xs) (suc n) e lt = set_here xs n e (omega arith)

set_other : (es : List Entry) (n : ℕ) (e : Entry) (y : ℕ) → (y == n) ≡ false
    → slice_get (slice_set es n e) y ≡ slice_get es y
set_other [] n e y ne = refl
set_other (x ∷ xs) zero e zero ne = absurd (false≢true (sym ne))
set_other (x ∷ xs) zero e (suc y) ne = refl
set_other (x ∷ xs) (suc n) e zero ne = refl
set_other (x ∷ xs) (suc n) e (suc y) ne = set_other xs n e y (step y n ne)
  where
    step : (y n : ℕ) → (suc y == suc n) ≡ false → (y == n) ≡ false
    step y n e =
        ⊎_elim
        (λ t. let s = eqb-true y n t in absurd (false≢true (sym e ∙ eq-eqb (suc y) (suc n) (ap suc s))))
        (λ f. f) (cases_Bool (y == n))

-- ---- a register is made

same_bool : (x y : Bool) → (x ≡ true → y ≡ true) → (y ≡ true → x ≡ true) → x ≡ y
same_bool true true h k = refl
same_bool true false h k = sym (h refl)
same_bool false true h k = k refl
same_bool false false h k = refl

right_true : (b : Bool) → (b && true) ≡ b
right_true true = refl
right_true false = refl

right_false : (b : Bool) → (b && false) ≡ false
right_false true = refl
right_false false = refl

and_second : (a b : Bool) → (a && b) ≡ true → b ≡ true
and_second true b e = e
and_second false b e = absurd (false≢true e)

above : (n time : ℕ) → time < n → nat_le n time ≡ false
above n time lt =
    ⊎_elim (λ e. let le = leb-true n time e in absurd (omega (arith, lt, le))) (λ e. e) (cases_Bool (nat_le n time))

made_low : (es : List Entry) (time x : ℕ) → 0 < time → AreBefore es time → made_at es x < time
made_low es time x some before = by (slice_get es x) refl
  where
    by : (o : Option Entry) → slice_get es x ≡ o → made_by o < time
    by None at = some
    by (Some e) at = (before.each x e at).1

module _ (es : List Entry) (x time : ℕ) (fact : Fact) (inside : x < length es) (some : 0 < time)
    (before : AreBefore es time) where
  abbrev entry : Entry
  entry = record { fact = unless_named fact x; recorded = time; made = time }

  abbrev after : List Entry
  after = slice_set es x entry

  made_here : (z : ℕ) → (z == x) ≡ true → made_at after z ≡ time
  made_here z e =
      ap (made_at after) (eqb-true z x e) ∙ ap made_by (set_here es x entry inside)

  made_other : (z : ℕ) → (z == x) ≡ false → made_at after z ≡ made_at es z
  made_other z e = ap made_by (set_other es x entry z e)

  -- at an earlier time
  made_since : (t z : ℕ) → t < time → nat_le (made_at after z) t ≡ (nat_le (made_at es z) t && not (z == x))
  made_since t z lt =
      ⊎_elim
      (λ (e : (z == x) ≡ true).
      ap (λ n. nat_le n t) (made_here z e)
      ∙ above time t lt
      ∙ sym (right_false (nat_le (made_at es z) t))
      ∙ ap (λ b. nat_le (made_at es z) t && not b) (sym e))
      (λ (e : (z == x) ≡ false).
      ap (λ n. nat_le n t) (made_other z e)
      ∙ sym (right_true (nat_le (made_at es z) t))
      ∙ ap (λ b. nat_le (made_at es z) t && not b) (sym e))
      (cases_Bool (z == x))

  -- all that is now made is so at the time
  made_by_now : (z : ℕ) → nat_le (made_at after z) time ≡ true
  made_by_now z =
      ⊎_elim
      (λ (e : (z == x) ≡ true). le-leb (made_at after z) time (let s = made_here z e in omega (arith, s)))
      (λ (e : (z == x) ≡ false).
      le-leb (made_at after z) time
      (let s = made_other z e in let l = made_low es time z some before in omega (arith, s, l)))
      (cases_Bool (z == x))

  stays_now : (f : Fact) → stays after time f ≡ true
  stays_now Unknown = refl
  stays_now (Same z) = made_by_now z
  stays_now (Word n) = refl
  stays_now (Difference a (Register b)) =
      ap (λ k. k && nat_le (made_at after b) time) (made_by_now a) ∙ made_by_now b
  stays_now (Difference a (Number n)) = ap (λ k. k && true) (made_by_now a)
  stays_now (Condition op a (Register b)) =
      ap (λ k. k && nat_le (made_at after b) time) (made_by_now a) ∙ made_by_now b
  stays_now (Condition op a (Number n)) = ap (λ k. k && true) (made_by_now a)

  -- the fact of an entry that stood before
  cut : (a b c : Bool) (f : Fact) → names f x ≡ c
      → (if a && (b && not c) then f else Unknown) ≡ unless_named (if a && b then f else Unknown) x
  cut true true true f e = sym (ap (λ b. if b then Unknown else f) e)
  cut true true false f e = sym (ap (λ b. if b then Unknown else f) e)
  cut true false c f e = refl
  cut false b c f e = refl

  old_fact : (block : ℕ) (o : Option Entry) (y : ℕ) → slice_get es y ≡ o
      → fact_by after block o ≡ unless_named (fact_by es block o) x
  old_fact block None y at = refl
  old_fact block (Some e) y at =
      ap (λ b. if nat_le block e.recorded && b then e.fact else Unknown)
      (stays_made es after e.recorded x (λ z. made_since e.recorded z (before.each y e at).0) e.fact)
      ∙ cut (nat_le block e.recorded) (stays es e.recorded e.fact) (names e.fact x) e.fact refl

  pub made_facts : (block y : ℕ) → block ≤ time
      → fact_among after block y ≡ with_fact (fact_among es block) x fact y
  unfolding with_fact
  made_facts block y le =
      ⊎_elim
      (λ (e : (y == x) ≡ true).
      ap (fact_among after block) (eqb-true y x e)
      ∙ ap (fact_by after block) (set_here es x entry inside)
      ∙ ap (λ b. if b && stays after time (unless_named fact x) then unless_named fact x else Unknown)
      (le-leb block time le)
      ∙ ap (λ b. if b then unless_named fact x else Unknown) (stays_now (unless_named fact x))
      ∙ ap (λ b. unless_named (if b then fact else fact_among es block y) x) (sym e))
      (λ (e : (y == x) ≡ false).
      ap (fact_by after block) (set_other es x entry y e)
      ∙ old_fact block (slice_get es y) y refl
      ∙ ap (λ b. unless_named (if b then fact else fact_among es block y) x) (sym e))
      (cases_Bool (y == x))

  pub made_before : AreBefore after (time + 1)
  made_before = record {
    each = λ y e at.
        ⊎_elim
        (λ (s : (y == x) ≡ true).
        let here = ap (slice_get after) (eqb-true y x s) ∙ set_here es x entry inside in
        subst (λ (e : Entry). (e.recorded < time + 1) × (e.made < time + 1)) (same_Some entry e (sym here ∙ at))
        (omega arith, omega arith))
        (λ (s : (y == x) ≡ false).
        let old = before.each y e (sym (set_other es x entry y s) ∙ at) in
        let a = old.0 in
        let b = old.1 in
        (omega (arith, a), omega (arith, b)))
        (cases_Bool (y == x));
  }

-- ---- whole tables

pub forgotten : (es : List Entry) (time y : ℕ) → AreBefore es time → fact_among es time y ≡ Unknown
forgotten es time y before = by (slice_get es y) refl
  where
    by : (o : Option Entry) → slice_get es y ≡ o → fact_by es time o ≡ Unknown
    by None at = refl
    by (Some e) at =
        ap (λ b. if b && stays es e.recorded e.fact then e.fact else Unknown)
        (above time e.recorded (before.each y e at).0)

pub empty_facts : (block y : ℕ) → fact_among [] block y ≡ Unknown
empty_facts block y = refl

pub later : (table : FactTable) (time : ℕ) → IsBefore table time → IsBefore table (time + 1)
later table time h = record {
  entries = record {
    each = λ y e at.
        let old = h.entries.each y e at in
        let a = old.0 in
        let b = old.1 in
        (omega (arith, a), omega (arith, b));
  };
  block = let b = h.block in omega (arith, b);
}

-- behind entries that were made up to it
pub made_over : (old es : List Entry) (x time : ℕ) (fact new : Fact) (block y : ℕ) → new ≡ unless_named fact x
    → x < length es → 0 < time → AreBefore es time
    → ((block y : ℕ) → fact_among es block y ≡ fact_among old block y) → block ≤ time
    → fact_among (slice_set es x (record { fact = new; recorded = time; made = time })) block y
    ≡ with_fact (fact_among old block) x fact y
unfolding with_fact
made_over old es x time fact new block y is inside some before same le =
    ap (λ f. fact_among (slice_set es x (record { fact = f; recorded = time; made = time })) block y) is
    ∙ made_facts es x time fact inside some before block y le
    ∙ ap (λ f. unless_named (if y == x then fact else f) x) (same block y)
