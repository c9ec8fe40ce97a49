-- The areas of a function's temporaries, as they are counted.
use Rattle.std.proofs.Common.{◌≡◌, ◌≢◌, ℕ, zero, suc, ◌+◌, ◌-◌, ◌*◌, ◌%◌, ◌<◌, ◌≤◌, Bool, true, false, List, []}
use Rattle.std.proofs.Common.{◌∷◌, ◌++◌, length, get_or, refl, sym, ap, ◌∙◌, subst, arith}
use Rattle.std.specs.Prelude.{nat_le, nat_lt, IfOk, MatchOption, Option, Some, None}
use Rattle.std.specs.Prelude.{Result, Ok, Err}
use Rattle.std.proofs.lemmas.Bool.{leb-false, leb-true, le-ltb, lt-ltb, ltb-false, ltb-true}
use Rattle.tac_ir.specs.declared.instruction.Instruction.{Instruction}
use Rattle.tac_ir.specs.declared.function.CodeFunction.{CodeFunction}
use Rattle.tac_ir.specs.declared.function.Tac.{Tac}
use Rattle.tac_ir.specs.Structures.{greatest_structure, structures_below}
use Rattle.metadata_plan.specs.Entries.{has_area}
use Rattle.metadata_plan.specs.Registers.{most_temporaries}
use Rattle.metadata_relation.specs.Structures.{HasAreas}
use Rattle.metadata_expansion.specs.Areas.{AreGreatest}
use Rattle.metadata_expansion.proofs.GreatestStructures.{greatest_past}
use Rattle.instruction_selection.specs.Areas.{sum_before, AreSumsOf, HasTable}

-- ---- sums

pub sum_more : (ns : List ℕ) (i : ℕ) → i < length ns → sum_before ns (i + 1) ≡ sum_before ns i + get_or ns i 0
sum_more [] i low = absurd (omega (arith, low))
sum_more (n ∷ []) zero low = omega arith
sum_more (n ∷ m ∷ ns) zero low = omega arith
sum_more (n ∷ ns) (suc i) low =
    let rest = sum_more ns i (omega (arith, low)) in
    let next : suc (i + 1) ≡ suc i + 1 = omega arith in
    ap (sum_before (n ∷ ns)) (sym next) ∙ omega (arith, rest)

pub sum_start : (ns : List ℕ) → 0 ≡ sum_before ns 0
sum_start [] = refl
sum_start (n ∷ ns) = refl

pub sum_grows : (ns : List ℕ) (i : ℕ) → sum_before ns i ≤ sum_before ns (length ns)
sum_grows [] i = omega arith
sum_grows (n ∷ ns) zero = omega arith
sum_grows (n ∷ ns) (suc i) = let rest = sum_grows ns i in omega (arith, rest)

-- one that is put behind a list
pub pushed : (f : ℕ → ℕ) (ns : List ℕ) (n i : ℕ) → length ns ≡ i → n ≡ f i
    → ((j : ℕ) → j < i → get_or ns j 0 ≡ f j) → (j : ℕ) → j < i + 1 → get_or (ns ++ (n ∷ [])) j 0 ≡ f j
pushed f [] n i long is before zero low = is ∙ ap f (sym long)
pushed f [] n i long is before (suc j) low = absurd (omega (arith, long, low))
pushed f (m ∷ ns) n zero long is before j low = absurd (omega (arith, long))
pushed f (m ∷ ns) n (suc i) long is before zero low = before zero (omega arith)
pushed f (m ∷ ns) n (suc i) long is before (suc j) low =
    pushed (λ k. f (suc k)) ns n i (omega (arith, long)) is (λ k lt. before (suc k) (omega (arith, lt))) j
    (omega (arith, low))

pub no_room : (ns : List ℕ) (room sum i : ℕ) → i < length ns → sum ≡ sum_before ns i
    → room < 5 * (sum + get_or ns i 0) → room < 5 * sum_before ns (length ns)
no_room ns room sum i low so over =
    let more = sum_more ns i low in
    let less = sum_grows ns (i + 1) in
    omega (arith, more, less, so, over)

-- all sums are there, the last of them behind the others
pub all_sums : (ns : List ℕ) (room sum i : ℕ) (before after : List ℕ) → i ≡ length ns → length before ≡ i
    → sum ≡ sum_before ns i → 5 * sum ≤ room → ((j : ℕ) → j < i → get_or before j 0 ≡ sum_before ns j)
    → after ≡ before ++ sum ∷ [] → AreSumsOf after ns room
all_sums ns room sum i before after all long so fit each e = record {
  each = λ j le. ap (λ xs. get_or xs j 0) e ∙ pushed (sum_before ns) before sum i long so each j (omega (arith, le, all));
  fit = let last : sum_before ns i ≡ sum_before ns (length ns) = ap (sum_before ns) all in omega (arith, last, so, fit);
}

-- ---- a function

below_past : (t : Tac) (js : List Instruction) (n : ℕ) → structures_below t js n ≤ structures_below t js (most_temporaries js)
below_past t js zero = omega arith
below_past t js (suc n) = by (nat_lt n (most_temporaries js)) refl (below_past t js n)
  where
    most : (d k m : ℕ) → m ≡ k + d → structures_below t js k ≤ structures_below t js m
    most zero k m e =
        let same : k ≡ m = omega (arith, e) in
        subst (λ z. structures_below t js k ≤ structures_below t js z) same (omega arith)
    most (suc d) k zero e = absurd (omega (arith, e))
    most (suc d) k (suc m) e = let rest = most d k m (omega (arith, e)) in omega (arith, rest)

    by : (b : Bool) → nat_lt n (most_temporaries js) ≡ b
        → structures_below t js n ≤ structures_below t js (most_temporaries js)
        → structures_below t js (suc n) ≤ structures_below t js (most_temporaries js)
    by true e rest =
        let lt = ltb-true n (most_temporaries js) e in
        most (most_temporaries js - suc n) (suc n) (most_temporaries js) (omega (arith, lt))
    by false e rest =
        let ge = ltb-false n (most_temporaries js) e in
        let none = greatest_past t js n (omega (arith, ge)) in
        omega (arith, none, rest)

-- the sums of the greatest structures are where areas begin
sums_are : (t : Tac) (js : List Instruction) (ns : List ℕ) (count : ℕ) → AreGreatest ns count t js → (i : ℕ) → i ≤ count
    → sum_before ns i ≡ structures_below t js i
sums_are t js ns count h zero le = sym (sum_start ns)
sums_are t js ns count h (suc i) le =
    let long = h.size in
    let more = sum_more ns i (omega (arith, long, le)) in
    let next : i + 1 ≡ suc i = omega arith in
    let rest = sums_are t js ns count h i (omega (arith, le)) in
    let own = h.each i (omega (arith, le)) in
    ap (sum_before ns) (sym next) ∙ more ∙ omega (arith, rest, own)

has_table : (t : Tac) (c : CodeFunction) (ns table : List ℕ) (count : ℕ) → c.room % 8 ≡ 0
    → count ≡ most_temporaries c.code → AreGreatest ns count t c.code → AreSumsOf table ns c.room → HasTable table t c
has_table t c ns table count whole most h s =
    let all = sums_are t c.code ns count h count (omega arith) in
    let long = h.size in
    let last : structures_below t c.code count ≡ structures_below t c.code (most_temporaries c.code) =
    ap (structures_below t c.code) most in
    let length_is : sum_before ns (length ns) ≡ sum_before ns count = ap (sum_before ns) long in
    let room = s.fit in
    record {
      areas = record {
        fit = λ n. let less = below_past t c.code n in omega (arith, less, last, all, length_is, room);
        whole = whole;
      };
      sums = record {
        each = λ i le. s.each i (omega (arith, le, most, long)) ∙ sums_are t c.code ns count h i (omega (arith, le, most));
      };
    }

has_no_room : (t : Tac) (c : CodeFunction) (ns : List ℕ) (count : ℕ) → AreGreatest ns count t c.code
    → c.room < 5 * sum_before ns (length ns) → HasAreas t c → ⊥
has_no_room t c ns count h less areas =
    let all = sums_are t c.code ns count h count (omega arith) in
    let long = h.size in
    let length_is : sum_before ns (length ns) ≡ sum_before ns count = ap (sum_before ns) long in
    let fit = areas.fit count in
    absurd (omega (arith, less, all, length_is, fit))

pub found_areas : {V E : Type 0} (r : Result (Option V) E) (items : V → List ℕ) (t : Tac) (c : CodeFunction)
    (ns : List ℕ) (count : ℕ) → c.room % 8 ≡ 0 → count ≡ most_temporaries c.code → AreGreatest ns count t c.code
    → IfOk r (λ found. MatchOption found (c.room < 5 * sum_before ns (length ns)) (λ v. AreSumsOf (items v) ns c.room))
    → IfOk r (λ found. MatchOption found (HasAreas t c → ⊥) (λ v. HasTable (items v) t c))
found_areas (Ok None) items t c ns count whole most h s = has_no_room t c ns count h s
found_areas (Ok (Some v)) items t c ns count whole most h s = has_table t c ns (items v) count whole most h s
found_areas (Err e) items t c ns count whole most h s = s

pub is_not_whole : (t : Tac) (c : CodeFunction) → c.room % 8 ≢ 0 → HasAreas t c → ⊥
is_not_whole t c other areas = other areas.whole

-- ---- what a table tells

pub table_tells : (table : List ℕ) (t : Tac) (c : CodeFunction) (i n : ℕ) → HasTable table t c
    → i ≤ most_temporaries c.code → n ≡ get_or table i 0 → n ≡ structures_below t c.code i
table_tells table t c i n h le is = is ∙ h.sums.each i le

pub table_fits : (table : List ℕ) (t : Tac) (c : CodeFunction) (i n : ℕ) → HasTable table t c
    → i ≤ most_temporaries c.code → n ≡ get_or table i 0 → 5 * n ≤ c.room
table_fits table t c i n h le is =
    let same = table_tells table t c i n h le is in
    let fit = h.areas.fit i in
    omega (arith, same, fit)

pub more_below : (t : Tac) (c : CodeFunction) (i a b : ℕ) → a ≡ structures_below t c.code i
    → b ≡ structures_below t c.code (i + 1) → nat_lt a b ≡ has_area t c i
more_below t c i a b first second =
    let next : i + 1 ≡ suc i = omega arith in
    let more : b ≡ structures_below t c.code i + greatest_structure t c.code i =
    second ∙ ap (structures_below t c.code) next in
    by (nat_le 1 (greatest_structure t c.code i)) refl (omega (arith, more, first))
  where
    by : (q : Bool) → nat_le 1 (greatest_structure t c.code i) ≡ q → b ≡ a + greatest_structure t c.code i
        → nat_lt a b ≡ q
    by true e more = lt-ltb a b (let some = leb-true 1 (greatest_structure t c.code i) e in omega (arith, some, more))
    by false e more =
        le-ltb a b (let none = leb-false 1 (greatest_structure t c.code i) e in omega (arith, none, more))
