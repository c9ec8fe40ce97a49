-- Decimal digits are read back.
use Rattle.std.proofs.Common.{◌≡◌, ℕ, ◌+◌, ◌*◌, ◌-◌, ◌<◌, ◌≤◌, ◌^◌, ◌/◌, ◌%◌, min, Bool, true}
use Rattle.std.proofs.Common.{false, not, ◌&&◌, ◌==◌}
use Rattle.std.proofs.Common.{rules, List, [], ◌∷◌, ◌++◌, refl, ap, ◌∙◌, arith, Some, None}
use Rattle.std.proofs.lemmas.Fmt.{decimal_by_steps}
use Rattle.std.specs.Prelude.{decimal, if◌then◌else◌}
use Rattle.rv_listing.specs.Fields.{is_digit, are_digits, value_from, is_numeral, number_in}

pub record IsNumeral (n : ℕ) (cs : List ℕ) : Type 0 where
  pub numeral : is_numeral cs ≡ true
  pub value : value_from 0 cs ≡ n

pub and_true : (a b : Bool) → a ≡ true → b ≡ true → a && b ≡ true
and_true true true e f = refl
and_true true false e f = f
and_true false b e f = e

pub and_left : (a b : Bool) → a && b ≡ true → a ≡ true
and_left true b e = refl
and_left false b e = e

pub and_right : (a b : Bool) → a && b ≡ true → b ≡ true
and_right true b e = e
and_right false b e = absurd cc

digit_is : (d : ℕ) → d < 10 → is_digit (48 + d) ≡ true
digit_is d lt = search (rules)

least : (a m : ℕ) → a ≤ m → min a m ≡ a
least a m le = search (rules, le)

value_more : (v d : ℕ) (cs : List ℕ)
    → value_from v (cs ++ ((48 + d) ∷ [])) ≡ min (value_from v cs * 10 + d) (2 ^ 64 - 1)
unfolding value_from
value_more v d [] = ap (λ x. min (v * 10 + x) (2 ^ 64 - 1)) (omega arith)
value_more v d (c ∷ cs) = value_more (min (v * 10 + (c - 48)) (2 ^ 64 - 1)) d cs

digits_more : (d : ℕ) (cs : List ℕ) → d < 10 → are_digits cs ≡ true → are_digits (cs ++ ((48 + d) ∷ [])) ≡ true
unfolding are_digits
digits_more d [] lt e = and_true _ _ (digit_is d lt) refl
digits_more d (c ∷ cs) lt e = and_true _ _ (and_left _ _ e) (digits_more d cs lt (and_right (is_digit c) _ e))

not_zero_digit : (c : ℕ) → 1 ≤ value_from 0 (c ∷ []) → not (c == 48) ≡ true
unfolding value_from
not_zero_digit c h = search (rules, h)

pub all_digits : (cs : List ℕ) → is_numeral cs ≡ true → are_digits cs ≡ true
unfolding is_numeral are_digits
all_digits [] e = refl
all_digits (c ∷ []) e = and_true (is_digit c) true e refl
all_digits (c ∷ d ∷ cs) e = and_right (not (c == 48)) (are_digits (c ∷ d ∷ cs)) e

numeral_more : (d : ℕ) (cs : List ℕ) → d < 10 → is_numeral cs ≡ true → 1 ≤ value_from 0 cs
    → is_numeral (cs ++ ((48 + d) ∷ [])) ≡ true
unfolding is_numeral
numeral_more d [] lt e h = absurd cc
numeral_more d (c ∷ []) lt e h =
    and_true _ _ (not_zero_digit c h) (digits_more d (c ∷ []) lt (all_digits (c ∷ []) e))
numeral_more d (c ∷ b ∷ cs) lt e h =
    and_true _ _ (and_left (not (c == 48)) (are_digits (c ∷ b ∷ cs)) e)
    (digits_more d (c ∷ b ∷ cs) lt (all_digits (c ∷ b ∷ cs) e))

abbrev Reads : ℕ → List ℕ → Type 0
Reads n cs = n < 2 ^ 64 → IsNumeral n cs

one_digit : (n : ℕ) → n < 10 → Reads n ((48 + n) ∷ [])
unfolding is_numeral value_from
one_digit n lt small = record {
  numeral = digit_is n lt;
  value = ap (λ x. min x (2 ^ 64 - 1)) (omega arith) ∙ least n (2 ^ 64 - 1) (omega (arith, small));
}

more_digits : (n : ℕ) (ds : List ℕ) → 10 ≤ n → Reads (n / 10) ds → Reads n (ds ++ ((48 + n % 10) ∷ []))
more_digits n ds le reads small =
    let r : IsNumeral (n / 10) ds = reads (omega (arith, small)) in
    let lt : n % 10 < 10 = omega arith in
    let some : 1 ≤ value_from 0 ds = omega (arith, r.value, le) in
    record {
      numeral = numeral_more (n % 10) ds lt r.numeral some;
      value = value_more 0 (n % 10) ds
          ∙ ap (λ v. min v (2 ^ 64 - 1)) (ap (λ v. v * 10 + n % 10) r.value ∙ omega arith)
          ∙ least n (2 ^ 64 - 1) (omega (arith, small));
    }

pub decimal_reads : (n : ℕ) → n < 2 ^ 64 → IsNumeral n (decimal n)
decimal_reads n lt = decimal_by_steps Reads one_digit more_digits n lt lt

pub number_read : (n : ℕ) → n < 2 ^ 64 → number_in (decimal n) ≡ Some n
unfolding number_in
number_read n lt =
    let r = decimal_reads n lt in
    ap (λ b. if b then Some (value_from 0 (decimal n)) else None) r.numeral ∙ ap Some r.value
