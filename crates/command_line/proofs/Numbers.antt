-- A number in a word, by what `parse` reads of it.
use Rattle.std.proofs.Common.{◌≡◌, ◌<◌, ◌^◌, ◌==◌, ◌&&◌, ℕ, Bool, true, false, List, [], ◌∷◌, length, slice_index, refl}
use Rattle.std.proofs.Common.{arith, nat_lt, ltb-true, Option, None}
use Rattle.std.specs.Prelude.{Result, Ok, Err}
use Rattle.std.specs.Result.{result_ok}
use Rattle.std.specs.Str.{all_ascii_digits}
use Rattle.std.specs.Str.Parse.{ParsesUnsigned, digits_value}
use Rattle.std.proofs.lemmas.Str.Parse.{IsNumeralModel, numerals_by_value, tells_all_ascii_digits, parse_plain}
use Rattle.std.proofs.lemmas.Bool.Decides.{nat_tests}
use Rattle.clap.proofs.WalkLemmas.{both}
use Rattle.command_line.specs.Numbers.{has_leading_zero, is_decimal, number_in}

ascii : IsNumeralModel (λ ds. all_ascii_digits ds ≡ true) (digits_value 10)
ascii = numerals_by_value _ tells_all_ascii_digits

signed : (text : List ℕ) → (slice_index text 0 == 43) ≡ true → all_ascii_digits text ≡ false
signed [] first = grind (arith, nat_tests)
signed (c ∷ cs) first = grind (arith, nat_tests)

-- a text that begins with a sign or a needless zero is no number
pub plus_is_none : (text : List ℕ) → (slice_index text 0 == 43) ≡ true → None ≡ number_in text
unfolding number_in
plus_is_none text first = rw (signed text first) (grind (arith, nat_tests))

pub zero_is_none : (text : List ℕ) → has_leading_zero text ≡ true → None ≡ number_in text
unfolding number_in
zero_is_none text zero = grind (arith, nat_tests)

-- any other text is read by `parse`
pub parse_is_number : {E : Type 0} (text : List ℕ) (r : Result ℕ E) → ParsesUnsigned 64 10 text r
    → (slice_index text 0 == 43) ≡ false → has_leading_zero text ≡ false → result_ok r ≡ number_in text
unfolding number_in
parse_is_number {E} text (Ok n) read sign zero =
    let plain = parse_plain ascii {E = E} 64 text (Ok n) read (grind (arith, nat_tests)) in
    rw (plain.0.0, zero) (grind (arith, nat_tests, plain.0.1, plain.0.2, plain.1))
parse_is_number {E} text (Err e) read sign zero =
    let plain = parse_plain ascii {E = E} 64 text (Err e) read (grind (arith, nat_tests)) in
    go (is_decimal text && nat_lt (digits_value 10 text) (2 ^ 64)) refl plain
  where
    go : (is_number : Bool) → (is_decimal text && nat_lt (digits_value 10 text) (2 ^ 64)) ≡ is_number
        → (((all_ascii_digits text ≡ true) × (0 < length text) × (digits_value 10 text < 2 ^ 64)) → ⊥)
        → ◌≡◌ {A = Option ℕ} None (number_in text)
    go false fails refused = rw fails refl
    go true holds refused =
        let parts = both _ _ holds in
        let decimal = both _ _ parts.0 in
        absurd (refused ((both _ _ decimal.1).0, ltb-true _ _ decimal.0, ltb-true _ _ parts.1))
