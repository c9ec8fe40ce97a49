-- The hexadecimal digits of a number spell it.
use Rattle.std.proofs.Common.{◌≡◌, ◌<◌, ℕ, zero, suc, ◌+◌, ◌*◌, ◌/◌, ◌%◌, ◌^◌, Bool, true, false, List, [], ◌∷◌, take}
use Rattle.std.proofs.Common.{drop, refl, sym, ap, ◌∙◌, arith, cond}
use Rattle.std.specs.Prelude.{◌==◌}
use Rattle.std.specs.List.{prefix_len}
use Rattle.std.proofs.lemmas.Bool.{eqb-true}
use Rattle.std.proofs.lemmas.Bool.Decides.{nat_tests}
use native.Mathlib.Nat.{div-div-eq-div-mul, div-one}
use Rattle.sbcets_core.specs.Outcomes.{hexadecimal_digit, digit_at, sixteen_digits, hexadecimal}
use Rattle.sbcets_core.specs.Hexadecimal.{digit_value, spelled_behind, spelled_number}

value_of_digit : (d : ℕ) → d < 16 → digit_value (hexadecimal_digit d) ≡ d
value_of_digit d h = grind (arith, nat_tests)

-- a digit behind the number that those before it spell
behind : (n w big : ℕ) → big ≡ w * 16 → 16 * (n / big) + digit_value (digit_at n w) ≡ n / w
behind n w big e =
    let shorter : n / big ≡ n / w / 16 = ap (λ b. n / b) e ∙ sym (div-div-eq-div-mul n w 16) in
    let digit : digit_value (digit_at n w) ≡ n / w % 16 = value_of_digit (n / w % 16) (omega arith) in
    let q : ℕ = n / w in
    let whole : 16 * (q / 16) + q % 16 ≡ q = omega arith in
    rw (shorter, digit) whole

-- the digit in front
in_front : (n : ℕ) → n < 2 ^ 64 → 0 + digit_value (digit_at n 0x1000000000000000) ≡ n / 0x1000000000000000
in_front n h =
    let none : n / 2 ^ 64 ≡ 0 = omega arith in
    ap (λ v. 16 * v + digit_value (digit_at n 0x1000000000000000)) (sym none)
    ∙ behind n 0x1000000000000000 (2 ^ 64) refl

spelled_sixteen : (n : ℕ) → n < 2 ^ 64 → spelled_behind 0 (sixteen_digits n) ≡ n
unfolding sixteen_digits
spelled_sixteen n h =
    let e15 = in_front n h in
    let e14 = behind n 0x100000000000000 0x1000000000000000 refl in
    let e13 = behind n 0x10000000000000 0x100000000000000 refl in
    let e12 = behind n 0x1000000000000 0x10000000000000 refl in
    let e11 = behind n 0x100000000000 0x1000000000000 refl in
    let e10 = behind n 0x10000000000 0x100000000000 refl in
    let e9 = behind n 0x1000000000 0x10000000000 refl in
    let e8 = behind n 0x100000000 0x1000000000 refl in
    let e7 = behind n 0x10000000 0x100000000 refl in
    let e6 = behind n 0x1000000 0x10000000 refl in
    let e5 = behind n 0x100000 0x1000000 refl in
    let e4 = behind n 0x10000 0x100000 refl in
    let e3 = behind n 0x1000 0x10000 refl in
    let e2 = behind n 0x100 0x1000 refl in
    let e1 = behind n 0x10 0x100 refl in
    let e0 = behind n 1 0x10 refl in
    rw (e15, e14, e13, e12, e11, e10, e9, e8, e7, e6, e5, e4, e3, e2, e1, e0) (div-one n)

-- zeros in front change nothing
without_zeros : (m : ℕ) (digits : List ℕ)
    → spelled_behind 0 (drop (prefix_len (λ d. d == 48) (take m digits)) digits) ≡ spelled_behind 0 digits
without_zeros zero digits = refl
without_zeros (suc m) [] = refl
without_zeros (suc m) (d ∷ ds) = by_zero (d == 48) refl (without_zeros m ds)
  where
    by_zero : (b : Bool) → (d == 48) ≡ b
        → spelled_behind 0 (drop (prefix_len (λ d. d == 48) (take m ds)) ds) ≡ spelled_behind 0 ds
        → spelled_behind 0 (drop (cond b (1 + prefix_len (λ d. d == 48) (take m ds)) 0) (d ∷ ds))
        ≡ spelled_behind 0 (d ∷ ds)
    by_zero true e others =
        let is : d ≡ 48 = eqb-true d 48 e in
        let k = prefix_len (λ d. d == 48) (take m ds) in
        let one : 1 + k ≡ suc k = omega arith in
        ap (λ j. spelled_behind 0 (drop j (d ∷ ds))) one ∙ others ∙ ap (λ c. spelled_behind 0 (c ∷ ds)) (sym is)
    by_zero false e others = refl

pub spelled : (n : ℕ) → n < 2 ^ 64 → spelled_number (hexadecimal n) ≡ n
unfolding hexadecimal
spelled n h = without_zeros 15 (sixteen_digits n) ∙ spelled_sixteen n h
