-- A field that was written is read back.
use Rattle.std.proofs.Common.{rules, ◌≡◌, ℕ, ◌-◌, ◌*◌, ◌%◌, ◌<◌, ◌≤◌, ◌^◌, Bool, true, false, not}
use Rattle.std.proofs.Common.{◌==◌}
use Rattle.std.proofs.Common.{List, [], ◌∷◌, refl, ap, ◌∙◌, arith, Some, None, Ok, Err}
use Rattle.std.specs.Prelude.{decimal, if◌then◌else◌, option_map, option_and_then, nat_lt, nat_le}
use Rattle.rv_listing.specs.declared.fault.ListFault.TheVariants as fault
use Rattle.rv_listing.specs.declared.operands.Field.{Field}
use Rattle.rv_listing.specs.declared.operands.Field.TheVariants.{Register, Unsigned, Signed, Offset}
use Rattle.rv_listing.specs.Fields.{number_in, signed_in, register_in, written_in, from_zero, below_zero}
use Rattle.rv_listing.specs.Fields.{is_numeral, signed_text, field_text, unless_range, signed_field, in_field, read_field, if_written}
use Rattle.rv_listing.specs.Operands.{IsField, Fits}
use Rattle.rv_listing.proofs.Digits.{decimal_reads, number_read, all_digits, and_true, and_left}
use Rattle.rv_listing.proofs.Cutting.{lacks, digits_lack, is_other}

equal_not : (b : Bool) → not b ≡ true → b ≡ false
equal_not true e = absurd cc
equal_not false e = refl

-- digits begin no number below zero
begins : (cs : List ℕ) → is_numeral cs ≡ true → signed_in cs ≡ option_map from_zero (number_in cs)
unfolding signed_in is_numeral
begins [] e = absurd cc
begins (c ∷ cs) e =
    ap (λ x. if x then option_and_then below_zero (number_in cs) else option_map from_zero (number_in (c ∷ cs)))
    (equal_not (c == 45) (and_left (not (c == 45)) (lacks 45 cs) (digits_lack 45 (c ∷ cs) (omega arith) (all_digits (c ∷ cs) e))))

pub unsigned_read : (n : ℕ) → n < 2 ^ 64 → signed_in (decimal n) ≡ Some (false, n)
unsigned_read n lt = begins (decimal n) (decimal_reads n lt).numeral ∙ ap (option_map from_zero) (number_read n lt)

zero_is : (n : ℕ) → 1 ≤ n → (n == 0) ≡ false
zero_is n le = equal_not (n == 0) (is_other n 0 le)

below_read : (n : ℕ) → n < 2 ^ 64 → 1 ≤ n → signed_in (45 ∷ decimal n) ≡ Some (true, n)
unfolding signed_in
below_read n lt some =
    ap (option_and_then below_zero) (number_read n lt) ∙ ap (λ b. if b then None else Some (true, n)) (zero_is n some)

is_below : (m n : ℕ) → m < n → nat_lt m n ≡ true
is_below m n lt = search (rules, lt)

is_within : (m n : ℕ) → m ≤ n → nat_le m n ≡ true
is_within m n le = search (rules, le)

in_range : (b : Bool) (n : ℕ) → b ≡ true → unless_range b n ≡ Ok n
in_range b n e = ap (λ x. unless_range x n) e

-- a number of two's complement: as it is written, and what is read of that

record IsRead (half n : ℕ) (cs : List ℕ) : Type 0 where
  sign : Bool
  size : ℕ
  written : signed_in cs ≡ Some (sign, size)
  fits : signed_field half (sign, size) ≡ Ok n
  even : n % 2 ≡ 0 → size % 2 ≡ 0

by_sign : (half n : ℕ) (b : Bool) → nat_lt n half ≡ b → half ≤ 2 ^ 20 → n < 2 * half
    → IsRead half n (if b then decimal n else 45 ∷ decimal (2 * half - n))
unfolding signed_field
by_sign half n true e small lt = record {
  sign = false;
  size = n;
  written = unsigned_read n (omega (arith, small, lt));
  fits = in_range (nat_lt n half) n e;
  even = λ p. p;
}
by_sign half n false e small lt =
    let above : half ≤ n = search (rules, e) in
    record {
      sign = true;
      size = 2 * half - n;
      written = below_read (2 * half - n) (omega (arith, small, lt)) (omega (arith, lt));
      fits = in_range (nat_le (2 * half - n) half) (2 * half - (2 * half - n)) (is_within (2 * half - n) half (omega (arith, above)))
          ∙ ap Ok (omega (arith, lt));
      even = λ p. omega (arith, p, lt);
    }

signed_read : (half n : ℕ) → half ≤ 2 ^ 20 → n < 2 * half → IsRead half n (signed_text half n)
unfolding signed_text
signed_read half n small lt = by_sign half n (nat_lt n half) refl small lt

even_is : (n : ℕ) → n % 2 ≡ 0 → (n % 2 == 0) ≡ true
even_is n e = ap (λ x. x == 0) e

pub field_read : (f : Field) (n : ℕ) → IsField f → Fits f n → read_field f (field_text f n) ≡ Ok n
unfolding read_field field_text written_in in_field register_in
field_read Register n i h =
    ap (λ x. if_written Register (option_map from_zero x)) (number_read n (omega (arith, h)))
    ∙ in_range (nat_lt n (2 ^ 5)) n (is_below n (2 ^ 5) h)
field_read (Unsigned count) n i h =
    ap (if_written (Unsigned count)) (unsigned_read n (omega (arith, h, i))) ∙ in_range (nat_lt n count) n (is_below n count h)
field_read (Signed half) n i h =
    let r = signed_read half n i.1 h in
    ap (if_written (Signed half)) r.written ∙ r.fits
field_read (Offset half) n i h =
    let r = signed_read half n i.1 h.0 in
    ap (if_written (Offset half)) r.written
    ∙ ap (λ b. if b then signed_field half (r.sign, r.size) else Err fault.Range) (even_is r.size (r.even h.1)) ∙ r.fits

number_lacks : (b n : ℕ) → b < 45 → n < 2 ^ 64 → lacks b (decimal n) ≡ true
number_lacks b n lt small =
    digits_lack b (decimal n) (omega (arith, lt)) (all_digits (decimal n) (decimal_reads n small).numeral)

sign_lacks : (b half n : ℕ) (x : Bool) → b < 45 → half ≤ 2 ^ 20 → n < 2 * half
    → lacks b (if x then decimal n else 45 ∷ decimal (2 * half - n)) ≡ true
sign_lacks b half n true lt small h = number_lacks b n lt (omega (arith, small, h))
sign_lacks b half n false lt small h =
    and_true (not (45 == b)) (lacks b (decimal (2 * half - n))) (is_other 45 b lt)
    (number_lacks b (2 * half - n) lt (omega (arith, small, h)))

-- and has no byte below `-`
pub field_lacks : (b : ℕ) (f : Field) (n : ℕ) → b < 45 → IsField f → Fits f n → lacks b (field_text f n) ≡ true
unfolding field_text signed_text
field_lacks b Register n lt i h =
    and_true (not (120 == b)) (lacks b (decimal n)) (is_other 120 b (omega (arith, lt)))
    (number_lacks b n lt (omega (arith, h)))
field_lacks b (Unsigned count) n lt i h = number_lacks b n lt (omega (arith, h, i))
field_lacks b (Signed half) n lt i h = sign_lacks b half n (nat_lt n half) lt i.1 h
field_lacks b (Offset half) n lt i h = sign_lacks b half n (nat_lt n half) lt i.1 h.0
