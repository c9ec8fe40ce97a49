-- Integer constants have values of their types.
use Rattle.std.proofs.Common.{◌≡◌, ℕ, ◌+◌, ◌-◌, ◌%◌, ◌^◌, ◌<◌, ◌≤◌, Bool, true, false, ◌==◌, nat_le, if◌then◌else◌}
use Rattle.std.proofs.Common.{refl, ap, ◌∙◌, List, [], ◌∷◌, take, drop, Option, Some, None, arith}
use Rattle.std.specs.Prelude.{cond}
use Rattle.std.specs.List.{find, prefix_len}
use Rattle.std.proofs.lemmas.Bool.{leb-true}
use Rattle.obj_memory.specs.declared.int_type.IntType.TheVariants as int
use Rattle.obj_memory.specs.Integers.{fit}
use Rattle.c_lexer.specs.declared.integer.IntegerConstant.{IntegerConstant}
use Rattle.c_lexer.specs.declared.integer.IntegerType.{IntegerType}
use Rattle.c_lexer.specs.declared.integer.IntegerType.TheVariants as spelled_type
use Rattle.c_lexer.specs.declared.integer.Radix.{Radix}
use Rattle.c_lexer.specs.declared.integer.Radix.TheVariants as radix
use Rattle.c_lexer.specs.declared.integer.Suffix.{Suffix}
use Rattle.c_lexer.specs.Characters.{begins}
use Rattle.c_lexer.specs.Constants.{base_of, constant_in, constant_of, greatest_of, is_digit_of, is_hexadecimal}
use Rattle.c_lexer.specs.Constants.{number_from, of_type, suffix_of, typed, types_of, with_suffix}
use Rattle.c_operand_typing.specs.Primaries.{type_of_constant}

pub small_int : (w : ℕ) → w ≤ 2 ^ 31 - 1 → fit int.Int w ≡ w
unfolding fit
small_int w small =
    let low : w % 2 ^ 32 ≡ w = omega arith in
    let plain : nat_le (2 ^ 31) w ≡ false = le-leb-false w (2 ^ 31) (omega arith) in
    ap (λ x. if nat_le (2 ^ 31) x then x + (2 ^ 64 - 2 ^ 32) else x) low
    ∙ ap (λ b. if b then w + (2 ^ 64 - 2 ^ 32) else w) plain
  where
    le-leb-false : (w n : ℕ) → w < n → nat_le n w ≡ false
    le-leb-false w n low = by (nat_le n w) refl
      where
        by : (b : Bool) → nat_le n w ≡ b → nat_le n w ≡ false
        by true e = let high = leb-true n w e in absurd (omega arith)
        by false e = e

pub within_type : (t : IntegerType) (v : ℕ) → v ≤ greatest_of t → fit (type_of_constant t) v ≡ v
unfolding fit greatest_of
within_type spelled_type.Int v small = small_int v small
within_type spelled_type.UnsignedInt v small = omega arith
within_type spelled_type.Long v small = omega arith
within_type spelled_type.UnsignedLong v small = omega arith
within_type spelled_type.LongLong v small = omega arith
within_type spelled_type.UnsignedLongLong v small = omega arith

-- integer constants

abbrev pub IsHeld : Option IntegerConstant → Type 0
IsHeld None = Unit {0}
IsHeld (Some c) = c.value ≤ greatest_of c.integer_type

held_by : (v : ℕ) (t : IntegerType) (o : Option IntegerType) (b : Bool) → nat_le v (greatest_of t) ≡ b
    → IsHeld (of_type v o) → IsHeld (of_type v (cond b (Some t) o))
held_by v t o true e rest = leb-true v (greatest_of t) e
held_by v t o false e rest = rest

found_held : (v : ℕ) (ts : List IntegerType) → IsHeld (of_type v (find (λ t. nat_le v (greatest_of t)) ts))
found_held v [] = tt
found_held v (t ∷ ts) =
    held_by v t (find (λ t. nat_le v (greatest_of t)) ts) (nat_le v (greatest_of t)) refl (found_held v ts)

typed_held : (ts : List IntegerType) (v : ℕ) → IsHeld (typed ts v)
unfolding typed
typed_held ts v = found_held v ts

suffix_held : (r : Radix) (o : Option Suffix) (v : ℕ) → IsHeld (with_suffix r o v)
suffix_held r None v = tt
suffix_held r (Some s) v = typed_held (types_of r s) v

choice_held : (b : Bool) (x y : Option IntegerConstant) → IsHeld x → IsHeld y → IsHeld (if b then x else y)
choice_held true x y h g = h
choice_held false x y h g = g

constant_in_held : (r : Radix) (z : List ℕ) → IsHeld (constant_in r z)
unfolding constant_in
constant_in_held r z =
    let n = prefix_len (is_digit_of r) z in
    choice_held (n == 0) None (with_suffix r (suffix_of (drop n z)) (number_from (base_of r) 0 (take n z))) tt
    (suffix_held r (suffix_of (drop n z)) (number_from (base_of r) 0 (take n z)))

pub constant_held : (z : List ℕ) → IsHeld (constant_of z)
unfolding constant_of
constant_held z =
    choice_held (is_hexadecimal z) (constant_in radix.Hexadecimal (drop 2 z))
    (if begins 48 z then constant_in radix.Octal z else constant_in radix.Decimal z)
    (constant_in_held radix.Hexadecimal (drop 2 z))
    (choice_held (begins 48 z) (constant_in radix.Octal z) (constant_in radix.Decimal z)
    (constant_in_held radix.Octal z) (constant_in_held radix.Decimal z))
