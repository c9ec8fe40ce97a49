-- Integer constants: digits, suffix, type and value (C99 6.4.4.1).
use Rattle.std.specs.Prelude.{ℕ, ◌+◌, ◌-◌, ◌*◌, ◌^◌, Bool, ◌&&◌, ◌||◌, if◌then◌else◌, ◌==◌, nat_le, List, [], ◌∷◌, take}
use Rattle.std.specs.Prelude.{drop, Option, Some, None}
use Rattle.std.specs.List.{prefix_len, find}
use Rattle.c_lexer.specs.declared.integer.IntegerType.{IntegerType}
use Rattle.c_lexer.specs.declared.integer.IntegerType.TheVariants as type
use Rattle.c_lexer.specs.declared.integer.IntegerConstant.{IntegerConstant}
use Rattle.c_lexer.specs.declared.integer.Radix.{Radix}
use Rattle.c_lexer.specs.declared.integer.Radix.TheVariants as radix
use Rattle.c_lexer.specs.declared.integer.Suffix.{Suffix}
use Rattle.c_lexer.specs.declared.integer.Suffix.TheVariants as suffix
use Rattle.c_lexer.specs.Characters.{is_digit, is_octal_digit, is_hexadecimal_digit, digit_value, begins}

abbrev pub base_of : Radix → ℕ
base_of radix.Octal = 8
base_of radix.Decimal = 10
base_of radix.Hexadecimal = 16

abbrev pub is_digit_of : Radix → ℕ → Bool
is_digit_of radix.Octal b = is_octal_digit b
is_digit_of radix.Decimal b = is_digit b
is_digit_of radix.Hexadecimal b = is_hexadecimal_digit b

-- the number that digits spell behind those that spell v
abbrev pub number_from : ℕ → ℕ → List ℕ → ℕ
number_from base v [] = v
number_from base v (b ∷ z) = number_from base (base * v + digit_value b) z

abbrev pub is_u : ℕ → Bool
is_u b = b == 117 || b == 85

abbrev pub is_l : ℕ → Bool
is_l b = b == 108 || b == 76

-- two `l` of one case
abbrev pub is_ll : ℕ → ℕ → Bool
is_ll a b = is_l a && a == b

-- the integer suffix that these bytes are, none if there are none
unfoldable pub suffix_of : List ℕ → Option Suffix
suffix_of [] = Some suffix.Absent
suffix_of (a ∷ []) = if is_u a then Some suffix.U else (if is_l a then Some suffix.L else None)
suffix_of (a ∷ b ∷ []) =
    if (is_u a && is_l b) || (is_l a && is_u b) then Some suffix.Ul else (if is_ll a b then Some suffix.Ll else None)
suffix_of (a ∷ b ∷ c ∷ []) = if (is_u a && is_ll b c) || (is_ll a b && is_u c) then Some suffix.Ull else None
suffix_of (a ∷ b ∷ c ∷ d ∷ z) = None

-- the greatest value of a type, `long` having 64 bits
unfoldable pub greatest_of : IntegerType → ℕ
greatest_of type.Int = 2 ^ 31 - 1
greatest_of type.UnsignedInt = 2 ^ 32 - 1
greatest_of type.Long = 2 ^ 63 - 1
greatest_of type.UnsignedLong = 2 ^ 64 - 1
greatest_of type.LongLong = 2 ^ 63 - 1
greatest_of type.UnsignedLongLong = 2 ^ 64 - 1

-- the table of paragraph 5: the types that a constant may have, in order
abbrev pub decimal_types : Suffix → List IntegerType
decimal_types suffix.Absent = type.Int ∷ type.Long ∷ type.LongLong ∷ []
decimal_types suffix.U = type.UnsignedInt ∷ type.UnsignedLong ∷ type.UnsignedLongLong ∷ []
decimal_types suffix.L = type.Long ∷ type.LongLong ∷ []
decimal_types suffix.Ul = type.UnsignedLong ∷ type.UnsignedLongLong ∷ []
decimal_types suffix.Ll = type.LongLong ∷ []
decimal_types suffix.Ull = type.UnsignedLongLong ∷ []

abbrev pub other_types : Suffix → List IntegerType
other_types suffix.Absent = type.Int ∷ type.UnsignedInt ∷ type.Long ∷ type.UnsignedLong ∷ type.LongLong
    ∷ type.UnsignedLongLong ∷ []
other_types suffix.U = type.UnsignedInt ∷ type.UnsignedLong ∷ type.UnsignedLongLong ∷ []
other_types suffix.L = type.Long ∷ type.UnsignedLong ∷ type.LongLong ∷ type.UnsignedLongLong ∷ []
other_types suffix.Ul = type.UnsignedLong ∷ type.UnsignedLongLong ∷ []
other_types suffix.Ll = type.LongLong ∷ type.UnsignedLongLong ∷ []
other_types suffix.Ull = type.UnsignedLongLong ∷ []

unfoldable pub types_of : Radix → Suffix → List IntegerType
types_of radix.Decimal s = decimal_types s
types_of radix.Octal s = other_types s
types_of radix.Hexadecimal s = other_types s

abbrev pub of_type : ℕ → Option IntegerType → Option IntegerConstant
of_type v None = None
of_type v (Some t) = Some (record { integer_type = t; value = v })

-- the first of its types that holds the value
unfoldable pub typed : List IntegerType → ℕ → Option IntegerConstant
typed types v = of_type v (find (λ t. nat_le v (greatest_of t)) types)

abbrev pub with_suffix : Radix → Option Suffix → ℕ → Option IntegerConstant
with_suffix r None v = None
with_suffix r (Some s) v = typed (types_of r s) v

-- some digits of this radix, and a suffix
unfoldable pub constant_in : Radix → List ℕ → Option IntegerConstant
constant_in r z =
    let n = prefix_len (is_digit_of r) z in
    if n == 0 then None else with_suffix r (suffix_of (drop n z)) (number_from (base_of r) 0 (take n z))

-- `0x` or `0X`
abbrev pub is_hexadecimal : List ℕ → Bool
is_hexadecimal z = begins 48 z && (begins 120 (drop 1 z) || begins 88 (drop 1 z))

-- the type and the value of an integer constant that is all of these bytes
unfoldable pub constant_of : List ℕ → Option IntegerConstant
constant_of z =
    if is_hexadecimal z then constant_in radix.Hexadecimal (drop 2 z)
    else (if begins 48 z then constant_in radix.Octal z else constant_in radix.Decimal z)
