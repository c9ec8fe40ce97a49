-- Sets of bytes (C99 5.2.1, 6.4.2.1, 6.4.4.1).
use Rattle.std.specs.Prelude.{ℕ, ◌-◌, Bool, false, ◌&&◌, ◌||◌, if◌then◌else◌, ◌==◌, nat_le, List, [], ◌∷◌}

abbrev pub is_between : ℕ → ℕ → ℕ → Bool
is_between low high b = nat_le low b && nat_le b high

-- `0` to `9`
abbrev pub is_digit : ℕ → Bool
is_digit b = is_between 48 57 b

-- `0` to `7`
abbrev pub is_octal_digit : ℕ → Bool
is_octal_digit b = is_between 48 55 b

-- `0` to `9`, `a` to `f`, `A` to `F`
abbrev pub is_hexadecimal_digit : ℕ → Bool
is_hexadecimal_digit b = is_digit b || (is_between 97 102 b || is_between 65 70 b)

-- the value of a digit in base 8, 10 or 16
abbrev pub digit_value : ℕ → ℕ
digit_value b = if is_digit b then b - 48 else (if nat_le 97 b then b - 87 else b - 55)

-- `a` to `z`, `A` to `Z`, `_`
abbrev pub is_nondigit : ℕ → Bool
is_nondigit b = is_between 97 122 b || (is_between 65 90 b || b == 95)

-- what an identifier goes on with
abbrev pub continues_identifier : ℕ → Bool
continues_identifier b = is_nondigit b || is_digit b

-- the text begins with this byte
abbrev pub begins : ℕ → List ℕ → Bool
begins c [] = false
begins c (b ∷ z) = b == c
