-- The number that hexadecimal digits spell.
use Rattle.std.specs.Prelude.{ℕ, ◌+◌, ◌-◌, ◌*◌, nat_lt, if◌then◌else◌, List, [], ◌∷◌}

-- the value of a digit, `0` to `9` and `a` to `f`
abbrev pub digit_value : ℕ → ℕ
digit_value c = if nat_lt c 58 then c - 48 else c - 87

-- digits behind those of a number
abbrev pub spelled_behind : ℕ → List ℕ → ℕ
spelled_behind n [] = n
spelled_behind n (c ∷ cs) = spelled_behind (16 * n + digit_value c) cs

-- digits, the highest first
abbrev pub spelled_number : List ℕ → ℕ
spelled_number digits = spelled_behind 0 digits
