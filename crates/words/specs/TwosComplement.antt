-- Words of k bits as numbers below 2 ^ k, and the integers that they stand for in two's complement.
use Rattle.std.specs.Prelude.{ℕ, ◌+◌, ◌-◌, ◌%◌, ◌^◌, Bool, nat_le, if◌then◌else◌, ℤ, pos, negsuc, ◌-ℤ◌, ◌≤ℤ◌, ◌<ℤ◌}
use Rattle.std.specs.Prelude.{neg_ℤ, ◌<◌, ◌≤◌}

-- the low k bits of a number
abbrev pub low_bits : (k n : ℕ) → ℕ
low_bits k n = n % 2 ^ k

-- whether the sign bit is set, the highest of k
abbrev pub is_negative : (k x : ℕ) → Bool
is_negative k x = nat_le (2 ^ (k - 1)) x

-- the integer that a word stands for: one with the sign bit stands for the number less 2 ^ k
abbrev pub signed : (k x : ℕ) → ℤ
signed k x = if is_negative k x then pos x -ℤ pos (2 ^ k) else pos x

-- the integers of k bits, from - 2 ^ (k - 1) on
pub record IsSigned (width : ℕ) (integer : ℤ) : Type 0 where
  pub low : neg_ℤ (pos (2 ^ (width - 1))) ≤ℤ integer
  pub high : integer <ℤ pos (2 ^ (width - 1))

-- the word that stands for an integer, or for one that differs from it by a multiple of 2 ^ k
abbrev pub twos_complement : (k : ℕ) → ℤ → ℕ
twos_complement k (pos n) = n % 2 ^ k
twos_complement k (negsuc n) = 2 ^ k - 1 - n % 2 ^ k

-- the word of the negative of an integer, and of its absolute value
abbrev pub negated : (k x : ℕ) → ℕ
negated k x = (2 ^ k - x) % 2 ^ k

abbrev pub magnitude : (k x : ℕ) → ℕ
magnitude k x = if is_negative k x then 2 ^ k - x else x

-- k bits extended to m bits by copies of the sign bit
abbrev pub sign_extended : (k m x : ℕ) → ℕ
sign_extended k m x = if is_negative k x then x + (2 ^ m - 2 ^ k) else x

-- a word of k bits, and a width that is no less
pub record IsExtendable (width m x : ℕ) : Type 0 where
  pub some : 0 < width
  pub wide : width ≤ m
  pub fits : x < 2 ^ width
