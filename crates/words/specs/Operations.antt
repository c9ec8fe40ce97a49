-- Operations on words of k bits. What they share with numbers goes modulo 2 ^ k, what they share with integers goes by
-- two's complement. The bitwise operations are the library's `bit_and`, `bit_or` and `bit_xor`.
use Rattle.std.specs.Prelude.{ℕ, ◌+◌, ◌-◌, ◌*◌, ◌/◌, ◌%◌, ◌^◌, Bool, nat_lt, if◌then◌else◌}
use Rattle.words.specs.TwosComplement.{is_negative, negated, magnitude}

abbrev pub sum : (k x y : ℕ) → ℕ
sum k x y = (x + y) % 2 ^ k

abbrev pub difference : (k x y : ℕ) → ℕ
difference k x y = (x + (2 ^ k - y)) % 2 ^ k

abbrev pub product : (k x y : ℕ) → ℕ
product k x y = (x * y) % 2 ^ k

-- every bit turned
abbrev pub complement : (k x : ℕ) → ℕ
complement k x = 2 ^ k - 1 - x

-- a shift to the left, zeros shifted in
abbrev pub shifted_left : (k x by : ℕ) → ℕ
shifted_left k x by = (x * 2 ^ by) % 2 ^ k

-- a shift to the right, copies of the sign bit shifted in; zeros are shifted in by a division by 2 ^ by
abbrev pub shifted_right_signed : (k x by : ℕ) → ℕ
shifted_right_signed k x by = if is_negative k x then complement k (complement k x / 2 ^ by) else x / 2 ^ by

-- whether one integer is below another: they are in the order of the words with the sign bit turned
abbrev pub is_less_signed : (k x y : ℕ) → Bool
is_less_signed k x y = nat_lt ((x + 2 ^ (k - 1)) % 2 ^ k) ((y + 2 ^ (k - 1)) % 2 ^ k)

-- the quotient rounded toward zero, negative where just one operand is. The least integer divided by -1 is itself
abbrev pub signed_quotient : (k x y : ℕ) → ℕ
signed_quotient k x y =
    let quotient = magnitude k x / magnitude k y in
    if is_negative k x
    then (if is_negative k y then quotient else negated k quotient)
    else (if is_negative k y then negated k quotient else quotient)

-- the remainder of that quotient, with the sign of the dividend
abbrev pub signed_remainder : (k x y : ℕ) → ℕ
signed_remainder k x y =
    let remainder = magnitude k x % magnitude k y in
    if is_negative k x then negated k remainder else remainder
