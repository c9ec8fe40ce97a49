-- What a quotient and a remainder of integers are (C99 6.5.5 paragraph 6; RISC-V unprivileged ISA manual, "M
-- Extension"): the dividend is their sum times the divisor, the remainder is smaller than the divisor, and has the
-- dividend's sign.
use Rattle.std.specs.Prelude.{◌≡◌, ℕ, ◌-◌, ◌^◌, ◌<◌, ◌⊎◌, ◌+ℤ◌, ◌*ℤ◌}
use Rattle.words.specs.TwosComplement.{is_negative, signed, magnitude}

pub record IsDivision (k dividend divisor quotient remainder : ℕ) : Type 0 where
  pub equation : signed k dividend ≡ signed k quotient *ℤ signed k divisor +ℤ signed k remainder
  pub size : magnitude k remainder < magnitude k divisor
  pub sign : (remainder ≡ 0) ⊎ (is_negative k remainder ≡ is_negative k dividend)

-- the least integer by -1, the one quotient that k bits do not hold
pub record IsOverflow (k dividend divisor : ℕ) : Type 0 where
  pub least : dividend ≡ 2 ^ (k - 1)
  pub minus_one : divisor ≡ 2 ^ k - 1

-- two words of k bits of which one may be divided by the other
pub record AreDividable (k dividend divisor : ℕ) : Type 0 where
  pub some : 0 < k
  pub left : dividend < 2 ^ k
  pub right : divisor < 2 ^ k
  pub nonzero : 0 < divisor
