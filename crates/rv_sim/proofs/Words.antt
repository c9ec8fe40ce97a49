-- Operations on 32 bits by those on the 64 bits of the operands extended.
use Rattle.std.proofs.Common.{◌≡◌, ℕ, ◌^◌, ◌<◌, arith}
use Rattle.rv_isa.specs.Word.{sext}
use Rattle.rv_isa.specs.Results.{low_word}
use Rattle.words.specs.TwosComplement.{IsExtendable}
use Rattle.words.specs.Operations.{shifted_right_signed, signed_quotient, signed_remainder}
use Rattle.words.proofs.Narrowing.{low_quotient, extended_remainder}
use Rattle.words.proofs.Shifts.{extended_shift}

extendable : (a : ℕ) → a < 2 ^ 32 → IsExtendable 32 64 a
extendable a h = record { some = omega arith; wide = omega arith; fits = h }

pub low_quotient32 : (a b : ℕ) → a < 2 ^ 32 → b < 2 ^ 32
    → low_word (signed_quotient 64 (sext 32 a) (sext 32 b)) ≡ signed_quotient 32 a b
low_quotient32 a b v w = low_quotient 32 64 a b (extendable a v) (extendable b w)

pub extended_remainder32 : (a b : ℕ) → a < 2 ^ 32 → b < 2 ^ 32
    → signed_remainder 64 (sext 32 a) (sext 32 b) ≡ sext 32 (signed_remainder 32 a b)
extended_remainder32 a b v w = extended_remainder 32 64 a b (extendable a v) (extendable b w)

pub extended_shift32 : (a by : ℕ) → a < 2 ^ 32
    → shifted_right_signed 64 (sext 32 a) by ≡ sext 32 (shifted_right_signed 32 a by)
extended_shift32 a by h = extended_shift 32 64 a by (extendable a h)
