-- Sign extension as the manual has it.
use Rattle.std.specs.Prelude.{ℕ}
use Rattle.words.specs.TwosComplement.{sign_extended}

-- k bits extended to the 64 bits of a register
abbrev pub sext : ℕ → ℕ → ℕ
sext k n = sign_extended k 64 n
