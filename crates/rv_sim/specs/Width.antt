-- The sizes of loads and stores.
use Rattle.std.specs.Prelude.{ℕ}
use Rattle.rv_sim.specs.declared.width.Width.{Width}
use Rattle.rv_sim.specs.declared.width.Width.TheVariants.{Byte, Half, Word, Double}

-- in bytes
abbrev pub byte_count : Width → ℕ
byte_count Byte = 1
byte_count Half = 2
byte_count Word = 4
byte_count Double = 8
