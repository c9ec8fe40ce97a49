-- The registers by their names in the ABI (RISC-V ELF psABI, "Integer Register Convention").
use Rattle.std.specs.Prelude.{ℕ}

-- zero, whatever is written to it
abbrev pub zero_register : ℕ
zero_register = 0

-- the return address
abbrev pub ra : ℕ
ra = 1

-- the stack pointer
abbrev pub sp : ℕ
sp = 2

-- arguments and results
abbrev pub a0 : ℕ
a0 = 10

abbrev pub a1 : ℕ
a1 = 11

abbrev pub a2 : ℕ
a2 = 12

-- an argument, and the number of an environment call
abbrev pub a7 : ℕ
a7 = 17
