-- Which registers are given out.
use Rattle.std.specs.Prelude.{ℕ}

-- How many they are: of the saved registers of the calling convention s0 to s10, none of which an environment call needs
-- (RISC-V ELF psABI, "Integer Register Convention").
abbrev pub registers_given_out : ℕ
registers_given_out = 11
