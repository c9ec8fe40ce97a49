-- Whether a program can be encoded, as it is tested.
use Rattle.std.specs.Prelude.{ℕ, ◌-◌, ◌^◌, Bool, true, ◌&&◌, ◌||◌, nat_le, nat_lt}
use Rattle.std.specs.List.{list_all}
use Rattle.sb_base.specs.declared.ending.Ending.{Ending}
use Rattle.sb_base.specs.Endings.{code_of}
use Rattle.flat_code.specs.declared.instruction.RightOperand.{RightOperand}
use Rattle.flat_code.specs.declared.instruction.RightOperand.TheVariants.{Register, Number}
use Rattle.flat_code.specs.declared.instruction.FlatInstruction.{FlatInstruction}
use Rattle.flat_code.specs.declared.instruction.FlatInstruction.TheVariants as flat
use Rattle.flat_code.specs.declared.function.FlatFunction.{FlatFunction}
use Rattle.machine_laws.specs.Blocks.Tails.{line_of}

-- a number of 32 bits with its sign
abbrev pub is_short : ℕ → Bool
is_short n = nat_lt n (2 ^ 31 - 2 ^ 11) || (nat_le (2 ^ 64 - 2 ^ 31) n && nat_lt n (2 ^ 64))

abbrev pub is_short_operand : RightOperand → Bool
is_short_operand (Register x) = true
is_short_operand (Number n) = is_short n

abbrev pub is_small_ending : Ending → Bool
is_small_ending e = nat_lt (line_of e) (2 ^ 32) && nat_lt (code_of e) 256

-- the numbers of an instruction fit
abbrev pub fits : FlatInstruction → Bool
fits (flat.Load op x y offset) = nat_lt offset (2 ^ 11)
fits (flat.Store op y offset x) = nat_lt offset (2 ^ 11)
fits (flat.Constant x n) = is_short n
fits (flat.Operate op x y z) = is_short_operand z
fits (flat.Operate32 op x y z) = is_short_operand z
fits (flat.Branch op y z past) = is_short_operand z
fits (flat.End e) = is_small_ending e
fits i = true

abbrev pub function_fits : FlatFunction → Bool
function_fits f =
    nat_le 8 f.room && (nat_le f.parameters 1024 && (nat_le f.results 1024 && list_all fits f.body))
