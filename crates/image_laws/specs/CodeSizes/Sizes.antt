-- How many words of code a program has at most, counted by its instructions.
use Rattle.std.specs.Prelude.{◌≡◌, ℕ, zero, suc, ◌+◌, ◌-◌, ◌*◌, ◌^◌, ◌≤◌, ◌==◌, ◌||◌, nat_lt, nat_le, if◌then◌else◌}
use Rattle.std.specs.Prelude.{List, [], ◌∷◌, length, Option, Some, None}
use Rattle.words.specs.TwosComplement.{low_bits}
use Rattle.rv_isa.specs.declared.instruction.Instr.{Instr}
use Rattle.flat_code.specs.declared.instruction.RightOperand.{RightOperand}
use Rattle.flat_code.specs.declared.instruction.RightOperand.TheVariants as right
use Rattle.flat_code.specs.declared.instruction.FlatInstruction.{FlatInstruction}
use Rattle.flat_code.specs.declared.instruction.FlatInstruction.TheVariants as flat
use Rattle.flat_code.specs.declared.function.FlatFunction.{FlatFunction}
use Rattle.flat_code.specs.declared.function.FlatProgram.{FlatProgram}
use Rattle.flat_code.specs.Calls.{function_in, record_bytes}
use Rattle.flat_code.specs.Meaning.{parameters_of, results_of, instruction_at}
use Rattle.machine_laws.specs.Blocks.Places.{home}
use Rattle.machine_laws.specs.Calls.Table.{row_address}
use Rattle.machine_laws.specs.Blocks.Immediates.{is_immediate, immediate_of, immediate32_of}

-- a number in a register
abbrev pub constant_words : ℕ → ℕ
constant_words n =
    if is_immediate n then 1 else (if nat_lt n (2 ^ 31 - 2 ^ 11) || nat_le (2 ^ 64 - 2 ^ 31) n then 2 else 11)

-- The word so many bytes behind the address in a register: one word of code within 2048 bytes, else three.
abbrev pub offset_words : (offset : ℕ) → ℕ
offset_words o = if nat_lt o (2 ^ 11) then 1 else 3

-- how many words of code reach the home of a register in the activation record of a function
unfoldable pub home_words : FlatFunction → (register : ℕ) → ℕ
home_words g y = offset_words (home g y)

-- a right operand in a register
abbrev pub right_words : FlatFunction → RightOperand → ℕ
right_words g (right.Register z) = home_words g z
right_words g (right.Number n) = if n == 0 then 0 else constant_words (low_bits 64 n)

-- an operator between homes, with the instruction that has its right operand in itself, where there is one
abbrev pub operator_words : FlatFunction → (into left : ℕ) → RightOperand → Option Instr → ℕ
operator_words g x y z (Some i) = home_words g y + home_words g x + 1
operator_words g x y z None = home_words g y + home_words g x + right_words g z + 1

-- so many values, from a register on, come from their homes to the words of arguments, or go from there to their homes
unfoldable pub passed_words : FlatFunction → (first count : ℕ) → ℕ
passed_words g y zero = 0
passed_words g y (suc n) = passed_words g y n + (home_words g (y + n) + offset_words (8 * n))

-- A call where the callee's address and the values that are handed over and given back take so many words, in a
-- function whose activation record has so many bytes: each of the eleven registers is saved and restored at most once.
abbrev pub call_words : (room aim passed : ℕ) → ℕ
call_words room aim n = 67 + aim + 2 * (constant_words room + 1) + n

-- an instruction of a function with its jump or branch in the longest form, where each value is kept in its home; an
-- ending is its line and the jump to a tail
abbrev pub instruction_words : FlatProgram → FlatFunction → FlatInstruction → ℕ
instruction_words p g (flat.Constant x n) = constant_words (low_bits 64 n) + home_words g x
instruction_words p g (flat.Move x y) = home_words g y + home_words g x + 1
instruction_words p g (flat.Operate op x y z) = operator_words g x y z (immediate_of op 0 0 z)
instruction_words p g (flat.Operate32 op x y z) = operator_words g x y z (immediate32_of op 0 0 z)
instruction_words p g (flat.Load op x y o) = home_words g y + home_words g x + 1
instruction_words p g (flat.Store op y o x) = home_words g y + home_words g x + 1
instruction_words p g (flat.Branch op y z past) = home_words g y + right_words g z + 3
instruction_words p g (flat.JumpForward past) = 2
instruction_words p g (flat.JumpBack back) = 2
instruction_words p g flat.Turn = 1
instruction_words p g (flat.Call f first x) =
    call_words (record_bytes g) (constant_words (row_address p f))
    (passed_words g first (parameters_of (function_in p f)) + passed_words g x (results_of (function_in p f)))
instruction_words p g (flat.CallAddress y first n x k) =
    call_words (record_bytes g) (home_words g y) (passed_words g first n + passed_words g x k)
instruction_words p g (flat.Return y) = 2 + passed_words g y g.results
instruction_words p g (flat.Get x) = home_words g x + 9
instruction_words p g (flat.Put x) = home_words g x + 6
instruction_words p g (flat.Exit x) = home_words g x + 3
instruction_words p g (flat.End e) = 4
instruction_words p g (flat.Charged x) = home_words g x + 13

abbrev pub body_words : FlatProgram → FlatFunction → List FlatInstruction → ℕ
body_words p g [] = 0
body_words p g (i ∷ is) = instruction_words p g i + body_words p g is

-- of a function: one word keeps its return address, and one stands at its end
abbrev pub most_words : FlatProgram → FlatFunction → ℕ
most_words p g = 2 + passed_words g 0 g.parameters + body_words p g g.body

-- of the functions of the program below a number
abbrev pub most_if : FlatProgram → Option FlatFunction → ℕ
most_if p None = 0
most_if p (Some g) = if g.is_runtime then 0 else most_words p g

abbrev pub most_below : FlatProgram → (number : ℕ) → ℕ
most_below p zero = 0
most_below p (suc k) = most_below p k + most_if p (function_in p k)

-- how many instructions the functions of the program below a number have
abbrev pub instructions_if : Option FlatFunction → ℕ
instructions_if None = 0
instructions_if (Some g) = if g.is_runtime then 0 else length g.body

abbrev pub instructions_below : FlatProgram → (number : ℕ) → ℕ
instructions_below p zero = 0
instructions_below p (suc k) = instructions_below p k + instructions_if (function_in p k)

-- What an instruction takes beyond eighteen words at most: a call saves each of the eleven registers at most once, and
-- each value that is handed over takes six words at most.
abbrev pub more_words : FlatProgram → (results : ℕ) → FlatInstruction → ℕ
more_words p r (flat.Call g first x) = 84 + 6 * (parameters_of (function_in p g) + results_of (function_in p g))
more_words p r (flat.CallAddress y first n x k) = 84 + 6 * (n + k)
more_words p r (flat.Return y) = 6 * r
more_words p r i = 0

-- no call hands over more than so many values, and none gives back more
pub record HandsOver (program : FlatProgram) (values : ℕ) : Type 0 where
  pub parameters : (f : ℕ) (g : FlatFunction) → function_in program f ≡ Some g → g.parameters ≤ values
  pub each : (f pc : ℕ) (i : FlatInstruction) → instruction_at program f pc ≡ Some i
      → more_words program (results_of (function_in program f)) i ≤ 84 + 12 * values
