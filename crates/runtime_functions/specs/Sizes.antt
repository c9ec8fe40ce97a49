-- What the back end asks of the functions of the runtime, and how much of the first segment they take at most.
use Rattle.std.specs.Prelude.{ℕ, ◌+◌, ◌*◌, Bool, true, ◌&&◌, nat_lt, List, [], ◌∷◌}
use Rattle.flat_code.specs.declared.instruction.FlatInstruction.{FlatInstruction}
use Rattle.flat_code.specs.declared.instruction.FlatInstruction.TheVariants.{Return}
use Rattle.flat_code.specs.declared.function.FlatFunction.{FlatFunction}
use Rattle.flat_code.specs.Routines.Shape.{is_shaped}

-- a record of the runtime has at most 2048 bytes, of which 16 are no register's
abbrev pub most_registers : ℕ
most_registers = 254

-- ---- what machine instructions can hold

-- whether an instruction is one of a routine, or a return
abbrev pub is_encodable : FlatInstruction → Bool
is_encodable (Return x) = nat_lt x most_registers
is_encodable i = is_shaped most_registers i

abbrev pub are_encodable : List FlatInstruction → Bool
are_encodable [] = true
are_encodable (i ∷ is) = is_encodable i && are_encodable is

-- ---- words of code

-- A return hands over each value in six words at most; the longest of the other instructions, what the calls take now,
-- has fifteen.
abbrev pub instruction_words : (results : ℕ) → FlatInstruction → ℕ
instruction_words n (Return x) = 2 + 6 * n
instruction_words n i = 15

abbrev pub body_words : (results : ℕ) → List FlatInstruction → ℕ
body_words n [] = 0
body_words n (i ∷ is) = instruction_words n i + body_words n is

-- one word keeps the return address and one stands at the end, and each argument takes six at most
abbrev pub function_words : FlatFunction → ℕ
function_words f = 2 + 6 * f.parameters + body_words f.results f.body

abbrev pub all_words : List FlatFunction → ℕ
all_words [] = 0
all_words (f ∷ fs) = function_words f + all_words fs
