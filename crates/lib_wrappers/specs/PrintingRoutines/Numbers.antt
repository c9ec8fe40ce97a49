-- The arguments of directives put out in flat code (C99 7.19.6.1 paragraph 8), strings apart.
use Rattle.std.specs.Prelude.{◌≡◌, ℕ, ◌+◌, ◌*◌, pos, false, List, [], ◌∷◌, ◌++◌, length}
use Rattle.std.specs.Fmt.{digits, decimal, signed_decimal}
use Rattle.std.specs.Int.{w64, int_wrap}
use Rattle.addr_map.specs.Places.{MapSizes}
use Rattle.rv_isa.specs.declared.instruction.BranchOp.TheVariants.{Bge}
use Rattle.rv_isa.specs.declared.instruction.RegOp.TheVariants.{Add, Sub, Sll, Srl}
use Rattle.rv_isa.specs.declared.instruction.RegOp32.TheVariants.{Addw}
use Rattle.obj_memory.specs.declared.int_type.IntType.TheVariants.{UnsignedInt, UnsignedLong, UnsignedChar}
use Rattle.obj_memory.specs.Integers.{fit}
use Rattle.c_tree.specs.declared.format.Directive.{Directive}
use Rattle.c_tree.specs.declared.format.Directive.TheVariants as directive
use Rattle.source_meaning.specs.Actions.{int_of}
use Rattle.flat_code.specs.declared.instruction.RightOperand.TheVariants.{Register, Number}
use Rattle.flat_code.specs.declared.instruction.FlatInstruction.{FlatInstruction}
use Rattle.flat_code.specs.declared.instruction.FlatInstruction.TheVariants.{Constant, Move, Operate, Operate32, Put}
use Rattle.flat_code.specs.declared.instruction.FlatInstruction.TheVariants.{Branch}
use Rattle.flat_actions.specs.Ranges.{DoesInRuntime}
use Rattle.lib_wrappers.specs.PrintingRoutines.Digits.{HasPrinted, digits_code}

-- the bytes of an argument that is no string, by its word
abbrev pub number_bytes : Directive → (word : ℕ) → List ℕ
number_bytes directive.Int w = signed_decimal (int_of w)
number_bytes directive.UnsignedInt w = decimal (fit UnsignedInt w)
number_bytes directive.Hexadecimal w = digits 16 false (fit UnsignedInt w)
number_bytes directive.Character w = fit UnsignedChar w ∷ []
number_bytes directive.Long w = signed_decimal (int_wrap w64 (pos w))
number_bytes directive.UnsignedLong w = decimal (fit UnsignedLong w)
number_bytes directive.String w = []

-- within 12 steps and 15 for each byte they are put out
abbrev pub IsNumberRoutine : MapSizes → Directive → (value count scratch : ℕ) → List FlatInstruction → Type 0
IsNumberRoutine map d value count t r =
    (n : ℕ)
    → DoesInRuntime map r (λ s. s.values value ≡ n) (12 + 15 * length (number_bytes d n))
    (HasPrinted (number_bytes d n) count t)

-- the sign of a word of 64 bits is put out, and the word becomes its magnitude
abbrev pub sign_code : (value count scratch : ℕ) → List FlatInstruction
sign_code x c y =
    Branch Bge x (Number 0) 5
    ∷ Constant y 45
    ∷ Put y
    ∷ Operate Add c c (Number 1)
    ∷ Constant y 0
    ∷ Operate Sub x y (Register x)
    ∷ []

-- the digits in a base
abbrev pub base_code : (base value count scratch : ℕ) → List FlatInstruction
base_code base v c t = digits_code base v c t (t + 1) (t + 2)

-- the low 32 bits
abbrev pub low_code : (into from : ℕ) → List FlatInstruction
low_code t v = Operate Sll t v (Number 32) ∷ Operate Srl t t (Number 32) ∷ []

abbrev pub number_code : Directive → (value count scratch : ℕ) → List FlatInstruction
number_code directive.Int v c t =
    (Operate32 Addw t v (Number 0) ∷ []) ++ (sign_code t c (t + 1) ++ base_code 10 t c (t + 1))
number_code directive.UnsignedInt v c t = low_code t v ++ base_code 10 t c (t + 1)
number_code directive.Hexadecimal v c t = low_code t v ++ base_code 16 t c (t + 1)
number_code directive.Character v c t = Put v ∷ Operate Add c c (Number 1) ∷ []
number_code directive.Long v c t = (Move t v ∷ []) ++ (sign_code t c (t + 1) ++ base_code 10 t c (t + 1))
number_code directive.UnsignedLong v c t = base_code 10 v c t
number_code directive.String v c t = []
