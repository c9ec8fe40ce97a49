-- Pointers that move by elements, and their differences in elements, in flat code (C99 6.5.6 paragraphs 8 and 9), on
-- registers that hold words: `into` gets the address, or the difference. The register `scratch` may change.
use Rattle.std.specs.Prelude.{ℕ, ◌+◌, ◌-◌, ◌*◌, ◌%◌, ◌^◌, ◌==◌, if◌then◌else◌, List, [], ◌∷◌, ◌++◌, Option, Some, None}
use Rattle.std.specs.Prelude.{true}
use Rattle.rv_isa.specs.declared.instruction.RegOp.{RegOp}
use Rattle.rv_isa.specs.declared.instruction.RegOp.TheVariants as op
use Rattle.obj_memory.specs.declared.int_type.IntType.TheVariants.{Long}
use Rattle.obj_memory.specs.Integers.{fit}
use Rattle.obj_memory.specs.Operators.{negated, quotient}
use Rattle.flat_code.specs.declared.instruction.RightOperand.TheVariants.{Register, Number}
use Rattle.flat_code.specs.declared.instruction.FlatInstruction.{FlatInstruction}
use Rattle.flat_code.specs.declared.instruction.FlatInstruction.TheVariants.{Operate}
use Rattle.flat_operators.specs.Operators.{constant_code}

-- ---- what they are

-- an address that is so many elements of some size further on, or further back
abbrev pub address_forward : (size address index : ℕ) → ℕ
address_forward size a i = (a + i * size) % 2 ^ 64

abbrev pub address_back : (size address index : ℕ) → ℕ
address_back size a i = (a + (2 ^ 64 - i * size % 2 ^ 64)) % 2 ^ 64

-- the signed difference of two addresses in elements of some size, without its fraction
abbrev pub elements_between : (size left right : ℕ) → ℕ
elements_between size a b = fit Long (quotient true (fit Long (a + negated b)) size)

-- ---- their code

-- the bytes of so many elements: those of a scalar of more than a byte by a shift
abbrev pub shift_of : (size : ℕ) → Option ℕ
shift_of size = if size == 2 then Some 1 else if size == 4 then Some 2 else if size == 8 then Some 3 else None

abbrev pub scaled_by : Option ℕ → (index size into : ℕ) → List FlatInstruction
scaled_by (Some bits) i size n = Operate op.Sll n i (Number bits) ∷ []
scaled_by None i size n = constant_code n size ++ Operate op.Mul n i (Register n) ∷ []

-- an address and so many elements of some size, added or subtracted; of one byte the index as it is
unfoldable pub offset_code : RegOp → (size into address index scratch : ℕ) → List FlatInstruction
offset_code o size d a i n =
    if size == 1 then Operate o d a (Register i) ∷ []
    else scaled_by (shift_of size) i size n ++ Operate o d a (Register n) ∷ []

-- the bytes between two addresses, divided by the size
unfoldable pub difference_code : (size into left right scratch : ℕ) → List FlatInstruction
difference_code size d a b n =
    constant_code n size ++ (Operate op.Sub d a (Register b) ∷ Operate op.Div d d (Register n) ∷ [])
