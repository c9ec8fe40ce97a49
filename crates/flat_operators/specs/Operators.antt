-- The operators of C on integers in flat code (C99 6.5.3.3, 6.5.5 to 6.5.12) and their conversions (6.3.1.3), on
-- registers that hold words: `into` gets the result. The register `scratch` may change.
use Rattle.std.specs.Prelude.{ℕ, ◌-◌, ◌/◌, ◌%◌, ◌^◌, Bool, ◌||◌, ◌==◌, nat_lt, nat_le, if◌then◌else◌, List, [], ◌∷◌}
use Rattle.std.specs.Prelude.{◌++◌}
use Rattle.sb_base.specs.declared.ending.Ending.TheVariants as ending
use Rattle.rv_isa.specs.declared.instruction.BranchOp.TheVariants.{Bne}
use Rattle.rv_isa.specs.declared.instruction.RegOp.{RegOp}
use Rattle.rv_isa.specs.declared.instruction.RegOp.TheVariants as op
use Rattle.rv_isa.specs.declared.instruction.RegOp32.{RegOp32}
use Rattle.rv_isa.specs.declared.instruction.RegOp32.TheVariants.{Addw, Subw, Mulw, Sllw}
use Rattle.obj_memory.specs.declared.int_type.IntType.{IntType}
use Rattle.obj_memory.specs.declared.int_type.IntType.TheVariants.{Char, SignedChar, UnsignedChar, Short}
use Rattle.obj_memory.specs.declared.int_type.IntType.TheVariants.{UnsignedShort, Int, UnsignedInt, Long}
use Rattle.obj_memory.specs.declared.int_type.IntType.TheVariants.{UnsignedLong, LongLong, UnsignedLongLong}
use Rattle.obj_memory.specs.declared.operator.UnaryOperator.{UnaryOperator}
use Rattle.obj_memory.specs.declared.operator.UnaryOperator.TheVariants.{Plus, Negate, Complement, Not}
use Rattle.obj_memory.specs.declared.operator.BinaryOperator.{BinaryOperator}
use Rattle.obj_memory.specs.declared.operator.BinaryOperator.TheVariants.{Add, Subtract, Multiply, Divide, Remainder}
use Rattle.obj_memory.specs.declared.operator.BinaryOperator.TheVariants.{ShiftLeft, ShiftRight, BitAnd, BitXor}
use Rattle.obj_memory.specs.declared.operator.BinaryOperator.TheVariants.{BitOr, Less, Greater, LessOrEqual}
use Rattle.obj_memory.specs.declared.operator.BinaryOperator.TheVariants.{GreaterOrEqual, Equal, NotEqual}
use Rattle.obj_memory.specs.Integers.{is_signed, size_of}
use Rattle.flat_code.specs.declared.instruction.RightOperand.TheVariants.{Register, Number}
use Rattle.flat_code.specs.declared.instruction.FlatInstruction.{FlatInstruction}
use Rattle.flat_code.specs.declared.instruction.FlatInstruction.TheVariants.{Constant, Move, Operate, Operate32}
use Rattle.flat_code.specs.declared.instruction.FlatInstruction.TheVariants.{Branch, End}

-- ---- constants

-- A number in an instruction has at most 32 bits with its sign, and not quite all of the positive ones, so that it
-- takes two instructions of the machine (RISC-V unprivileged ISA manual, 2.4: LUI and ADDI).
abbrev pub is_short : ℕ → Bool
is_short w = nat_lt w (2 ^ 31 - 2 ^ 11) || nat_le (2 ^ 64 - 2 ^ 31) w

-- so many more bits behind those of a register
abbrev pub appended : (count into bits : ℕ) → List FlatInstruction
appended k d n = Operate op.Sll d d (Number k) ∷ Operate op.Add d d (Number n) ∷ []

abbrev pub wide_code : (into word : ℕ) → List FlatInstruction
wide_code d w = Constant d (w / 2 ^ 40) ∷ (appended 20 d (w / 2 ^ 20 % 2 ^ 20) ++ appended 20 d (w % 2 ^ 20))

-- Sizes of objects, offsets and their sums have at most 33 bits: the last three stand behind the others, which are
-- short.
abbrev pub medium_code : (into word : ℕ) → List FlatInstruction
medium_code d w = Constant d (w / 8) ∷ appended 3 d (w % 8)

abbrev pub long_code : (into word : ℕ) → List FlatInstruction
long_code d w = if nat_lt w (2 ^ 33) then medium_code d w else wide_code d w

unfoldable pub constant_code : (into word : ℕ) → List FlatInstruction
constant_code d w = if is_short w then Constant d w ∷ [] else long_code d w

-- ---- conversions

-- the low 64 - n bits, extended by a shift to the left and one back
abbrev pub two_shifts : (back : RegOp) → (n into from : ℕ) → List FlatInstruction
two_shifts back n d x = Operate op.Sll d x (Number n) ∷ Operate back d d (Number n) ∷ []

-- a conversion to a type
unfoldable pub conversion_code : IntType → (into from : ℕ) → List FlatInstruction
conversion_code Char d x = two_shifts op.Srl 56 d x
conversion_code SignedChar d x = two_shifts op.Sra 56 d x
conversion_code UnsignedChar d x = two_shifts op.Srl 56 d x
conversion_code Short d x = two_shifts op.Sra 48 d x
conversion_code UnsignedShort d x = two_shifts op.Srl 48 d x
conversion_code Int d x = Operate32 Addw d x (Number 0) ∷ []
conversion_code UnsignedInt d x = two_shifts op.Srl 32 d x
conversion_code Long d x = Move d x ∷ []
conversion_code UnsignedLong d x = Move d x ∷ []
conversion_code LongLong d x = Move d x ∷ []
conversion_code UnsignedLongLong d x = Move d x ∷ []

-- the conversion of a result where it stands, which one of 64 bits does not need
abbrev pub converted : IntType → (into : ℕ) → List FlatInstruction
converted t d = if size_of t == 8 then [] else conversion_code t d d

-- an operator of 64 bits and a conversion; for int it is one of 32 bits
unfoldable pub wrapping_code : RegOp → RegOp32 → IntType → (into left right : ℕ) → List FlatInstruction
wrapping_code o o32 Int d a b = Operate32 o32 d a (Register b) ∷ []
wrapping_code o o32 t d a b = Operate o d a (Register b) ∷ converted t d

-- a shift to the left: of fewer than 64 bits, that of 32 bits
unfoldable pub shift_left_code : IntType → (into left right : ℕ) → List FlatInstruction
shift_left_code t d a b =
    if size_of t == 8 then Operate op.Sll d a (Register b) ∷ []
    else Operate32 Sllw d a (Register b) ∷ conversion_code t d d

-- a shift to the right, by an amount modulo the width
unfoldable pub shift_right_code : IntType → (into left right scratch : ℕ) → List FlatInstruction
shift_right_code t d a b n =
    let shift = if is_signed t then op.Sra else op.Srl in
    if size_of t == 8 then Operate shift d a (Register b) ∷ []
    else Operate op.And n b (Number 31) ∷ Operate shift d a (Register n) ∷ []

-- ---- divisions

-- the run ends where the divisor is zero
abbrev pub divided_code : RegOp → IntType → (line into left right : ℕ) → List FlatInstruction
divided_code o t line d a b =
    Branch Bne b (Number 0) 1 ∷ End (ending.Divide line) ∷ Operate o d a (Register b) ∷ converted t d

abbrev pub less_op : IntType → RegOp
less_op t = if is_signed t then op.Slt else op.Sltu

-- the other of 0 and 1
abbrev pub turned : (into : ℕ) → FlatInstruction
turned d = Operate op.Xor d d (Number 1)

-- 1 where two registers are equal, else 0
abbrev pub equal_code : (into left right : ℕ) → List FlatInstruction
equal_code d a b = Operate op.Sub d a (Register b) ∷ Operate op.Sltu d d (Number 1) ∷ []

-- the operators

unfoldable pub unary_code : UnaryOperator → IntType → (into from scratch : ℕ) → List FlatInstruction
unary_code Plus t d x n = conversion_code t d x
unary_code Negate t d x n = Constant n 0 ∷ Operate op.Sub d n (Register x) ∷ converted t d
unary_code Complement t d x n = Constant n (2 ^ 64 - 1) ∷ Operate op.Sub d n (Register x) ∷ converted t d
unary_code Not t d x n = Operate op.Sltu d x (Number 1) ∷ []

unfoldable pub binary_code : BinaryOperator → IntType → (line into left right scratch : ℕ) → List FlatInstruction
binary_code Add t line d a b n = wrapping_code op.Add Addw t d a b
binary_code Subtract t line d a b n = wrapping_code op.Sub Subw t d a b
binary_code Multiply t line d a b n = wrapping_code op.Mul Mulw t d a b
binary_code Divide t line d a b n = divided_code (if is_signed t then op.Div else op.Divu) t line d a b
binary_code Remainder t line d a b n = divided_code (if is_signed t then op.Rem else op.Remu) t line d a b
binary_code ShiftLeft t line d a b n = shift_left_code t d a b
binary_code ShiftRight t line d a b n = shift_right_code t d a b n
binary_code BitAnd t line d a b n = Operate op.And d a (Register b) ∷ []
binary_code BitXor t line d a b n = Operate op.Xor d a (Register b) ∷ []
binary_code BitOr t line d a b n = Operate op.Or d a (Register b) ∷ []
binary_code Less t line d a b n = Operate (less_op t) d a (Register b) ∷ []
binary_code Greater t line d a b n = Operate (less_op t) d b (Register a) ∷ []
binary_code LessOrEqual t line d a b n = Operate (less_op t) d b (Register a) ∷ turned d ∷ []
binary_code GreaterOrEqual t line d a b n = Operate (less_op t) d a (Register b) ∷ turned d ∷ []
binary_code Equal t line d a b n = equal_code d a b
binary_code NotEqual t line d a b n = equal_code d a b ++ turned d ∷ []
