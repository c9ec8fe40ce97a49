-- What is known before each instruction of a function: what the instructions of its basic block before it tell.
use Rattle.std.specs.Prelude.{ℕ, zero, suc, ◌+◌, ◌-◌, Bool, false, ◌||◌, ◌==◌, if◌then◌else◌}
use Rattle.std.specs.Prelude.{List, [], ◌∷◌, Option, Some, None, slice_get}
use Rattle.rv_isa.specs.declared.instruction.BranchOp.TheVariants.{Beq, Blt, Bltu}
use Rattle.rv_isa.specs.declared.instruction.RegOp.{RegOp}
use Rattle.rv_isa.specs.declared.instruction.RegOp.TheVariants.{Sub, Slt, Sltu, Xor}
use Rattle.flat_code.specs.declared.instruction.RightOperand.{RightOperand}
use Rattle.flat_code.specs.declared.instruction.RightOperand.TheVariants.{Register, Number}
use Rattle.flat_code.specs.declared.instruction.FlatInstruction.{FlatInstruction}
use Rattle.flat_code.specs.declared.instruction.FlatInstruction.TheVariants.{Constant, Move, Operate, Operate32}
use Rattle.flat_code.specs.declared.instruction.FlatInstruction.TheVariants.{Load, Store, Branch, JumpForward}
use Rattle.flat_code.specs.declared.instruction.FlatInstruction.TheVariants.{JumpBack, Turn, Call, CallAddress}
use Rattle.flat_code.specs.declared.instruction.FlatInstruction.TheVariants.{Return, Get, Put, Exit, End, Charged}
use Rattle.flat_propagation.specs.declared.fact.Fact.{Fact}
use Rattle.flat_propagation.specs.declared.fact.Fact.TheVariants.{Unknown, Same, Word, Difference, Condition}
use Rattle.flat_propagation.specs.Facts.{Facts, nothing, opposite, with_fact}

-- ---- where values come from

-- the register that a value of a register is a copy of, or itself
abbrev pub source : Fact → (register : ℕ) → ℕ
source (Same y) x = y
source _ x = x

-- the same, but for a register that is about to be made anew
abbrev pub source_but : (into : ℕ) → Fact → (register : ℕ) → ℕ
source_but d fact x = if source fact x == d then x else source fact x

-- a value that is 0 needs no register
abbrev pub register_or_zero : Fact → (register : ℕ) → RightOperand
register_or_zero (Word n) x = if n == 0 then Number 0 else Register x
register_or_zero _ x = Register x

-- a right operand as a branch can have it
abbrev pub right_source_but : (into : ℕ) → Facts → RightOperand → RightOperand
right_source_but d known (Register x) = register_or_zero (known x) (source_but d (known x) x)
right_source_but d known (Number n) = Number n

-- ---- what an instruction tells

-- of a copy what is known of what it copies
abbrev pub copied : Fact → (from : ℕ) → Fact
copied Unknown x = Same x
copied fact x = fact

-- a branch compares registers, or one with 0
abbrev pub if_branchable : RightOperand → Fact → Fact
if_branchable (Register x) fact = fact
if_branchable (Number n) fact = if n == 0 then fact else Unknown

-- whether a value is 0: a difference is where the operands are equal, a condition where it does not hold
abbrev pub is_zero : Fact → (register : ℕ) → Fact
is_zero (Difference a b) x = Condition Beq a b
is_zero (Condition op a b) x = Condition (opposite op) a b
is_zero _ x = Condition Beq x (Number 0)

-- 1 less a condition
abbrev pub turned : Fact → Fact
turned (Condition op a b) = Condition (opposite op) a b
turned _ = Unknown

abbrev pub if_one : RightOperand → (one other : Fact) → Fact
if_one (Register x) fact other = other
if_one (Number n) fact other = if n == 1 then fact else other

-- of an operator on two values: of the left one there is a fact
unfoldable pub computed : RegOp → Fact → (left : ℕ) → RightOperand → Fact
computed Sub fact a b = if_branchable b (Difference a b)
computed Slt fact a b = if_branchable b (Condition Blt a b)
computed Sltu fact a b = if_one b (is_zero fact a) (if_branchable b (Condition Bltu a b))
computed Xor fact a b = if_one b (turned fact) Unknown
computed _ fact a b = Unknown

-- What is known behind an instruction, by what is known before it. Behind a call nothing is, so that no value has to be
-- kept over it for that; and none is behind an instruction that ends a basic block, but for a branch that is not taken.
unfoldable pub after : Facts → FlatInstruction → Facts
after known (Constant x n) = with_fact known x (Word n)
after known (Move x y) = with_fact known x (copied (known y) y)
after known (Operate op x y z) =
    with_fact known x (computed op (known y) (source_but x (known y) y) (right_source_but x known z))
after known (Operate32 op x y z) = with_fact known x Unknown
after known (Load op x y offset) = with_fact known x Unknown
after known (Store op y offset x) = known
after known (Branch op y z past) = known
after known (JumpForward past) = nothing
after known (JumpBack back) = nothing
after known Turn = known
after known (Call f first x) = nothing
after known (CallAddress y first n x r) = nothing
after known (Return y) = nothing
after known (Get x) = with_fact known x Unknown
after known (Put x) = known
after known (Exit x) = nothing
after known (End e) = nothing
after known (Charged x) = with_fact known x Unknown

-- ---- basic blocks

-- an instruction jumps to a place, or may do so
abbrev pub jumps_to : FlatInstruction → (place to : ℕ) → Bool
jumps_to (Branch op y z past) pc q = pc + 1 + past == q
jumps_to (JumpForward past) pc q = pc + 1 + past == q
jumps_to (JumpBack back) pc q = pc - back == q
jumps_to _ pc q = false

-- one of a list does, the first of which stands at a place
unfoldable pub some_jumps_to : (place : ℕ) → List FlatInstruction → (to : ℕ) → Bool
some_jumps_to pc [] q = false
some_jumps_to pc (i ∷ is) q = jumps_to i pc q || some_jumps_to (pc + 1) is q

abbrev pub is_target : List FlatInstruction → (place : ℕ) → Bool
is_target body q = some_jumps_to 0 body q

abbrev pub after_at : Facts → Option FlatInstruction → Facts
after_at known None = nothing
after_at known (Some i) = after known i

-- what is known before the instruction at a place: nothing at the entry of the function and where a jump leads
unfoldable pub known_at : List FlatInstruction → (place : ℕ) → Facts
known_at body zero = nothing
known_at body (suc pc) =
    if is_target body (suc pc) then nothing else after_at (known_at body pc) (slice_get body pc)

-- what the instruction before a place tells, whether or not a jump leads there
unfoldable pub arriving_at : List FlatInstruction → (place : ℕ) → Facts
arriving_at body zero = nothing
arriving_at body (suc pc) = after_at (known_at body pc) (slice_get body pc)
