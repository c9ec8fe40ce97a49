-- Programs whose operands are taken from where their values come.
use Rattle.std.specs.Prelude.{ℕ, ◌+◌, ◌-◌, ◌^◌, Bool, ◌||◌, ◌&&◌, ◌==◌, nat_lt, if◌then◌else◌}
use Rattle.std.specs.Prelude.{List, [], ◌∷◌, map}
use Rattle.rv_isa.specs.declared.instruction.BranchOp.{BranchOp}
use Rattle.rv_isa.specs.declared.instruction.BranchOp.TheVariants.{Beq, Bne}
use Rattle.rv_isa.specs.declared.instruction.RegOp.{RegOp}
use Rattle.rv_isa.specs.declared.instruction.RegOp.TheVariants.{Add, Sub, Sll, Slt, Sltu, Xor, Srl, Sra, Or, And}
use Rattle.rv_isa.specs.declared.instruction.RegOp32.{RegOp32}
use Rattle.rv_isa.specs.declared.instruction.RegOp32.TheVariants.{Addw, Subw, Sllw, Srlw, Sraw}
use Rattle.flat_code.specs.declared.instruction.RightOperand.{RightOperand}
use Rattle.flat_code.specs.declared.instruction.RightOperand.TheVariants.{Register, Number}
use Rattle.flat_code.specs.declared.instruction.FlatInstruction.{FlatInstruction}
use Rattle.flat_code.specs.declared.instruction.FlatInstruction.TheVariants.{Constant, Move, Operate, Operate32}
use Rattle.flat_code.specs.declared.instruction.FlatInstruction.TheVariants.{Load, Store, Branch, JumpForward}
use Rattle.flat_code.specs.declared.instruction.FlatInstruction.TheVariants.{JumpBack, Turn, Call, CallAddress}
use Rattle.flat_code.specs.declared.instruction.FlatInstruction.TheVariants.{Return, Get, Put, Exit, End, Charged}
use Rattle.flat_code.specs.declared.function.FlatFunction.{FlatFunction}
use Rattle.flat_code.specs.declared.function.FlatProgram.{FlatProgram}
use Rattle.flat_propagation.specs.declared.fact.Fact.{Fact}
use Rattle.flat_propagation.specs.declared.fact.Fact.TheVariants.{Same, Word, Difference, Condition}
use Rattle.flat_propagation.specs.Facts.{Facts, opposite}
use Rattle.flat_propagation.specs.Known.{source, source_but, register_or_zero, known_at}

-- ---- numbers in place of registers

-- a word that an instruction can have in itself, and its negative too (RISC-V unprivileged ISA manual, 2.4: 12 bits
-- with a sign)
abbrev pub is_short : ℕ → Bool
is_short n = nat_lt n (2 ^ 11) || (nat_lt (2 ^ 64 - 2 ^ 11) n && nat_lt n (2 ^ 64))

-- whether an operator on a register and a number takes no more than on two registers; of 0 there is a register
abbrev pub takes : RegOp → ℕ → Bool
takes Add n = is_short n
takes Sub n = is_short n
takes Slt n = is_short n
takes Sltu n = is_short n
takes Xor n = is_short n
takes Or n = is_short n
takes And n = is_short n
takes Sll n = nat_lt n 64
takes Srl n = nat_lt n 64
takes Sra n = nat_lt n 64
takes _ n = n == 0

abbrev pub takes32 : RegOp32 → ℕ → Bool
takes32 Addw n = is_short n
takes32 Subw n = is_short n
takes32 Sllw n = nat_lt n 32
takes32 Srlw n = nat_lt n 32
takes32 Sraw n = nat_lt n 32
takes32 _ n = n == 0

abbrev pub register_or_number : (ℕ → Bool) → Fact → (register : ℕ) → RightOperand
register_or_number fits (Word n) x = if fits n then Number n else Register x
register_or_number fits _ x = Register x

-- the right operand of an operator, which takes some numbers
abbrev pub right_but : (into : ℕ) → (ℕ → Bool) → Facts → RightOperand → RightOperand
right_but d fits known (Register x) = register_or_number fits (known x) (source_but d (known x) x)
right_but d fits known (Number n) = Number n

-- ---- branches

abbrev pub right_source : Facts → RightOperand → RightOperand
right_source known (Register x) = register_or_zero (known x) (source (known x) x)
right_source known (Number n) = Number n

-- a branch where a value is not 0, or is 0: what the value tells of others is asked of them
abbrev pub unless_zero : Fact → (register past : ℕ) → FlatInstruction
unless_zero (Difference a b) x past = Branch Bne a b past
unless_zero (Condition op a b) x past = Branch op a b past
unless_zero fact x past = Branch Bne (source fact x) (Number 0) past

abbrev pub if_zero : Fact → (register past : ℕ) → FlatInstruction
if_zero (Difference a b) x past = Branch Beq a b past
if_zero (Condition op a b) x past = Branch (opposite op) a b past
if_zero fact x past = Branch Beq (source fact x) (Number 0) past

abbrev pub compared : BranchOp → Fact → (register past : ℕ) → RightOperand → FlatInstruction
compared op fact x past b = Branch op (source fact x) b past

-- a branch that compares with 0
abbrev pub compared_zero : BranchOp → Fact → (register past : ℕ) → FlatInstruction
compared_zero Bne fact x past = unless_zero fact x past
compared_zero Beq fact x past = if_zero fact x past
compared_zero op fact x past = compared op fact x past (Number 0)

abbrev pub branch_on : BranchOp → Fact → (register past : ℕ) → RightOperand → FlatInstruction
branch_on op fact x past (Register y) = compared op fact x past (Register y)
branch_on op fact x past (Number n) =
    if n == 0 then compared_zero op fact x past else compared op fact x past (Number n)

-- ---- instructions

-- a copy of a number that an instruction can have in itself is that number
abbrev pub moved : Fact → (into from : ℕ) → FlatInstruction
moved (Same y) d x = Move d y
moved (Word n) d x = if is_short n then Constant d n else Move d x
moved _ d x = Move d x

-- an instruction before which facts are known: its operands are taken from where they come
unfoldable pub rewritten : Facts → FlatInstruction → FlatInstruction
rewritten known (Constant x n) = Constant x n
rewritten known (Move x y) = moved (known y) x y
rewritten known (Operate op x y z) = Operate op x (source_but x (known y) y) (right_but x (takes op) known z)
rewritten known (Operate32 op x y z) = Operate32 op x (source_but x (known y) y) (right_but x (takes32 op) known z)
rewritten known (Load op x y offset) = Load op x (source (known y) y) offset
rewritten known (Store op y offset x) = Store op (source (known y) y) offset (source (known x) x)
rewritten known (Branch op y z past) = branch_on op (known y) y past (right_source known z)
rewritten known (JumpForward past) = JumpForward past
rewritten known (JumpBack back) = JumpBack back
rewritten known Turn = Turn
rewritten known (Call f first x) = Call f first x
rewritten known (CallAddress y first n x r) = CallAddress (source (known y) y) first n x r
rewritten known (Return y) = Return y
rewritten known (Get x) = Get x
rewritten known (Put x) = Put (source (known x) x)
rewritten known (Exit x) = Exit (source (known x) x)
rewritten known (End e) = End e
rewritten known (Charged x) = Charged x

-- ---- programs

-- some instructions of a body, the first of which stands at a place
unfoldable pub rewritten_from : (body : List FlatInstruction) → (place : ℕ) → List FlatInstruction
    → List FlatInstruction
rewritten_from body pc [] = []
rewritten_from body pc (i ∷ is) = rewritten (known_at body pc) i ∷ rewritten_from body (pc + 1) is

abbrev pub propagated_function : FlatFunction → FlatFunction
propagated_function f = record f { body = rewritten_from f.body 0 f.body }

unfoldable pub propagated : FlatProgram → FlatProgram
propagated p = record p { functions = map propagated_function p.functions }
