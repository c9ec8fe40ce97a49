-- What an instruction reads and makes, and where it leads.
use Rattle.std.specs.Prelude.{◌≡◌, ℕ, ◌+◌, ◌-◌, ◌⊎◌, Bool, ◌&&◌, ◌||◌, nat_le, nat_lt, Option, Some, None}
use Rattle.flat_code.specs.declared.instruction.RightOperand.{RightOperand}
use Rattle.flat_code.specs.declared.instruction.RightOperand.TheVariants.{Register, Number}
use Rattle.flat_code.specs.declared.instruction.FlatInstruction.{FlatInstruction}
use Rattle.flat_code.specs.declared.instruction.FlatInstruction.TheVariants.{Constant, Move, Operate, Operate32}
use Rattle.flat_code.specs.declared.instruction.FlatInstruction.TheVariants.{Load, Store, Branch, JumpForward}
use Rattle.flat_code.specs.declared.instruction.FlatInstruction.TheVariants.{JumpBack, Turn, Call, CallAddress}
use Rattle.flat_code.specs.declared.instruction.FlatInstruction.TheVariants.{Return, Get, Put, Exit, End, Charged}
use Rattle.flat_code.specs.declared.function.FlatProgram.{FlatProgram}
use Rattle.flat_code.specs.Calls.{function_in}
use Rattle.flat_code.specs.Meaning.{parameters_of, results_of}
use Rattle.reg_plan.specs.declared.effects.Span.{Span}
use Rattle.reg_plan.specs.declared.effects.Reads.{Reads}

-- whether a virtual register is among so many from one on
abbrev pub is_among : Span → ℕ → Bool
is_among s y = nat_le s.first y && nat_lt y (s.first + s.count)

abbrev pub one : ℕ → Span
one x = record { first = x; count = 1 }

abbrev pub none : Span
none = record { first = 0; count = 0 }

abbrev pub many : (first count : ℕ) → Span
many x n = record { first = x; count = n }

abbrev pub two : (left right : Span) → Reads
two l r = record { left = l; right = r; others = none }

abbrev pub operand : RightOperand → Span
operand (Register x) = one x
operand (Number n) = none

-- what an instruction of a function reads; a call reads its arguments, a return the results
abbrev pub read_by : FlatProgram → (function : ℕ) → FlatInstruction → Reads
read_by p f (Constant x n) = two none none
read_by p f (Move x y) = two (one y) none
read_by p f (Operate op x y z) = two (one y) (operand z)
read_by p f (Operate32 op x y z) = two (one y) (operand z)
read_by p f (Load op x y offset) = two (one y) none
read_by p f (Store op y offset x) = two (one y) (one x)
read_by p f (Branch op y z past) = two (one y) (operand z)
read_by p f (JumpForward past) = two none none
read_by p f (JumpBack back) = two none none
read_by p f Turn = two none none
read_by p f (Call g first x) = record
    { left = none; right = none; others = many first (parameters_of (function_in p g)) }
read_by p f (CallAddress y first n x r) = record { left = one y; right = none; others = many first n }
read_by p f (Return y) = record { left = none; right = none; others = many y (results_of (function_in p f)) }
read_by p f (Get x) = two none none
read_by p f (Put x) = two (one x) none
read_by p f (Exit x) = two (one x) none
read_by p f (End e) = two none none
read_by p f (Charged x) = two none none

abbrev pub is_read : Reads → ℕ → Bool
is_read r y = is_among r.left y || (is_among r.right y || is_among r.others y)

-- what it makes; a call makes the results of the callee
abbrev pub made_by : FlatProgram → FlatInstruction → Span
made_by p (Constant x n) = one x
made_by p (Move x y) = one x
made_by p (Operate op x y z) = one x
made_by p (Operate32 op x y z) = one x
made_by p (Load op x y offset) = one x
made_by p (Store op y offset x) = none
made_by p (Branch op y z past) = none
made_by p (JumpForward past) = none
made_by p (JumpBack back) = none
made_by p Turn = none
made_by p (Call g first x) = many x (results_of (function_in p g))
made_by p (CallAddress y first n x r) = many x r
made_by p (Return y) = none
made_by p (Get x) = one x
made_by p (Put x) = none
made_by p (Exit x) = none
made_by p (End e) = none
made_by p (Charged x) = one x

-- the virtual register that is all an instruction changes, if it changes no more than one: nothing is done for it where
-- that is not needed
abbrev pub makes_only : FlatInstruction → Option ℕ
makes_only (Constant x n) = Some x
makes_only (Move x y) = Some x
makes_only (Operate op x y z) = Some x
makes_only (Operate32 op x y z) = Some x
makes_only (Charged x) = Some x
makes_only i = None

abbrev pub unless_only : Option ℕ → Span → Span
unless_only (Some x) s = none
unless_only None s = s

-- what it makes whether or not that is needed
abbrev pub always_made_by : FlatProgram → FlatInstruction → Span
always_made_by p i = unless_only (makes_only i) (made_by p i)

-- where it leads within its function: to the next instruction or where it jumps
abbrev pub next_of : FlatInstruction → (place : ℕ) → Option ℕ
next_of (Constant x n) pc = Some (pc + 1)
next_of (Move x y) pc = Some (pc + 1)
next_of (Operate op x y z) pc = Some (pc + 1)
next_of (Operate32 op x y z) pc = Some (pc + 1)
next_of (Load op x y offset) pc = Some (pc + 1)
next_of (Store op y offset x) pc = Some (pc + 1)
next_of (Branch op y z past) pc = Some (pc + 1)
next_of (JumpForward past) pc = Some (pc + 1 + past)
next_of (JumpBack back) pc = Some (pc - back)
next_of Turn pc = Some (pc + 1)
next_of (Call g first x) pc = Some (pc + 1)
next_of (CallAddress y first n x r) pc = Some (pc + 1)
next_of (Return y) pc = None
next_of (Get x) pc = Some (pc + 1)
next_of (Put x) pc = Some (pc + 1)
next_of (Exit x) pc = None
next_of (End e) pc = None
next_of (Charged x) pc = Some (pc + 1)

-- and where a branch leads if it is taken
abbrev pub taken_of : FlatInstruction → (place : ℕ) → Option ℕ
taken_of (Branch op y z past) pc = Some (pc + 1 + past)
taken_of i pc = None

abbrev pub Leads : FlatInstruction → (place to : ℕ) → Type 0
Leads i pc q = (next_of i pc ≡ Some q) ⊎ (taken_of i pc ≡ Some q)
