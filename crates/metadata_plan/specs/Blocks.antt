-- The flat code of each instruction of three-address code, as far as integers go.
use Rattle.std.specs.Prelude.{ℕ, zero, suc, ◌+◌, ◌-◌, List, [], ◌∷◌, ◌++◌, Option, Some, None, if◌then◌else◌}
use Rattle.sb_base.specs.declared.ending.Ending.TheVariants.{Stack, Abort as AbortAt}
use Rattle.addr_map.specs.Places.{MapSizes}
use Rattle.obj_memory.specs.declared.int_type.IntType.{IntType}
use Rattle.obj_memory.specs.declared.int_type.IntType.TheVariants.{UnsignedChar}
use Rattle.obj_memory.specs.declared.value.Scalar.{Scalar}
use Rattle.obj_memory.specs.declared.value.Scalar.TheVariants.{Integer}
use Rattle.c_tree.specs.declared.expression.Kind.{Kind}
use Rattle.c_tree.specs.declared.expression.Kind.TheVariants.{Scalar as OfScalar}
use Rattle.c_tree.specs.declared.expression.Update.{Update}
use Rattle.c_tree.specs.declared.expression.Update.TheVariants.{Arithmetic}
use Rattle.c_tree.specs.declared.expression.Fixity.{Fixity}
use Rattle.c_tree.specs.declared.expression.Fixity.TheVariants.{Prefix, Postfix}
use Rattle.c_tree.specs.declared.expression.Routine.{Routine}
use Rattle.c_tree.specs.declared.expression.Routine.TheVariants.{Putchar, Getchar, Exit as ExitRoutine, Abort}
use Rattle.tac_ir.specs.declared.instruction.RightOperand.{RightOperand}
use Rattle.tac_ir.specs.declared.instruction.RightOperand.TheVariants.{Temporary, One}
use Rattle.tac_ir.specs.declared.instruction.Instruction.{Instruction}
use Rattle.tac_ir.specs.declared.instruction.Instruction.TheVariants as tac
use Rattle.tac_ir.specs.declared.function.CodeFunction.{CodeFunction}
use Rattle.tac_ir.specs.declared.function.Tac.{Tac}
use Rattle.tac_ir.specs.Meaning.{function_in, line_in}
use Rattle.rv_isa.specs.declared.instruction.BranchOp.TheVariants.{Beq, Bne, Bltu}
use Rattle.flat_code.specs.declared.instruction.RightOperand.TheVariants.{Register, Number}
use Rattle.flat_code.specs.declared.instruction.FlatInstruction.{FlatInstruction}
use Rattle.flat_code.specs.declared.instruction.FlatInstruction.TheVariants.{Constant, Move, Branch, Turn, Call}
use Rattle.flat_code.specs.declared.instruction.FlatInstruction.TheVariants.{Return, Get, Put, Exit, End, Charged}
use Rattle.c_tree.specs.declared.program.Variable.{Variable}
use Rattle.metadata_plan.specs.Registers.{words_of, words_in, variable_register, temporary_register, first_free}
use Rattle.metadata_plan.specs.Part.{takes}
use Rattle.metadata_plan.specs.Operators.{OperatorCode}

-- a value converted to a kind; one of void has a word of 0
abbrev pub conversion : OperatorCode → Kind → (into from scratch : ℕ) → List FlatInstruction
conversion o (OfScalar (Integer t)) x y s = o.convert t x y s
conversion o _ x y s = Constant x 0 ∷ []

-- the right operand of an update: 1 is put into a register
abbrev pub right_code : RightOperand → (register : ℕ) → List FlatInstruction
right_code (Temporary b) r = []
right_code One r = Constant r 1 ∷ []

abbrev pub right_register : CodeFunction → RightOperand → (register : ℕ) → ℕ
right_register c (Temporary b) r = temporary_register c b
right_register c One r = r

-- the new value goes to the variable, as its type has it, and the old or the new one to the result
abbrev pub kept_by : OperatorCode → Fixity → IntType → (variable result new scratch : ℕ) → List FlatInstruction
kept_by o Prefix t x d n s = o.convert t x n s ++ (Move d x ∷ [])
kept_by o Postfix t x d n s = Move d x ∷ o.convert t x n s

abbrev pub update_code : OperatorCode → CodeFunction → Update → Scalar → Fixity → (line into variable : ℕ)
    → RightOperand → List FlatInstruction
update_code o c (Arithmetic op t) (Integer k) f line d x right =
    let s = first_free c in
    o.convert t s (variable_register c x) (s + 2)
    ++ (right_code right (s + 1)
    ++ (o.binary op t s s (right_register c right (s + 1)) (s + 2) line
    ++ kept_by o f k (variable_register c x) (temporary_register c d) s (s + 2)))
update_code o c w k f line d x right = []

-- a routine of the library: its argument stands in the register that gets the result
abbrev pub library_code : OperatorCode → Routine → (line register scratch : ℕ) → List FlatInstruction
library_code o Putchar line d s = Put d ∷ o.convert UnsignedChar d d s
library_code o Getchar line d s = Get d ∷ []
library_code o ExitRoutine line d s = Exit d ∷ []
library_code o Abort line d s = End (AbortAt line) ∷ []
library_code o _ line d s = []

-- A call begins a turn. Where the activation record of the function no longer fits into the budget, the run ends.
abbrev pub call_tests : MapSizes → (room line scratch : ℕ) → List FlatInstruction
call_tests m room line s =
    Turn ∷ Charged s ∷ Branch Bltu s (Number (m.budgets.calls + 1 - room)) 1 ∷ End (Stack line) ∷ []

-- arguments from a temporary on go to consecutive registers
abbrev pub argument_moves : CodeFunction → (register temporary count : ℕ) → List FlatInstruction
argument_moves c r d zero = []
argument_moves c r d (suc n) = Move r (temporary_register c d) ∷ argument_moves c (r + 1) (d + 1) n

abbrev pub room_in : Option CodeFunction → ℕ
room_in None = 0
room_in (Some c) = c.room

abbrev pub call_code : MapSizes → Tac → CodeFunction → (function line first count : ℕ) → List FlatInstruction
call_code m t c f line d n =
    let s = first_free c in
    call_tests m (room_in (function_in t f)) line s
    ++ (argument_moves c s d n ++ (Call f s (temporary_register c d) ∷ []))

-- An instruction that is not covered is never reached, and no call that hands over another number of arguments than its
-- callee takes: their blocks end the run, so that code never falls through them.
abbrev pub block : OperatorCode → MapSizes → Tac → CodeFunction → Instruction → List FlatInstruction
block o m t c (tac.Constant d w next) = o.constant (temporary_register c d) w (first_free c)
block o m t c (tac.GetPlain d x next) = Move (temporary_register c d) (variable_register c x) ∷ []
block o m t c (tac.SetPlain x a next) = Move (variable_register c x) (temporary_register c a) ∷ []
block o m t c (tac.UpdatePlain w k f line d x right next) = update_code o c w k f line d x right
block o m t c (tac.ZeroOf kind d next) = Constant (temporary_register c d) 0 ∷ []
block o m t c (tac.Convert kind d a next) =
    conversion o kind (temporary_register c d) (temporary_register c a) (first_free c)
block o m t c (tac.Unary op ty d a next) =
    o.unary op ty (temporary_register c d) (temporary_register c a) (first_free c)
block o m t c (tac.Binary op ty line d a b next) =
    o.binary op ty (temporary_register c d) (temporary_register c a) (temporary_register c b) (first_free c) line
block o m t c (tac.Branch a x y) = Branch Bne (temporary_register c a) (Number 0) 1 ∷ []
block o m t c (tac.Case a w x y) =
    o.constant (first_free c) w (first_free c + 1)
    ++ (Branch Beq (temporary_register c a) (Register (first_free c)) 1 ∷ [])
block o m t c (tac.Turn counted next) = Turn ∷ []
block o m t c (tac.Library r line d n next) = library_code o r line (temporary_register c d) (first_free c)
block o m t c (tac.Call f line d n next) =
    if takes (function_in t f) n then call_code m t c f line d n else End (AbortAt line) ∷ []
block o m t c (tac.Return a) = Return (temporary_register c a) ∷ []
block o m t c _ = End (AbortAt 1) ∷ []

-- so many registers become 0
abbrev pub zeros : (register count : ℕ) → List FlatInstruction
zeros r zero = []
zeros r (suc n) = Constant r 0 ∷ zeros (r + 1) n

-- the registers of plain variables become 0
abbrev pub zero_variables : (register : ℕ) → List Variable → List FlatInstruction
zero_variables r [] = []
zero_variables r (v ∷ vs) =
    (if v.is_object then [] else zeros r (words_of v.kind)) ++ zero_variables (r + words_of v.kind) vs

-- A function begins with this: every plain variable but a parameter is 0, so that no value but an argument is needed
-- where it is entered.
abbrev pub prologue : CodeFunction → List FlatInstruction
prologue c = zero_variables (words_in c.parameters) c.variables

-- Where a run begins: `main` is called at the line of its name, and its result is the status. Two turns stand before
-- that of the call, for what the machine does before its first instruction here.
abbrev pub entry_code : MapSizes → Tac → List FlatInstruction
entry_code m t =
    Turn ∷ Turn
    ∷ call_tests m (room_in (function_in t t.main)) (line_in (function_in t t.main)) 0
    ++ (Call t.main 0 0 ∷ Exit 0 ∷ [])
