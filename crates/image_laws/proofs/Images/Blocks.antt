-- The blocks of an expansion are of such instructions.
use Rattle.std.proofs.Common.{ℕ, zero, suc, ◌+◌, ◌-◌, ◌^◌, ◌<◌, ◌≤◌, Bool, true, false, nat_lt, List, [], ◌∷◌}
use Rattle.std.proofs.Common.{◌++◌, arith}
use Rattle.std.specs.Prelude.{if◌then◌else◌}
use Rattle.sb_base.specs.declared.ending.Ending.TheVariants.{Abort as AbortAt}
use Rattle.addr_map.specs.Places.{MapSizes}
use Rattle.obj_memory.specs.declared.int_type.IntType.{IntType}
use Rattle.obj_memory.specs.declared.int_type.IntType.TheVariants.{UnsignedChar}
use Rattle.obj_memory.specs.declared.value.Scalar.{Scalar}
use Rattle.obj_memory.specs.declared.value.Scalar.TheVariants.{Integer, Pointer}
use Rattle.c_tree.specs.declared.expression.Kind.{Kind}
use Rattle.c_tree.specs.declared.expression.Kind.TheVariants.{Void, Scalar as OfScalar, Structure, Array}
use Rattle.c_tree.specs.declared.expression.Update.{Update}
use Rattle.c_tree.specs.declared.expression.Update.TheVariants.{Arithmetic, Forward, Back}
use Rattle.c_tree.specs.declared.expression.Fixity.{Fixity}
use Rattle.c_tree.specs.declared.expression.Fixity.TheVariants.{Prefix, Postfix}
use Rattle.c_tree.specs.declared.expression.Routine.{Routine}
use Rattle.c_tree.specs.declared.expression.Routine.TheVariants as routine
use Rattle.c_tree.specs.declared.program.Variable.{Variable}
use Rattle.tac_ir.specs.declared.instruction.RightOperand.{RightOperand}
use Rattle.tac_ir.specs.declared.instruction.RightOperand.TheVariants.{Temporary, One}
use Rattle.tac_ir.specs.declared.instruction.Instruction.{Instruction}
use Rattle.tac_ir.specs.declared.instruction.Instruction.TheVariants as tac
use Rattle.tac_ir.specs.declared.function.CodeFunction.{CodeFunction}
use Rattle.tac_ir.specs.declared.function.Tac.{Tac}
use Rattle.tac_ir.specs.Meaning.{function_in}
use Rattle.flat_code.specs.declared.instruction.FlatInstruction.TheVariants as flat
use Rattle.metadata_plan.specs.Registers.{words_of, first_free, variable_register, temporary_register}
use Rattle.metadata_plan.specs.Part.{takes}
use Rattle.metadata_plan.specs.Blocks.{conversion, right_code, right_register, kept_by, update_code, library_code}
use Rattle.metadata_plan.specs.Blocks.{call_tests, argument_moves, call_code, block, zeros, zero_variables, room_in}
use Rattle.metadata_plan.specs.Laid.{jump, jump_unless, jumps, falls}
use Rattle.metadata_plan.specs.OperatorLists.Operators.{operators}
use Rattle.metadata_expansion.specs.Numbers.{word_in, line_in}
use Rattle.image_laws.proofs.Images.Instructions.{AreFit, fit_append, fit_if, stack_fit, abort_fit, short}
use Rattle.image_laws.proofs.Images.Instructions.{constant_fit, conversion_fit, unary_fit, binary_fit}

-- ---- parts of blocks

kind_fit : (k : Kind) (x y s : ℕ) → AreFit (conversion operators k x y s)
kind_fit Void x y s = (short 0 (omega arith), tt)
kind_fit (OfScalar (Integer t)) x y s = conversion_fit t x y
kind_fit (OfScalar Pointer) x y s = (short 0 (omega arith), tt)
kind_fit (Structure n) x y s = (short 0 (omega arith), tt)
kind_fit (Array n) x y s = (short 0 (omega arith), tt)

right_fit : (right : RightOperand) (r : ℕ) → AreFit (right_code right r)
right_fit (Temporary b) r = tt
right_fit One r = (short 1 (omega arith), tt)

kept_fit : (f : Fixity) (t : IntType) (x d n s : ℕ) → AreFit (kept_by operators f t x d n s)
kept_fit Prefix t x d n s = fit_append (operators.convert t x n s) (flat.Move d x ∷ []) (conversion_fit t x n) (tt, tt)
kept_fit Postfix t x d n s = (tt, conversion_fit t x n)

update_fit : (c : CodeFunction) (w : Update) (k : Scalar) (f : Fixity) (line d x : ℕ) (right : RightOperand)
    → line < 2 ^ 32 → AreFit (update_code operators c w k f line d x right)
update_fit c (Arithmetic op t) (Integer k) f line d x right low =
    let s = first_free c in
    let v = variable_register c x in
    fit_append (operators.convert t s v (s + 2)) _ (conversion_fit t s v)
    (fit_append (right_code right (s + 1)) _ (right_fit right (s + 1))
    (fit_append (operators.binary op t s s (right_register c right (s + 1)) (s + 2) line) _
    (binary_fit op t line s s (right_register c right (s + 1)) (s + 2) low)
    (kept_fit f k v (temporary_register c d) s (s + 2))))
update_fit c (Arithmetic op t) Pointer f line d x right low = tt
update_fit c (Forward size) k f line d x right low = tt
update_fit c (Back size) k f line d x right low = tt

library_fit : (r : Routine) (line d s : ℕ) → line < 2 ^ 32 → AreFit (library_code operators r line d s)
library_fit routine.Putchar line d s low = (tt, conversion_fit UnsignedChar d d)
library_fit routine.Getchar line d s low = (tt, tt)
library_fit routine.Exit line d s low = (tt, tt)
library_fit routine.Abort line d s low = (abort_fit line low, tt)
library_fit _ line d s low = tt

tests_fit : (m : MapSizes) (room line s : ℕ) → m.budgets.calls ≤ 16777216 → line < 2 ^ 32
    → AreFit (call_tests m room line s)
tests_fit m room line s few low =
    (tt, (tt, (short (m.budgets.calls + 1 - room) (omega arith), (stack_fit line low, tt))))

moves_fit : (c : CodeFunction) (r d n : ℕ) → AreFit (argument_moves c r d n)
moves_fit c r d zero = tt
moves_fit c r d (suc n) = (tt, moves_fit c (r + 1) (d + 1) n)

call_fit : (m : MapSizes) (t : Tac) (c : CodeFunction) (f line d n : ℕ) → m.budgets.calls ≤ 16777216 → line < 2 ^ 32
    → AreFit (call_code m t c f line d n)
call_fit m t c f line d n few low =
    let s = first_free c in
    fit_append (call_tests m (room_in (function_in t f)) line s)
    (argument_moves c s d n ++ (flat.Call f s (temporary_register c d) ∷ []))
    (tests_fit m (room_in (function_in t f)) line s few low)
    (fit_append (argument_moves c s d n) (flat.Call f s (temporary_register c d) ∷ []) (moves_fit c s d n) (tt, tt))

-- ---- blocks

pub block_fit : (m : MapSizes) (t : Tac) (c : CodeFunction) (i : Instruction) → m.budgets.calls ≤ 16777216
    → word_in i < 2 ^ 64 → line_in i < 2 ^ 32 → AreFit (block operators m t c i)
block_fit m t c (tac.Constant d w next) few word low = constant_fit (temporary_register c d) w word
block_fit m t c (tac.GetPlain d x next) few word low = (tt, tt)
block_fit m t c (tac.SetPlain x a next) few word low = (tt, tt)
block_fit m t c (tac.UpdatePlain w k f line d x right next) few word low = update_fit c w k f line d x right low
block_fit m t c (tac.ZeroOf kind d next) few word low = (short 0 (omega arith), tt)
block_fit m t c (tac.Convert kind d a next) few word low =
    kind_fit kind (temporary_register c d) (temporary_register c a) (first_free c)
block_fit m t c (tac.Unary op ty d a next) few word low =
    unary_fit op ty (temporary_register c d) (temporary_register c a) (first_free c)
block_fit m t c (tac.Binary op ty line d a b next) few word low =
    binary_fit op ty line (temporary_register c d) (temporary_register c a) (temporary_register c b) (first_free c)
    low
block_fit m t c (tac.Branch a x y) few word low = (short 0 (omega arith), tt)
block_fit m t c (tac.Case a w x y) few word low =
    fit_append (operators.constant (first_free c) w (first_free c + 1)) _ (constant_fit (first_free c) w word) (tt, tt)
block_fit m t c (tac.Turn counted next) few word low = (tt, tt)
block_fit m t c (tac.Library r line d n next) few word low =
    library_fit r line (temporary_register c d) (first_free c) low
block_fit m t c (tac.Call f line d n next) few word low =
    fit_if (takes (function_in t f) n) (call_code m t c f line d n) (flat.End (AbortAt line) ∷ [])
    (call_fit m t c f line d n few low) (abort_fit line low, tt)
block_fit m t c (tac.Return a) few word low = (tt, tt)
block_fit m t c _ few word low = (abort_fit 1 (omega arith), tt)

-- ---- what stands between blocks

zeros_fit : (r n : ℕ) → AreFit (zeros r n)
zeros_fit r zero = tt
zeros_fit r (suc n) = (short 0 (omega arith), zeros_fit (r + 1) n)

pub zero_variables_fit : (r : ℕ) (vs : List Variable) → AreFit (zero_variables r vs)
zero_variables_fit r [] = tt
zero_variables_fit r (v ∷ vs) =
    fit_append (if v.is_object then [] else zeros r (words_of v.kind)) (zero_variables (r + words_of v.kind) vs)
    (fit_if v.is_object [] (zeros r (words_of v.kind)) tt (zeros_fit r (words_of v.kind)))
    (zero_variables_fit (r + words_of v.kind) vs)

pub jump_fit : (p q : ℕ) → AreFit (jump p q ∷ [])
jump_fit p q = by (nat_lt p q)
  where
    by : (b : Bool) → AreFit ((if b then flat.JumpForward (q - (p + 1)) else flat.JumpBack (p - q)) ∷ [])
    by true = (tt, tt)
    by false = (tt, tt)

pub jumps_fit : (c : CodeFunction) (address : ℕ → ℕ) (n pc : ℕ) (ns : List ℕ) → AreFit (jumps c address n pc ns)
jumps_fit c address n pc [] = tt
jumps_fit c address n pc (x ∷ []) = fit_if (falls c n x) [] (jump pc (address x) ∷ []) tt (jump_fit pc (address x))
jumps_fit c address n pc (x ∷ y ∷ ns) =
    fit_append (jump pc (address y) ∷ []) (jump_unless (falls c n x) (pc + 1) (address x)) (jump_fit pc (address y))
    (fit_if (falls c n x) [] (jump (pc + 1) (address x) ∷ []) tt (jump_fit (pc + 1) (address x)))
