-- The programs in three-address code that have integers alone: no objects, pointers or structures, and of the library
-- `putchar`, `getchar`, `exit` and `abort`.
use Rattle.std.specs.Prelude.{◌≡◌, zero, suc, slice_get}
use Rattle.std.specs.Prelude.{ℕ, ◌^◌, Bool, true, false, not, ◌&&◌, ◌==◌, nat_lt, List, [], ◌∷◌, length}
use Rattle.std.specs.Prelude.{Option, Some, None}
use Rattle.obj_memory.specs.declared.operator.BinaryOperator.{BinaryOperator}
use Rattle.obj_memory.specs.declared.operator.BinaryOperator.TheVariants.{Add, Subtract}
use Rattle.obj_memory.specs.declared.value.Scalar.{Scalar}
use Rattle.obj_memory.specs.declared.value.Scalar.TheVariants.{Integer}
use Rattle.c_tree.specs.declared.expression.Kind.{Kind}
use Rattle.c_tree.specs.declared.expression.Kind.TheVariants.{Void, Scalar as OfScalar}
use Rattle.c_tree.specs.declared.expression.Update.{Update}
use Rattle.c_tree.specs.declared.expression.Update.TheVariants.{Arithmetic}
use Rattle.c_tree.specs.declared.expression.Routine.{Routine}
use Rattle.c_tree.specs.declared.expression.Routine.TheVariants.{Putchar, Getchar, Exit, Abort}
use Rattle.c_tree.specs.declared.program.Variable.{Variable}
use Rattle.tac_ir.specs.declared.instruction.RightOperand.{RightOperand}
use Rattle.tac_ir.specs.declared.instruction.RightOperand.TheVariants.{Temporary, One}
use Rattle.tac_ir.specs.declared.instruction.Instruction.{Instruction}
use Rattle.tac_ir.specs.declared.instruction.Instruction.TheVariants as tac
use Rattle.tac_ir.specs.declared.function.CodeFunction.{CodeFunction}
use Rattle.tac_ir.specs.declared.function.StaticData.{StaticData}
use Rattle.tac_ir.specs.declared.function.Tac.{Tac}
use Rattle.tac_ir.specs.Edges.{LeadsTo}
use Rattle.tac_ir.specs.Meaning.{function_in}
use Rattle.metadata_plan.specs.Registers.{all_variables}

abbrev pub is_word : ℕ → Bool
is_word w = nat_lt w (2 ^ 64)

abbrev pub is_integer_kind : Kind → Bool
is_integer_kind (OfScalar (Integer t)) = true
is_integer_kind _ = false

-- an integer, or no value
abbrev pub has_no_pointer : Kind → Bool
has_no_pointer Void = true
has_no_pointer (OfScalar (Integer t)) = true
has_no_pointer _ = false

-- integers that are no objects
abbrev pub are_integers : List Variable → Bool
are_integers [] = true
are_integers (v ∷ vs) = (not v.is_object && is_integer_kind v.kind) && are_integers vs

abbrev pub have_no_objects : List Variable → Bool
have_no_objects [] = true
have_no_objects (v ∷ vs) = not v.is_object && have_no_objects vs

-- `++` and `--` add 1 or take it away
abbrev pub is_by_one : BinaryOperator → Bool
is_by_one Add = true
is_by_one Subtract = true
is_by_one _ = false

abbrev pub is_right : BinaryOperator → RightOperand → Bool
is_right op (Temporary b) = true
is_right op One = is_by_one op

abbrev pub is_integer_update : Update → Scalar → RightOperand → Bool
is_integer_update (Arithmetic op t) (Integer k) right = is_right op right
is_integer_update w k right = false

-- a routine that has its arguments
abbrev pub is_integer_routine : Routine → (count : ℕ) → Bool
is_integer_routine Putchar n = n == 1
is_integer_routine Getchar n = true
is_integer_routine Exit n = n == 1
is_integer_routine Abort n = true
is_integer_routine _ n = false

-- a function that takes so many arguments
abbrev pub takes : Option CodeFunction → (count : ℕ) → Bool
takes None n = false
takes (Some c) n = length c.parameters == n

abbrev pub is_integer_instruction : Tac → (variables : ℕ) → Instruction → Bool
is_integer_instruction t k (tac.Constant d w next) = is_word w
is_integer_instruction t k (tac.GetPlain d x next) = nat_lt x k
is_integer_instruction t k (tac.SetPlain x a next) = nat_lt x k
is_integer_instruction t k (tac.UpdatePlain w scalar f line d x right next) =
    nat_lt x k && is_integer_update w scalar right
is_integer_instruction t k (tac.ZeroOf kind d next) = has_no_pointer kind
is_integer_instruction t k (tac.Convert kind d a next) = has_no_pointer kind
is_integer_instruction t k (tac.Unary op ty d a next) = true
is_integer_instruction t k (tac.Binary op ty line d a b next) = true
is_integer_instruction t k (tac.Branch a x y) = true
is_integer_instruction t k (tac.Case a w x y) = is_word w
is_integer_instruction t k (tac.Turn counted next) = true
is_integer_instruction t k (tac.Library r line d n next) = is_integer_routine r n
is_integer_instruction t k (tac.Call f line d n next) = takes (function_in t f) n
is_integer_instruction t k (tac.Return a) = true
is_integer_instruction t k _ = false

-- every instruction that a path of so many steps from a node comes to is such a one
unfoldable pub SafeWithin : (is_safe : Instruction → Bool) → List Instruction → (steps node : ℕ) → Type 0
SafeWithin is_safe code zero n = Unit {0}
SafeWithin is_safe code (suc k) n =
    (i : Instruction) × (slice_get code n ≡ Some i) × (is_safe i ≡ true)
    × ((m : ℕ) → LeadsTo i m → SafeWithin is_safe code k m)

-- from a node on a function has integers alone
abbrev pub IsSafeFrom : Tac → CodeFunction → (node : ℕ) → Type 0
IsSafeFrom t c n = (k : ℕ) → SafeWithin (is_integer_instruction t (length (all_variables c))) c.code k n

-- a function of integers: what no path from its entry reaches may be anything
pub record IsIntegerFunction (code : Tac) (function : CodeFunction) : Type 0 where
  pub variables : are_integers (all_variables function) ≡ true
  pub entered : have_no_objects function.entered ≡ true
  pub safe : IsSafeFrom code function function.entry

abbrev pub has_no_statics : List StaticData → Bool
has_no_statics [] = true
has_no_statics (d ∷ ds) = false

-- a program of integers; `main` is there and takes no arguments
pub record IsIntegerCode (code : Tac) : Type 0 where
  pub statics : has_no_statics code.statics ≡ true
  pub main : takes (function_in code code.main) 0 ≡ true
  pub functions : (u : ℕ) (c : CodeFunction) → slice_get code.functions u ≡ Some c → IsIntegerFunction code c
