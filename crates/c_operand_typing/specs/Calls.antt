-- Calls (C99 6.5.2.2), whose arguments are typed. A function that is called by its plain name is no value.
use Rattle.std.specs.Prelude.{ℕ, ◌+◌, Bool, if◌then◌else◌, nat_lt, List, [], ◌∷◌, ◌++◌, length}
use Rattle.std.specs.Prelude.{Option, Some, None, Ok}
use Rattle.c_tree.specs.declared.c_type.TypeWord.{TypeWord}
use Rattle.c_tree.specs.declared.expression.Routine.{Routine}
use Rattle.c_tree.specs.TypesAgree.{same_words}
use Rattle.c_faults.specs.Answer.{Answer, ◌>>=◌}
use Rattle.c_rules.specs.Values.{Value, value_of}
use Rattle.c_call_rules.specs.Calls.{Callee, called as called_rule, called_through, of_function, of_routine}
use Rattle.c_call_rules.specs.FunctionTypes.{callee_type}
use Rattle.c_call_rules.specs.Printing.{Format, formatted}
use Rattle.c_tree.specs.Routines.{routine_words}
use Rattle.c_place_rules.specs.Operands.{Operand}
use Rattle.c_scope.specs.declared.meaning.Designated.TheVariants as what
use Rattle.c_scope.specs.declared.meaning.LibraryFunction.{LibraryFunction}
use Rattle.c_scope.specs.declared.meaning.LibraryFunction.TheVariants as library
use Rattle.c_scope.specs.declared.meaning.Meaning.{Meaning}
use Rattle.c_scope.specs.declared.meaning.Meaning.TheVariants as meaning
use Rattle.c_scope.specs.Names.{Name}
use Rattle.c_scope.specs.Names as names
use Rattle.c_operand_typing.specs.declared.callee.Called as code
use Rattle.c_operand_typing.specs.Operators.{as_operand, value_among}
use Rattle.c_operand_typing.specs.Primaries.{meant, used_as}
use Rattle.c_typing_state.specs.State.{State, Typing, extents, judged}

-- what is called: a function of the source with its type, a routine of the library, `printf`, or what a value points to
pub data Called : Type 0 where
  a_function : (number : ℕ) → (type : List TypeWord) → Called
  a_routine : Routine → Called
  a_printf : Called
  a_pointer : Value → Called

abbrev pub called_of : code.Called → Called
called_of (code.TheVariants.Function n type) = a_function n type
called_of (code.TheVariants.Library r) = a_routine r
called_of code.TheVariants.Printf = a_printf
called_of (code.TheVariants.Pointer v) = a_pointer (value_of v)

abbrev pub pointer_called : Operand → State → Answer Called
pointer_called o s = value_among (extents s) o >>= λ v. Ok (a_pointer v)

abbrev pub library_called : LibraryFunction → Called
library_called (library.Routine r) = a_routine r
library_called library.Printf = a_printf

-- what the plain name before the `(` calls: a function of the source or of the library, or what its value points to

abbrev pub called_plainly : Option Meaning → Option Called
called_plainly (Some (meaning.Named (what.Function n) type)) = Some (a_function n type)
called_plainly (Some (meaning.Named (what.Library f) type)) = Some (library_called f)
called_plainly m = None

abbrev pub called_by_value : (is_evaluated : Bool) → (line : ℕ) → Option Meaning → State → Answer Called
called_by_value is_evaluated line m s = meant is_evaluated line m s >>= λ o. pointer_called o s

abbrev pub plainly_or : Option Called → Answer Called → Answer Called
plainly_or (Some c) other = Ok c
plainly_or None other = other

abbrev pub called_as : (is_evaluated : Bool) → (line : ℕ) → Option Meaning → Typing Called
called_as is_evaluated line m s =
    plainly_or (called_plainly m) (called_by_value is_evaluated line m s) >>=
    λ c. Ok (used_as is_evaluated line m s, c)

abbrev pub name_called : (is_evaluated : Bool) → Name → (line : ℕ) → Typing Called
name_called is_evaluated name line s = called_as is_evaluated line (names.meaning name s.environment.names) s

-- The number of a function type among those that are called through pointers: that of an equal one, or the next.

abbrev pub place_among : List TypeWord → List (List TypeWord) → ℕ
place_among type [] = 0
place_among type (t ∷ ts) = if same_words type t then 0 else place_among type ts + 1

-- with the types before it, where the type is none of them
abbrev pub with_type : List TypeWord → State → State
with_type type s =
    if nat_lt (place_among type s.function_types) (length s.function_types) then s
    else record s { function_types = s.function_types ++ type ∷ [] }

abbrev pub with_callee_type : Option (List TypeWord) → State → State
with_callee_type None s = s
with_callee_type (Some type) s = with_type type s

abbrev pub callee_number : Option (List TypeWord) → State → ℕ
callee_number None s = 0
callee_number (Some type) s = place_among type s.function_types

abbrev pub pointer_applied : (line : ℕ) → Value → List Value → Typing Operand
pointer_applied line v vs s =
    as_operand (called_through (extents s) line (callee_number (callee_type v.type) s) v vs) >>=
    λ o. Ok (with_callee_type (callee_type v.type) s, o)

abbrev pub plainly_applied : (line : ℕ) → Callee → (type : List TypeWord) → List Value → State → Answer Operand
plainly_applied line callee type vs s = as_operand (called_rule (extents s) line callee type vs)

abbrev pub printed : (line : ℕ) → Option Format → List Value → State → Answer Operand
printed line format vs s = as_operand (formatted (extents s) line format vs)

abbrev pub applied : (line : ℕ) → Called → List Value → Typing Operand
applied line (a_function n type) vs = judged (plainly_applied line (of_function n) type vs)
applied line (a_routine r) vs = judged (plainly_applied line (of_routine r) (routine_words r) vs)
applied line a_printf vs = judged (printed line None vs)
applied line (a_pointer v) vs = pointer_applied line v vs
