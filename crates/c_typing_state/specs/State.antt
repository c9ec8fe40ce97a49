-- What typing carries from token to token, and constructs that are typed one behind the other.
use Rattle.std.specs.Prelude.{◌≡◌, ℕ, Bool, List, map, Option, option_map, Result, Ok, Err}
use Rattle.c_tree.specs.declared.c_type.TypeWord.{TypeWord}
use Rattle.c_tree.specs.Extents.{TypeExtent}
use Rattle.c_faults.specs.declared.fault.Refusal.{Refusal}
use Rattle.c_faults.specs.Answer.{Answer, Fails, ◌>>=◌}
use Rattle.c_scope.specs.Environment.{Environment, environment_of}
use Rattle.c_typing_state.specs.declared.typer.Literal as code_literal
use Rattle.c_typing_state.specs.declared.typer.Typer as code

-- a string literal that is an object: its number among the static objects, the number of the function in whose block it
-- stands, if it stands in one, and its bytes with the final 0
pub record Literal : Type 0 where
  pub number : ℕ
  pub function : Option ℕ
  pub bytes : List ℕ

-- What stands for names; the types of functions through pointers to which there are calls, all different; which
-- variables of the function are objects since the text takes their addresses, where that is known, and which of them it
-- took so far; the line of the first use of a function that the file does not define; the string literals; and the
-- number of the function.
pub record State : Type 0 where
  pub environment : Environment
  pub function_types : List (List TypeWord)
  pub objects : Option (List Bool)
  pub taken : List Bool
  pub undefined : Option ℕ
  pub literals : List Literal
  pub function : Option ℕ

abbrev pub literal_of : code_literal.Literal → Literal
literal_of l = record { number = l.number; function = l.function; bytes = l.bytes.items }

abbrev pub state_of : code.Typer → State
state_of t = record {
  environment = environment_of t.environment;
  function_types = t.function_types.items;
  objects = option_map (λ v. v.items) t.objects;
  taken = t.taken.items;
  undefined = t.undefined;
  literals = map literal_of t.literals.items;
  function = t.function;
}

abbrev pub extents : State → List (Option TypeExtent)
extents s = s.environment.structures.extents

abbrev pub with_const : State → List Bool
with_const s = s.environment.structures.with_const

-- a construct is typed from a state on: what it is typed to and the state behind it, or its first violated rule
abbrev pub Typing : Type 0 → Type 0
Typing A = State → Answer (State × A)

infixl 10 ◌>>>◌
abbrev pub ◌>>>◌ : {A B : Type 0} → Typing A → (A → Typing B) → Typing B
(typed >>> next) s = typed s >>= λ r. next r.1 r.0

abbrev pub done : {A : Type 0} → A → Typing A
done x s = Ok (s, x)

-- what is judged in a state and leaves it
abbrev pub judged : {A : Type 0} → (State → Answer A) → Typing A
judged rule s = rule s >>= λ x. Ok (s, x)

-- what a call gives, seen by a view, and the state that it leaves; for want of memory nothing is claimed
abbrev pub Types : {A B : Type 0} → (view : A → B) → (new : State) → Result A Refusal → Answer (State × B) → Type 0
Types view new (Ok x) defined = defined ≡ Ok (new, view x)
Types view new (Err e) defined = Fails e defined

abbrev pub Becomes : {A : Type 0} → (new : State) → Result A Refusal → Answer State → Type 0
Becomes new (Ok x) defined = defined ≡ Ok new
Becomes new (Err e) defined = Fails e defined
