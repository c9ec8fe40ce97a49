-- What the typing of a file carries from token to token, beside what expressions and declarators need.
use Rattle.std.specs.Prelude.{ℕ, Bool, List, Option, Ok}
use Rattle.c_tree.specs.declared.c_type.TypeWord.{TypeWord}
use Rattle.c_tree.specs.declared.program.Variable.{Variable}
use Rattle.c_tree.specs.Programs.{StaticObject}
use Rattle.c_tree.specs.Statements.{Part, Statements}
use Rattle.c_faults.specs.Answer.{Answer, ◌>>=◌}
use Rattle.c_typing_state.specs.State.{State, Typing}

-- a function that is defined: the line of its name, its type, its parameters, its automatic variables and its block
pub record Definition : Type 0 where
  pub line : ℕ
  pub type : List TypeWord
  pub parameters : List Variable
  pub variables : List Variable
  pub body : Statements

-- The state of expressions and declarators; the automatic variables of the function so far; the static objects without
-- linkage, and the initializers of those with linkage, by their numbers; the functions that are defined, in order; for
-- each of them which variables are objects since the text takes their addresses, where that is known, and which of them
-- it took.
pub record File : Type 0 where
  pub state : State
  pub variables : List Variable
  pub statics : List (ℕ × StaticObject)
  pub initializers : List (ℕ × List Part)
  pub definitions : List Definition
  pub objects : Option (List (List Bool))
  pub taken : List (List Bool)

-- constructs that are typed one behind the other, in a file

abbrev pub FileTyping : Type 0 → Type 0
FileTyping A = File → Answer (File × A)

infixl 10 ◌~>◌
abbrev pub ◌~>◌ : {A B : Type 0} → FileTyping A → (A → FileTyping B) → FileTyping B
(typed ~> next) f = typed f >>= λ r. next r.1 r.0

abbrev pub finished : {A : Type 0} → A → FileTyping A
finished x f = Ok (f, x)

-- what is typed in the state of expressions and declarators
abbrev pub in_state : {A : Type 0} → Typing A → FileTyping A
in_state typed f = typed f.state >>= λ r. Ok (record f { state = r.0 }, r.1)
