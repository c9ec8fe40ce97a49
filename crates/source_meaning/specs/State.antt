-- The state of a run, and runs that give a value, end or pause. Three-address code has the same state.
use Rattle.std.specs.Prelude.{ℕ, ◌+◌, Bool, true, false, List, Option}
use Rattle.behaviours.specs.Shown.{Access}
use Rattle.sb_base.specs.declared.ending.Ending.{Ending}
use Rattle.addr_map.specs.Places.{MapSizes}
use Rattle.obj_memory.specs.declared.value.Value.{Value}
use Rattle.obj_memory.specs.Objects.{ObjectState, Objects}
use Rattle.c_tree.specs.declared.expression.Kind.{Kind}
use Rattle.c_tree.specs.declared.program.Variable.{Variable}

-- where a variable of the function that runs is kept: in no object, where it is a plain variable or its block is not
-- entered, or in the object with a number
pub data Home : Type 0 where
  NoObject : Home
  InObject : (object : ℕ) → Home

-- The objects, the homes of the variables of the function that runs and the plain values of these variables, the rest
-- of the input and how many bytes were taken of it, the output, the accesses in order, the work done, the turns begun;
-- and of the budgets the bytes that calls are charged with, the first address behind the objects of all calls, and the
-- keys made.
pub record State : Type 0 where
  pub objects : Objects
  pub frame : List Home
  pub plain : List Value
  pub input : List ℕ
  pub taken : ℕ
  pub output : List ℕ
  pub accesses : List Access
  pub work : ℕ
  pub turns : ℕ
  pub charged : ℕ
  pub stacked : ℕ
  pub keys : ℕ

-- what comes of a run: a value and the state after it, an ending, or that no turn is left for it to go on
pub data Outcome (A : Type 0) : Type 0 where
  Gives : A → State → Outcome A
  Ended : Ending → State → Outcome A
  Paused : State → Outcome A

abbrev pub Run : Type 0 → Type 0
Run A = State → Outcome A

-- what follows where a run gave a value
abbrev pub on : {A B : Type 0} → Outcome A → (A → Run B) → Outcome B
on (Gives a s) next = next a s
on (Ended e s) next = Ended e s
on (Paused s) next = Paused s

-- one run after another, that is given the value of the first, or is not
infixl 1 ◌>>=◌
abbrev pub ◌>>=◌ : {A B : Type 0} → Run A → (A → Run B) → Run B
◌>>=◌ first next = λ s. on (first s) next

infixl 1 ◌>>◌
abbrev pub ◌>>◌ : {A B : Type 0} → Run A → Run B → Run B
◌>>◌ first second = λ s. on (first s) (λ _. second)

abbrev pub done : {A : Type 0} → A → Run A
done a = λ s. Gives a s

abbrev pub stop : {A : Type 0} → Ending → Run A
stop e = λ s. Ended e s

abbrev pub pause : {A : Type 0} → Run A
pause = λ s. Paused s

-- one of two runs
abbrev pub choose : {A : Type 0} → Bool → Run A → Run A → Run A
choose true a b = a
choose false a b = b

abbrev pub read_state : {A : Type 0} → (State → A) → Run A
read_state f = λ s. Gives (f s) s

abbrev pub change : (State → State) → Run (Unit {0})
change f = λ s. Gives tt (f s)

-- nothing is done
abbrev pub skip : Run (Unit {0})
skip = λ s. Gives tt s

-- some work is done
abbrev pub tally : ℕ → Run (Unit {0})
tally n = change (λ s. record s { work = s.work + n })

-- what an expression gives: its value, and the contents of a structure or union that stands for no place, of which the
-- value is then an offset
pub record Rvalue : Type 0 where
  pub value : Value
  pub contents : Option ObjectState

-- what is known of a function without its body: the line of its name, its type, its parameters and its other variables,
-- those of which the body's block enters, and the bytes of the budget `calls` that a call of it takes
pub record Header : Type 0 where
  pub line : ℕ
  pub type_number : ℕ
  pub parameters : List Variable
  pub variables : List Variable
  pub entered : List Variable
  pub room : ℕ

-- what a run stands on: the functions of its program, what the functions of each type give, and the sizes of its
-- memory, with the budgets
pub record Setting : Type 0 where
  pub functions : List Header
  pub results : List Kind
  pub sizes : MapSizes

-- what every part of a run may look at: its setting, the variables of the function that runs, the limit of turns, how
-- many turns of a loop may follow one another, and what a call of a function does with its arguments at a line
pub record Env : Type 0 where
  pub setting : Setting
  pub variables : List Variable
  pub limit : ℕ
  pub depth : ℕ
  pub call : (function : ℕ) → List Rvalue → (line : ℕ) → Run Rvalue
