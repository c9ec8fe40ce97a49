-- What is left to do, and what that means: each task by the definition of the part of the source that it stands for.
use Rattle.std.specs.Prelude.{ℕ, Bool, not, List, [], ◌∷◌, map, drop, Option, Some, None}
use Rattle.obj_memory.specs.Operators.{one_if}
use Rattle.c_tree.specs.Tree.{Expression, Expressions, Lvalue}
use Rattle.c_tree.specs.Statements.{Part, DeclaredVariable, Statement, Statements, SwitchItems}
use Rattle.source_meaning.specs.State.{Rvalue, Run, ◌>>=◌, ◌>>◌, done, choose, Env}
use Rattle.source_meaning.specs.Actions.{begin_turn, each_value, integer, is_zero}
use Rattle.source_meaning.specs.Structures.{give}
use Rattle.source_meaning.specs.Expressions.{callee, evaluate, place, values}
use Rattle.source_meaning.specs.Initializers.{initialize_all, store_parts}
use Rattle.source_meaning.specs.Statements.{Completion, Normal, after_body, each_of, execute, holds, in_order, items_of}
use Rattle.source_meaning.specs.Statements.{next_after, perform as find, run_labeled, run_switch, turns, turns_before}
use Rattle.source_meaning.specs.Calls.{first_of, rest_of}
use Rattle.interpreter_tasks.specs.Registers.{Course, Registers, env_at, top, below_top, popped, pushing, completing}
use Rattle.interpreter_tasks.specs.Actions.{Action, act, arguments}

-- what a loop with its condition before its body is made of
pub record Loop : Type 0 where
  pub condition : Option Expression
  pub body : Statement
  pub step : Option Expression

pub data Task : Type 0 where
  -- an action
  Do : Action → Task
  -- the value of an expression, the pointer that an lvalue means, the values of arguments
  Evaluate : Expression → Task
  Locate : Lvalue → Task
  Arguments : Expressions → Task
  -- the value of the first expression where the value on top is not zero, else of the second
  Choose : (first second : Expression) → Task
  -- the right operand of `&&` and of `||`, where it counts
  And : (right : Expression) → Task
  Or : (right : Expression) → Task
  -- a call with so many arguments, of a function, and of the one that the value below them points to
  Call : (function count line : ℕ) → Task
  CallThrough : (type_number count line : ℕ) → Task
  -- what declarations store; the parts of the object on top, which is let go behind them
  Initialize : List DeclaredVariable → Task
  StoreParts : List Part → Task
  -- a statement; statements, unless the one before them completed otherwise than by its end
  Execute : Statement → Task
  InOrder : Statements → Task
  -- one of two statements by the value on top
  Branch : Statement → (other : Option Statement) → Task
  -- at most n turns of a loop; one turn where the value on top is not zero, and what follows its body
  Turn : (n : ℕ) → Loop → Task
  Test : (n : ℕ) → Loop → Task
  After : (n : ℕ) → Loop → Task
  -- the same of a loop with its condition behind its body
  TurnBefore : (n : ℕ) → (condition : Expression) → (body : Statement) → Task
  AfterBefore : (n : ℕ) → (condition : Expression) → (body : Statement) → Task
  TestBefore : (n : ℕ) → (condition : Expression) → (body : Statement) → Task
  -- the items of a switch by the value on top; items, unless the one before them completed otherwise than by its end
  Select : SwitchItems → Task
  Items : SwitchItems → Task

-- values on others, the last one on top
abbrev pub all_pushed : List Rvalue → (below : List Rvalue) → List Rvalue
all_pushed [] below = below
all_pushed (v ∷ vs) below = all_pushed vs (v ∷ below)

-- whether the value on top is not zero
abbrev pub is_true : Registers → Bool
is_true r = not (is_zero (top r).value)

-- whether an operand is not zero, as an int
abbrev pub truth_of : Env → Expression → Run Rvalue
truth_of env e = do
  v ← evaluate env e
  give (integer (one_if (not (is_zero v.value))))

abbrev pub execute_any : Env → Option Statement → Run Completion
execute_any env None = done Normal
execute_any env (Some s) = execute env s

module _ (env : Env) (limit : ℕ) where
  -- n turns of a loop, what is left where its condition was found, and behind its body
  abbrev pub looping : (n : ℕ) → Loop → Run Completion
  looping n l = turns n limit (holds env l.condition) (execute env l.body) (find env l.step)

  abbrev pub looping_on : (n : ℕ) → Loop → Run Completion
  looping_on n l = do
    find env l.step
    looping n l

  abbrev pub looping_if : (n : ℕ) → Loop → (again : Bool) → Run Completion
  looping_if n l again = choose again (do
    begin_turn limit
    x ← execute env l.body
    after_body x (looping_on n l)) (done Normal)

  abbrev pub looping_before : (n : ℕ) → Expression → Statement → Run Completion
  looping_before n e body = turns_before n limit (holds env (Some e)) (execute env body)

  abbrev pub looping_before_if : (n : ℕ) → Expression → Statement → (again : Bool) → Run Completion
  looping_before_if n e body again = choose again (looping_before n e body) (done Normal)

  abbrev pub looping_before_on : (n : ℕ) → Expression → Statement → Run Completion
  looping_before_on n e body = do
    again ← holds env (Some e)
    looping_before_if n e body again

unfoldable pub perform : Course → Task → Registers → Run Registers
perform c (Do a) r = act c a r
perform c (Evaluate e) r = pushing r r.values (evaluate (env_at c r) e)
perform c (Locate p) r = pushing r r.values (place (env_at c r) p)
perform c (Arguments es) r = do
  vs ← each_value (values (env_at c r) es)
  done (record r { values = all_pushed vs r.values })
perform c (Choose a b) r =
    pushing r (below_top r) (choose (is_zero (top r).value) (evaluate (env_at c r) b) (evaluate (env_at c r) a))
perform c (And b) r =
    pushing r (below_top r) (choose (is_zero (top r).value) (give (integer 0)) (truth_of (env_at c r) b))
perform c (Or b) r =
    pushing r (below_top r) (choose (is_zero (top r).value) (truth_of (env_at c r) b) (give (integer 1)))
perform c (Call f n line) r = pushing r (drop n r.values) ((env_at c r).call f (arguments n r.values) line)
perform c (CallThrough t n line) r = pushing r (rest_of (drop n r.values)) (do
  f ← callee c.setting.functions t (first_of (drop n r.values)).value line
  (env_at c r).call f (arguments n r.values) line)
perform c (Initialize ds) r = do
  initialize_all (env_at c r) ds
  done r
perform c (StoreParts qs) r = do
  store_parts (env_at c r) (top r).value qs
  done (popped r)
perform c (Execute s) r = completing r (execute (env_at c r) s)
perform c (InOrder ss) r = completing r (next_after r.completion (in_order (each_of (env_at c r) ss)))
perform c (Branch s other) r =
    completing (popped r) (choose (is_true r) (execute (env_at c r) s) (execute_any (env_at c r) other))
perform c (Turn n l) r = completing r (looping (env_at c r) c.limit n l)
perform c (Test n l) r = completing (popped r) (looping_if (env_at c r) c.limit n l (is_true r))
perform c (After n l) r = completing r (after_body r.completion (looping_on (env_at c r) c.limit n l))
perform c (TurnBefore n e body) r = completing r (looping_before (env_at c r) c.limit n e body)
perform c (AfterBefore n e body) r =
    completing r (after_body r.completion (looping_before_on (env_at c r) c.limit n e body))
perform c (TestBefore n e body) r =
    completing (popped r) (looping_before_if (env_at c r) c.limit n e body (is_true r))
perform c (Select is) r = completing (popped r) (run_switch (top r).value.word (items_of (env_at c r) is))
perform c (Items is) r =
    completing r (next_after r.completion (in_order (map run_labeled (items_of (env_at c r) is))))

-- several tasks, the first one first
unfoldable pub rest : Course → List Task → Registers → Run Registers
rest c [] r = done r
rest c (t ∷ ts) r = do
  now ← perform c t r
  rest c ts now
