-- What a run by tasks holds beside its state.
use Rattle.std.specs.Prelude.{ℕ, List, [], ◌∷◌}
use Rattle.sb_base.specs.Budgets.{BudgetSizes}
use Rattle.c_tree.specs.Programs.{Function, Program}
use Rattle.c_tree.specs.Blocks.{all_of}
use Rattle.source_meaning.specs.State.{Rvalue, Run, ◌>>=◌, done, Setting, Env}
use Rattle.source_meaning.specs.Blocks.{Block}
use Rattle.source_meaning.specs.Statements.{Completion, Normal}
use Rattle.source_meaning.specs.Calls.{Caller, env_of, first_of, rest_of}
use Rattle.source_meaning.specs.Meaning.{setting_of}

-- what stays the same along a run: the functions of the program, what the run stands on, and the limit of turns
pub record Course : Type 0 where
  pub functions : List Function
  pub setting : Setting
  pub limit : ℕ

abbrev pub course_of : Program → BudgetSizes → (turns : ℕ) → Course
course_of p budgets turns = record { functions = p.functions; setting = setting_of p budgets; limit = turns }

-- the function that runs, and how deep calls in it may be nested
pub record Activation : Type 0 where
  pub function : Function
  pub left : ℕ

-- what a call returns to: what its caller gets back, how the caller's last statement completed, and its activation
pub record Waiting : Type 0 where
  pub caller : Caller
  pub completion : Completion
  pub activation : Activation

-- The values found so far, the last one first; how the last statement completed; the blocks that are entered, and the
-- calls that have not returned, each the innermost first; the activation.
pub record Registers : Type 0 where
  pub values : List Rvalue
  pub completion : Completion
  pub blocks : List Block
  pub waiting : List Waiting
  pub activation : Activation

-- what a part of the function that runs may look at
abbrev pub env_at : Course → Registers → Env
env_at c r = env_of c.functions c.setting c.limit r.activation.left (all_of r.activation.function)

-- the value found last, and the one before it
abbrev pub top : Registers → Rvalue
top r = first_of r.values

abbrev pub second : Registers → Rvalue
second r = first_of (rest_of r.values)

-- the values without the last one, and without the last two
abbrev pub below_top : Registers → List Rvalue
below_top r = rest_of r.values

abbrev pub below_second : Registers → List Rvalue
below_second r = rest_of (rest_of r.values)

abbrev pub popped : Registers → Registers
popped r = record r { values = below_top r }

abbrev pub pushed : Rvalue → Registers → Registers
pushed v r = record r { values = v ∷ r.values }

abbrev pub completed : Completion → Registers → Registers
completed x r = record r { completion = x }

-- the value of a run on some others
abbrev pub pushing : Registers → (below : List Rvalue) → Run Rvalue → Run Registers
pushing r below run = do
  v ← run
  done (record r { values = v ∷ below })

-- the completion of a run
abbrev pub completing : Registers → Run Completion → Run Registers
completing r run = do
  x ← run
  done (completed x r)

-- where nothing has been done, calls may be nested so deep
abbrev pub at_start : Function → (left : ℕ) → Registers
at_start f left = record {
  values = [];
  completion = Normal;
  blocks = [];
  waiting = [];
  activation = record { function = f; left = left };
}
