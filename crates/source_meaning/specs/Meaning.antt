-- The meaning of a program: for each number of turns, what its run has shown and how much work it has done.
use Rattle.std.specs.Prelude.{ℕ, ◌+◌, List, [], ◌∷◌, map, length, Option, Some, None}
use Rattle.behaviours.specs.Shown.{End, Status}
use Rattle.behaviours.specs.Behaviour.{Moment, Behaviour}
use Rattle.sb_base.specs.declared.ending.Ending.{Ending}
use Rattle.sb_base.specs.declared.ending.Ending.TheVariants.{Exit}
use Rattle.sb_base.specs.Budgets.{BudgetSizes}
use Rattle.sb_base.specs.Endings.{code_of, report_of}
use Rattle.obj_memory.specs.declared.object.Storage.TheVariants.{Static}
use Rattle.obj_memory.specs.Objects.{Objects, new_object, pointer_to}
use Rattle.obj_memory.specs.Heap.{rounded_up}
use Rattle.c_tree.specs.Programs.{Function, StaticObject, Program}
use Rattle.c_tree.specs.ValidProgram.{name_variables}
use Rattle.source_meaning.specs.State.{State, Rvalue, Outcome, Gives, Ended, Paused, Run, ◌>>=◌, ◌>>◌, pause}
use Rattle.source_meaning.specs.State.{read_state, choose, skip, Setting, Env}
use Rattle.source_meaning.specs.Places.{statics_first, stack_first}
use Rattle.c_tree.specs.Kinds.{size_of_kind}
use Rattle.source_meaning.specs.Actions.{int_of}
use Rattle.source_meaning.specs.Initializers.{store_parts}
use Rattle.source_meaning.specs.Calls.{header_of, function_at, calls}

-- the start

-- the static objects, each at a multiple of 16 from an address on
abbrev pub placed_statics : (first : ℕ) → List StaticObject → (offset : ℕ) → Objects
placed_statics first [] offset = []
placed_statics first (o ∷ os) offset =
    new_object Static (first + rounded_up 16 offset) (size_of_kind o.kind)
    ∷ placed_statics first os (rounded_up 16 offset + size_of_kind o.kind)

-- where they end
abbrev pub statics_end : List StaticObject → (offset : ℕ) → ℕ
statics_end [] offset = offset
statics_end (o ∷ os) offset = statics_end os (rounded_up 16 offset + size_of_kind o.kind)

abbrev pub setting_of : Program → BudgetSizes → Setting
setting_of p budgets = record {
  functions = map header_of p.functions;
  results = map (λ t. t.result) p.function_types;
  sizes = record { budgets = budgets; global_bytes = statics_end p.statics 0 };
}

-- a state at which nothing has been done
abbrev pub fresh : Setting → Objects → (input : List ℕ) → State
fresh g objects input = record {
  objects = objects;
  frame = [];
  plain = [];
  input = input;
  taken = 0;
  output = [];
  accesses = [];
  work = 0;
  turns = 0;
  charged = 0;
  stacked = stack_first g;
  keys = 0;
}

-- initializers of static objects make no calls
abbrev pub static_env : Setting → Env
static_env g = record { setting = g; variables = []; limit = 0; depth = 0; call = λ f vs line. pause }

-- The initializers of the static objects from a number on. One that names a variable of the function in whose block it
-- stands is no constant, and stores nothing.
abbrev pub store_statics : Env → (number : ℕ) → List StaticObject → Run (Unit {0})
store_statics env n [] = skip
store_statics env n (o ∷ os) = do
  p ← read_state (λ s. pointer_to n s.objects)
  choose (name_variables o.parts) skip (store_parts env p o.parts)
  store_statics env (n + 1) os

-- the objects after initializers, which neither end nor pause where all are constant
abbrev pub objects_after : {A : Type 0} → (placed : Objects) → Outcome A → Objects
objects_after placed (Gives a s) = s.objects
objects_after placed (Ended e s) = placed
objects_after placed (Paused s) = placed

-- the static objects as they are before the run: what their initializers do is not shown and no work. They have the
-- tags of all stores, also of those that a later one overwrites with other bytes.
abbrev pub initial_objects : Program → Setting → Objects
initial_objects p g =
    let placed = placed_statics (statics_first g) p.statics 0 in
    objects_after placed (store_statics (static_env g) 0 p.statics (fresh g placed []))

abbrev pub start : Program → Setting → (input : List ℕ) → State
start p g input = fresh g (initial_objects p g) input

-- the run

abbrev pub line_of : Option Function → ℕ
line_of None = 0
line_of (Some f) = f.line

-- what comes of a program in some turns: its first call is that of `main`, at the line of its name
abbrev pub outcome : Program → BudgetSizes → (input : List ℕ) → (turns : ℕ) → Outcome Rvalue
outcome p budgets input turns =
    let g = setting_of p budgets in
    calls p.functions g turns (turns + 1) p.main [] (line_of (function_at p.functions p.main)) (start p g input)

-- the moment of a state, with what is reported and the ending; the bytes of the report are work
abbrev pub moment_at : State → (report : List ℕ) → Option End → Moment
moment_at s report ending = record {
  shown = record { output = s.output; errors = report; taken = s.taken; accesses = s.accesses; ending = ending };
  turns = s.turns;
  work = s.work + length report;
}

abbrev pub ended_at : Ending → State → Moment
ended_at e s = moment_at s (report_of e) (Some (Status (code_of e)))

-- a return from `main` is an exit with its value (C99 5.1.2.2.3)
abbrev pub moment_of : Outcome Rvalue → Moment
moment_of (Gives v s) = ended_at (Exit (int_of v.value.word)) s
moment_of (Ended e s) = ended_at e s
moment_of (Paused s) = moment_at s [] None

abbrev pub meaning : Program → BudgetSizes → (input : List ℕ) → Behaviour
meaning p budgets input = λ turns. moment_of (outcome p budgets input turns)
