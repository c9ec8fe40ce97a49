-- Runs that leave variables of the function as they were, and runs in which no object dies.
use Rattle.std.specs.Prelude.{◌≡◌, ℕ, Bool, true, false}
use Rattle.obj_memory.specs.Objects.{object_at}
use Rattle.c_tree.specs.declared.expression.Routine.{Routine}
use Rattle.c_tree.specs.declared.expression.Routine.TheVariants.{Free, Realloc}
use Rattle.source_meaning.specs.State.{State, Outcome, Gives, Ended, Paused, Run}
use Rattle.source_meaning.specs.Actions.{plain_value}
use Rattle.source_meaning.specs.Acting.{state_of}

-- where a run gives a value, the variable is as before, and so are all homes
pub record IsKeptAt (y : ℕ) (before after : State) : Type 0 where
  pub plain : plain_value y after ≡ plain_value y before
  pub frame : after.frame ≡ before.frame

abbrev pub KeptBy : {A : Type 0} → ℕ → State → Outcome A → Type 0
KeptBy y s (Gives a s') = IsKeptAt y s s'
KeptBy y s (Ended e s') = Unit {0}
KeptBy y s (Paused s') = Unit {0}

pub record Stays {A : Type 0} (y : ℕ) (run : Run A) : Type 0 where
  pub stays : (s : State) → KeptBy y s (run s)

-- all plain values and all homes are as before
pub record KeepsVariables (before after : State) : Type 0 where
  pub plain : after.plain ≡ before.plain
  pub frame : after.frame ≡ before.frame

abbrev pub KeepsBy : {A : Type 0} → State → Outcome A → Type 0
KeepsBy s (Gives a s') = KeepsVariables s s'
KeepsBy s (Ended e s') = Unit {0}
KeepsBy s (Paused s') = Unit {0}

-- a run that changes no variable
pub record Keeps {A : Type 0} (run : Run A) : Type 0 where
  pub keeps : (s : State) → KeepsBy s (run s)

-- a run in which no object dies
pub record KeepsLives {A : Type 0} (run : Run A) : Type 0 where
  pub live : (s : State) (n : ℕ) → (object_at s.objects n).is_live ≡ true
      → (object_at (state_of (run s)).objects n).is_live ≡ true

-- the routines that may end the life of a block
abbrev pub frees : Routine → Bool
frees Free = true
frees Realloc = true
frees _ = false
