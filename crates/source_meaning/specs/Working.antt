-- Runs that count some work, whatever they are run from.
use Rattle.std.specs.Prelude.{◌≡◌, ℕ, ◌+◌, ◌≤◌, Some, List}
use Rattle.c_tree.specs.declared.expression.Kind.{Kind}
use Rattle.c_tree.specs.declared.program.Variable.{Variable}
use Rattle.c_tree.specs.Kinds.{size_of_kind}
use Rattle.source_meaning.specs.State.{State, Outcome, Gives, Ended, Paused, Run}
use Rattle.source_meaning.specs.Acting.{state_of}
use Rattle.source_meaning.specs.Good.{object_kind}

-- where a run gives a value it has counted at least so many units
abbrev pub CountsBy : {A : Type 0} → (units : ℕ) → State → Outcome A → Type 0
CountsBy units s (Gives a s') = s.work + units ≤ s'.work
CountsBy units s (Ended e s') = Unit {0}
CountsBy units s (Paused s') = Unit {0}

pub record Counts {A : Type 0} (units : ℕ) (run : Run A) : Type 0 where
  pub counts : (s : State) → CountsBy units s (run s)

-- it has counted them however it goes on
pub record CountsAtOnce {A : Type 0} (units : ℕ) (run : Run A) : Type 0 where
  pub counts : (s : State) → s.work + units ≤ (state_of (run s)).work

-- the objects among some variables have bytes
abbrev pub HaveBytes : List Variable → Type 0
HaveBytes vs = (x : ℕ) (kind : Kind) → object_kind vs x ≡ Some kind → 1 ≤ size_of_kind kind
