-- Where a run of three-address code is: its node, the values of its temporaries, what it goes back to, and the state,
-- which is the source's.
use Rattle.std.specs.Prelude.{ℕ, zero, suc, ◌+◌, ◌==◌, if◌then◌else◌, List, [], ◌∷◌, None}
use Rattle.behaviours.specs.Shown.{nothing_shown}
use Rattle.behaviours.specs.Behaviour.{Moment}
use Rattle.sb_base.specs.declared.ending.Ending.{Ending}
use Rattle.source_meaning.specs.State.{State, Rvalue, Outcome, Gives, Ended, Paused}
use Rattle.source_meaning.specs.Actions.{integer}
use Rattle.source_meaning.specs.Structures.{rvalue}
use Rattle.source_meaning.specs.Blocks.{Block}
use Rattle.source_meaning.specs.Calls.{Caller}
use Rattle.source_meaning.specs.Meaning.{moment_at, ended_at}

-- the values of temporaries by number
abbrev pub Temps : Type 0
Temps = ℕ → Rvalue

abbrev pub no_temps : Temps
no_temps = λ i. rvalue (integer 0)

abbrev pub with_temp : Temps → ℕ → Rvalue → Temps
with_temp temps d v = λ i. if i == d then v else temps i

-- the values of so many temporaries from one on
abbrev pub gathered : Temps → (first count : ℕ) → List Rvalue
gathered temps d zero = []
gathered temps d (suc n) = temps d ∷ gathered temps (d + 1) n

-- a caller that waits: its function, the node where it goes on, the temporary that gets the result, what it gets back,
-- and its temporaries
pub record Waiting : Type 0 where
  pub function : ℕ
  pub node : ℕ
  pub place : ℕ
  pub caller : Caller
  pub temps : Temps

-- what a return or the end of a block goes back to: a caller that waits, or what was before the block of that number
pub data Frame : Type 0 where
  Waits : Waiting → Frame
  Entered : (number : ℕ) → Block → Frame

-- A run begins with a call of `main`; it stands at a node of a function; or it has ended. A wrong step leads to where
-- nothing more comes.
pub data Stage : Type 0 where
  Begins : (s : State) → Stage
  Stands : (function node : ℕ) → Temps → (frames : List Frame) → (s : State) → Stage
  Over : Ending → (s : State) → Stage
  Stuck : Stage

-- what follows where a run of the source gave a value
abbrev pub came : {A : Type 0} → Outcome A → (A → State → Stage) → Stage
came (Gives a s) next = next a s
came (Ended e s) next = Over e s
came (Paused s) next = Stuck

-- what is seen of a stage
abbrev pub seen : Stage → Moment
seen (Begins s) = moment_at s [] None
seen (Stands u n temps frames s) = moment_at s [] None
seen (Over e s) = ended_at e s
seen Stuck = record { shown = nothing_shown; turns = 0; work = 0 }
