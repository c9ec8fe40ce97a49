-- Runs as far as their turns lead, and where they pause.
use Rattle.std.proofs.Common.{◌≡◌, ℕ, ◌+◌, ◌≤◌}
use Rattle.source_meaning.specs.State.{State, Outcome, Gives, Ended, Paused, Run}
use Rattle.source_meaning.specs.Acting.{Later, state_of}

-- a run comes to later states
pub record GoesLater {A : Type 0} (r : Run A) : Type 0 where
  pub later : (s : State) → Later s (state_of (r s))

-- the second outcome is the first, or the first paused and the second is later
abbrev pub IsBelow : {A : Type 0} → Outcome A → Outcome A → Type 0
IsBelow (Gives a s) o = Gives a s ≡ o
IsBelow (Ended e s) o = Ended e s ≡ o
IsBelow (Paused s) o = Later s (state_of o)

-- a run is another as far as its turns lead
pub record LeadsTo {A : Type 0} (r r' : Run A) : Type 0 where
  pub below : (s : State) → IsBelow (r s) (r' s)
  pub later : GoesLater r'

-- under a limit no more turns are begun, and a run pauses only where all are begun
abbrev pub IsWithin : {A : Type 0} → (limit : ℕ) → Outcome A → Type 0
IsWithin limit (Gives a s) = s.turns ≤ limit
IsWithin limit (Ended e s) = s.turns ≤ limit
IsWithin limit (Paused s) = s.turns ≡ limit

-- the same of a run, from any state that has at most so many turns left
pub record PausesAt {A : Type 0} (limit left : ℕ) (r : Run A) : Type 0 where
  pub later : GoesLater r
  pub within : (s : State) → s.turns ≤ limit → limit ≤ s.turns + left → IsWithin limit (r s)
