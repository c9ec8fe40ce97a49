-- What every action does: it begins no turn, and at any other count of work it does the same and adds as much. What a
-- run shows never shrinks, objects stay where they are, and the dead stay dead.
use Rattle.std.specs.Prelude.{◌≡◌, ℕ, ◌+◌, ◌≤◌}
use Rattle.behaviours.specs.Shown.{IsPrefix}
use Rattle.obj_memory.specs.Sound.{Continues}
use Rattle.source_meaning.specs.State.{State, Outcome, Gives, Ended, Paused, Run}

-- a state at another count of work
abbrev pub at_work : ℕ → State → State
at_work k s = record s { work = k }

-- a state comes later than another in a run
pub record Later (before after : State) : Type 0 where
  pub output : IsPrefix before.output after.output
  pub accesses : IsPrefix before.accesses after.accesses
  pub taken : before.taken ≤ after.taken
  pub work : before.work ≤ after.work
  pub turns : before.turns ≤ after.turns
  pub keys : before.keys ≤ after.keys
  pub objects : Continues before.objects after.objects

-- what an action makes of a state s with its own count of work, and of the count k in its place
pub record Advances (k k' : ℕ) (before after : State) : Type 0 where
  pub work : k' + before.work ≡ k + after.work
  pub turns : after.turns ≡ before.turns
  pub later : Later before after

abbrev pub ActsBy : {A : Type 0} → (k : ℕ) → State → (own other : Outcome A) → Type 0
ActsBy k s (Gives a s') other = (k' : ℕ) × (other ≡ Gives a (at_work k' s')) × Advances k k' s s'
ActsBy k s (Ended e s') other = (k' : ℕ) × (other ≡ Ended e (at_work k' s')) × Advances k k' s s'
ActsBy k s (Paused s') other = ⊥

pub record IsAction {A : Type 0} (run : Run A) : Type 0 where
  pub acts : (s : State) (k : ℕ) → ActsBy k s (run s) (run (at_work k s))

-- the state that a run came to
abbrev pub state_of : {A : Type 0} → Outcome A → State
state_of (Gives a s) = s
state_of (Ended e s) = s
state_of (Paused s) = s

-- the same of any run, which may begin turns and pause
abbrev pub RunsAlikeBy : {A : Type 0} → (k : ℕ) → State → (own other : Outcome A) → Type 0
RunsAlikeBy k s (Gives a s') other = (k' : ℕ) × (other ≡ Gives a (at_work k' s')) × (k' + s.work ≡ k + s'.work)
RunsAlikeBy k s (Ended e s') other = (k' : ℕ) × (other ≡ Ended e (at_work k' s')) × (k' + s.work ≡ k + s'.work)
RunsAlikeBy k s (Paused s') other = (k' : ℕ) × (other ≡ Paused (at_work k' s')) × (k' + s.work ≡ k + s'.work)

pub record RunsAlike {A : Type 0} (run : Run A) : Type 0 where
  pub alike : (s : State) (k : ℕ) → RunsAlikeBy k s (run s) (run (at_work k s))
