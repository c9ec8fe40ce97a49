-- Runs of a step function, and passes from one step function to another.
use Rattle.std.specs.Prelude.{◌≡◌, ℕ, zero, suc, ◌+◌, ◌≤◌, Some, None}
use Rattle.behaviours.specs.Shown.{End}
use Rattle.behaviours.specs.Behaviour.{Moment, Behaviour, Meets}

-- the state after so many steps
abbrev pub run : {S : Type 0} → (S → S) → ℕ → S → S
run step zero s = s
run step (suc n) s = run step n (step s)

-- what is seen of a state after so many steps
abbrev pub seen_after : {S : Type 0} → (S → S) → (S → Moment) → S → Behaviour
seen_after step seen s = λ n. seen (run step n s)

-- A pass from steps to steps, as a simulation: where two states match, and the first comes to a state that is fine,
-- some
-- steps of the second, maybe none, lead to a state that matches again; and states that match meet.
pub record Simulates {S T : Type 0} (factor : ℕ) (step : S → S) (seen : S → Moment) (step' : T → T) (seen' : T → Moment)
    (IsFine : S → Type 0) (Matches : S → T → Type 0) : Type 0 where
  pub one : (s : S) (t : T) → Matches s t → IsFine (step s) → (j : ℕ) × Matches (step s) (run step' j t)
  pub meets : (s : S) (t : T) → Matches s t → Meets factor (seen s) (seen' t)

-- Steps of which some states are stuck: a step begins at most one turn, a state that has ended stays as it is, and one
-- that is stuck stays stuck, shows no ending and has no turns.
pub record IsStepping {S : Type 0} (step : S → S) (seen : S → Moment) (IsStuck : S → Type 0) : Type 0 where
  pub turns : (s : S) → (seen (step s)).turns ≤ (seen s).turns + 1
  pub ended : (s : S) (e : End) → (seen s).shown.ending ≡ Some e → step s ≡ s
  pub stays : (s : S) → IsStuck s → IsStuck (step s)
  pub shows_no_ending : (s : S) → IsStuck s → (seen s).shown.ending ≡ None
  pub has_no_turns : (s : S) → IsStuck s → (seen s).turns ≡ 0
