-- What more turns do to a run.
use Rattle.std.specs.Prelude.{◌≡◌, ℕ, ◌≤◌, Some}
use Rattle.behaviours.specs.Shown.{End, IsEarlier}
use Rattle.behaviours.specs.Behaviour.{Moment, Behaviour}

-- a moment comes later than another: it shows what that one shows and then more, with no less work and no fewer turns,
-- and is the same where the run had ended
pub record GoesOn (before after : Moment) : Type 0 where
  pub shown : IsEarlier before.shown after.shown
  pub turns : before.turns ≤ after.turns
  pub work : before.work ≤ after.work
  pub ended : (e : End) → before.shown.ending ≡ Some e → after ≡ before

-- the moments of a behaviour in the order of turns
pub record Grows (behaviour : Behaviour) : Type 0 where
  pub at : (t u : ℕ) → t ≤ u → GoesOn (behaviour t) (behaviour u)
