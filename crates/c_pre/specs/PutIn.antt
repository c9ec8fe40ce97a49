-- What the calls of the code that put tokens in do.
use Rattle.std.specs.Prelude.{◌≡◌, ℕ, ◌+◌, ◌<◌, List, length, take, Result, Ok, Err, ⊤}
use Rattle.c_pre.specs.declared.fault.PreError.{PreError}
use Rattle.c_pre.specs.declared.fault.PreError.TheVariants.{Memory, Fault}
use Rattle.c_pre.specs.declared.fault.PreFaultKind.TheVariants.{TooMany}
use Rattle.c_pre.specs.declared.unread.Unread.{Unread}
use Rattle.c_pre.specs.HideSets.{HidingToken}
use Rattle.c_pre.specs.Pending.{above, AreKnown}
use Rattle.c_pre.specs.SharedSets.{Grows}
use Rattle.c_pre.specs.Trace.{fault_at}

-- these tokens stand above those of before, and took their number from the room
pub record Puts (tokens : List HidingToken) (old new : Unread) : Type 0 where
  pub below : take (length old.tokens.items) new.tokens.items ≡ old.tokens.items
  pub put : above (length old.tokens.items) new.sets new.tokens.items ≡ tokens
  pub room : new.room + length tokens ≡ old.room
  pub known : AreKnown new.sets new.tokens.items
  pub grows : Grows old.sets new.sets

-- or there was no room for them
abbrev pub PutsIn : {X : Type 0} → List HidingToken → Unread → Unread → ℕ → Result X PreError → Type 0
PutsIn tokens old new line (Ok x) = Puts tokens old new
PutsIn tokens old new line (Err Memory) = ⊤
PutsIn tokens old new line (Err (Fault fault)) = (fault ≡ fault_at line TooMany) × (old.room < length tokens)
