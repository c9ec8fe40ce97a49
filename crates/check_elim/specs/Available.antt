-- Available checks (available expressions, with the keys of checks for expressions).
use Rattle.std.specs.Prelude.{◌≡◌, ◌<◌, ◌^◌, ℕ, Some, length, slice_get}
use Rattle.tac_ir.specs.declared.instruction.Instruction.{Instruction}
use Rattle.tac_ir.specs.declared.instruction.Instruction.TheVariants.{Judge}
use Rattle.tac_ir.specs.declared.key.Key.{Key}
use Rattle.tac_ir.specs.declared.function.CodeFunction.{CodeFunction}
use Rattle.tac_ir.specs.Edges.{LeadsTo}
use Rattle.check_elim.specs.Paths.{Path, IsKnownOn}
use Rattle.check_elim.specs.Facts.{Fact, Checks, Ends}

-- on every path to a node a check that makes the fact known comes behind the last instruction that ends it; so it is
-- where no path leads
abbrev pub IsAvailable : CodeFunction → Fact → (node : ℕ) → Type 0
IsAvailable function f n = (path : Path function n) → IsKnownOn function (Checks function f) (Ends function f) n path

-- a check whose own fact is available; one without a key is never
abbrev pub IsAvailableCheck : CodeFunction → (node : ℕ) → Instruction → Type 0
IsAvailableCheck function n (Judge test size line (Some k) a m) =
    (key : Key) × (slice_get function.keys k ≡ Some key)
    × IsAvailable function (record { test = test; key = key; size = size }) n
IsAvailableCheck function n i = ⊥

-- which are dropped: those of functions whose nodes have numbers of 32 bits
abbrev pub IsDroppable : CodeFunction → (node : ℕ) → Instruction → Type 0
IsDroppable function n i = (length function.code < 2 ^ 32) × IsAvailableCheck function n i

-- The complement, as a least solution: a path leads to the node on which the fact is not known.
pub data IsOpen (function : CodeFunction) (f : Fact) : (node : ℕ) → Type 0 where
  Begins : IsOpen function f function.entry
  Stops : (n m : ℕ) (i : Instruction) → Path function n → slice_get function.code n ≡ Some i
      → LeadsTo i m → Ends function f i → (Checks function f i → ⊥) → IsOpen function f m
  Flows : (n m : ℕ) (i : Instruction) → IsOpen function f n → slice_get function.code n ≡ Some i
      → LeadsTo i m → (Checks function f i → ⊥) → IsOpen function f m
