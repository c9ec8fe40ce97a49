-- A table of how many ways lead to each node of a function.
use Rattle.std.specs.Prelude.{◌≡◌, ℕ, zero, suc, Bool, true, false, List, [], length, Some, slice_get}
use Rattle.tac_ir.specs.declared.instruction.Instruction.{Instruction}
use Rattle.tac_ir.specs.declared.function.CodeFunction.{CodeFunction}
use Rattle.metadata_plan.specs.Laid.{edges_to, times_in, ways_to}
use Rattle.metadata_expansion.specs.declared.joins.Arrivals.{Arrivals}
use Rattle.metadata_expansion.specs.declared.joins.Arrivals.TheVariants.{Never, Once, Often}
use Rattle.metadata_expansion.specs.declared.joins.Joins.{Joins}

abbrev pub and_one : Arrivals → Arrivals
and_one Never = Once
and_one Once = Often
and_one Often = Often

abbrev pub is_often : Arrivals → Bool
is_often Never = false
is_often Once = false
is_often Often = true

-- so many ways more
unfoldable pub and_more : Arrivals → ℕ → Arrivals
and_more a zero = a
and_more a (suc n) = and_more (and_one a) n

-- so many ways to each node are counted
pub record Adds (old new : List Arrivals) (ways : ℕ → ℕ) : Type 0 where
  pub size : length new ≡ length old
  pub each : (n : ℕ) (a : Arrivals) → slice_get old n ≡ Some a → slice_get new n ≡ Some (and_more a (ways n))

-- the ways to each node from one that leads to these
abbrev pub ways_in : List ℕ → (node : ℕ) → ℕ
ways_in ns n = times_in n ns

-- the table has them but those from some instructions
pub record AreCounted (function : CodeFunction) (left : List Instruction) (table : List Arrivals) : Type 0 where
  pub size : length table ≡ length function.code
  pub each : (n : ℕ) (a : Arrivals) → slice_get table n ≡ Some a
      → and_more a (edges_to left n) ≡ and_more Never (ways_to function n)

abbrev pub AreJoins : Joins → CodeFunction → Type 0
AreJoins joins c = AreCounted c [] joins.arrivals
