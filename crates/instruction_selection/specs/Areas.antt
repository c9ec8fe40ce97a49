-- Where the structures by value of a function lie, by a table over its temporaries.
use Rattle.std.specs.Prelude.{◌≡◌, ℕ, zero, suc, ◌+◌, ◌*◌, ◌≤◌, List, [], ◌∷◌, get_or, length}
use Rattle.tac_ir.specs.declared.function.CodeFunction.{CodeFunction}
use Rattle.tac_ir.specs.declared.function.Tac.{Tac}
use Rattle.tac_ir.specs.Structures.{structures_below}
use Rattle.metadata_plan.specs.Registers.{most_temporaries}
use Rattle.metadata_relation.specs.Structures.{HasAreas}

-- the sum of the first numbers of a list
abbrev pub sum_before : List ℕ → (count : ℕ) → ℕ
sum_before [] n = 0
sum_before (x ∷ xs) zero = 0
sum_before (x ∷ xs) (suc n) = x + sum_before xs n

-- a table has those of the numbers before each, and of all, for which there is room
pub record AreSumsOf (table numbers : List ℕ) (room : ℕ) : Type 0 where
  pub each : (i : ℕ) → i ≤ length numbers → get_or table i 0 ≡ sum_before numbers i
  pub fit : 5 * sum_before numbers (length numbers) ≤ room

-- a table has the bytes of the structures of the temporaries before each one, and before all
pub record AreSums (table : List ℕ) (code : Tac) (function : CodeFunction) : Type 0 where
  pub each : (i : ℕ) → i ≤ most_temporaries function.code → get_or table i 0 ≡ structures_below code function.code i

-- a function has room for its areas, and a table of them
pub record HasTable (table : List ℕ) (code : Tac) (function : CodeFunction) : Type 0 where
  pub areas : HasAreas code function
  pub sums : AreSums table code function
