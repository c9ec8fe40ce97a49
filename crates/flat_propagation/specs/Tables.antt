-- How facts stand in a table: each with the time at which it was recorded, and each register with the time at which it
-- was last made, so that what is no longer known need not be looked for.
use Rattle.std.specs.Prelude.{◌≡◌, ℕ, Bool, true, ◌&&◌, nat_le, if◌then◌else◌, ◌<◌, ◌≤◌, List, Option, Some, None}
use Rattle.std.specs.Prelude.{slice_get}
use Rattle.flat_code.specs.declared.instruction.RightOperand.{RightOperand}
use Rattle.flat_code.specs.declared.instruction.RightOperand.TheVariants.{Register, Number}
use Rattle.flat_propagation.specs.declared.fact.Fact.{Fact}
use Rattle.flat_propagation.specs.declared.fact.Fact.TheVariants.{Unknown, Same, Word, Difference, Condition}
use Rattle.flat_propagation.specs.declared.table.Entry.{Entry}
use Rattle.flat_propagation.specs.declared.table.FactTable.{FactTable}
use Rattle.flat_propagation.specs.Facts.{Facts}

-- when a register was last made
abbrev pub made_by : Option Entry → ℕ
made_by None = 0
made_by (Some e) = e.made

abbrev pub made_at : List Entry → (register : ℕ) → ℕ
made_at entries x = made_by (slice_get entries x)

-- the registers that a fact speaks of were not made since it was recorded
abbrev pub right_stays : List Entry → (recorded : ℕ) → RightOperand → Bool
right_stays entries time (Register x) = nat_le (made_at entries x) time
right_stays entries time (Number n) = true

abbrev pub stays : List Entry → (recorded : ℕ) → Fact → Bool
stays entries time Unknown = true
stays entries time (Same x) = nat_le (made_at entries x) time
stays entries time (Word n) = true
stays entries time (Difference a b) = nat_le (made_at entries a) time && right_stays entries time b
stays entries time (Condition op a b) = nat_le (made_at entries a) time && right_stays entries time b

-- nor has a basic block begun since
abbrev pub fact_by : List Entry → (block : ℕ) → Option Entry → Fact
fact_by entries block None = Unknown
fact_by entries block (Some e) =
    if nat_le block e.recorded && stays entries e.recorded e.fact then e.fact else Unknown

abbrev pub fact_among : List Entry → (block : ℕ) → Facts
fact_among entries block = λ y. fact_by entries block (slice_get entries y)

unfoldable pub facts_of : FactTable → Facts
facts_of table = fact_among table.entries.items table.block

-- all was recorded and made, and the basic block has begun, before a time
pub record AreBefore (entries : List Entry) (time : ℕ) : Type 0 where
  pub each : (y : ℕ) (e : Entry) → slice_get entries y ≡ Some e → (e.recorded < time) × (e.made < time)

pub record IsBefore (table : FactTable) (time : ℕ) : Type 0 where
  pub entries : AreBefore table.entries.items time
  pub block : table.block ≤ time
