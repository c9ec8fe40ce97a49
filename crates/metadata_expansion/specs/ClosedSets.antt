-- Sets of temporaries for each node that are closed under what instructions read and make of others.
use Rattle.std.specs.Prelude.{◌≡◌, ℕ, Bool, true, false, not, ◌&&◌, ◌||◌, ◌==◌, List, [], ◌∷◌, Option, Some, None}
use Rattle.std.specs.Prelude.{slice_get}
use Rattle.tac_ir.specs.declared.instruction.Instruction.{Instruction}
use Rattle.tac_ir.specs.declared.function.CodeFunction.{CodeFunction}
use Rattle.tac_ir.specs.Edges.{successors}
use Rattle.tac_ir.specs.Edges.{LeadsTo}
use Rattle.metadata_plan.specs.Entries.{Entries, IsOther, every, given}
use Rattle.metadata_expansion.specs.declared.temporary_set.TemporarySet.{TemporarySet}
use Rattle.metadata_expansion.specs.declared.closing.TemporaryTable.{TemporaryTable}
use Rattle.metadata_expansion.specs.declared.closing.TemporaryTable.TheVariants.{Every, Sets}
use Rattle.metadata_expansion.specs.TemporarySets.{is_in, room}

abbrev pub is_in_some : Option TemporarySet → (temporary : ℕ) → Bool
is_in_some None y = false
is_in_some (Some s) y = is_in s y

-- the sets of the first nodes; those of others are empty
abbrev pub in_sets : List TemporarySet → Entries
in_sets sets n y = is_in_some (slice_get sets n) y

abbrev pub in_table : TemporaryTable → Entries
in_table Every = every
in_table (Sets sets) = in_sets sets.items

-- each set has room for so many temporaries
pub record HaveRoom (count : ℕ) (sets : List TemporarySet) : Type 0 where
  pub by : (n : ℕ) (s : TemporarySet) → slice_get sets n ≡ Some s → room s ≡ count

-- a temporary is in the set of one of some nodes
abbrev pub has_at : Entries → List ℕ → (temporary : ℕ) → Bool
has_at e [] y = false
has_at e (m ∷ ms) y = e m y || has_at e ms y

abbrev pub is_it : Option ℕ → (temporary : ℕ) → Bool
is_it None y = false
is_it (Some d) y = y == d

-- the temporary of which what is given is made, where that is wanted
abbrev pub is_source : (behind : ℕ → Bool) → (given source : Option ℕ) → (temporary : ℕ) → Bool
is_source f None a y = false
is_source f (Some d) None y = false
is_source f (Some d) (Some a) y = f d && y == a

-- what is wanted before an instruction because of what is kept or made of it
abbrev pub is_passed_on : (behind : ℕ → Bool) → (given source : Option ℕ) → (temporary : ℕ) → Bool
is_passed_on f d a y = (f y && not (is_it d y)) || is_source f d a y

-- what instructions of a function read, and of which temporary they make what they give
abbrev pub Reads : Type 0
Reads = Instruction → (temporary : ℕ) → Bool

abbrev pub Source : Type 0
Source = Instruction → Option ℕ

-- whether a temporary is wanted before an instruction
abbrev pub needs : Reads → Source → Entries → Instruction → (temporary : ℕ) → Bool
needs reads source e i y = is_passed_on (has_at e (successors i)) (given i) (source i) y || reads i y

-- What is read is in the set; so is before an instruction that gives it no value what is in it behind; and so is the
-- temporary of which what is given is made, where that is in it.
pub record IsClosedUnder (reads : Reads) (source : Source) (function : CodeFunction) (set : Entries) : Type 0 where
  pub read : (n y : ℕ) (i : Instruction) → slice_get function.code n ≡ Some i → reads i y ≡ true → set n y ≡ true
  pub kept : (n m y : ℕ) (i : Instruction) → slice_get function.code n ≡ Some i → LeadsTo i m → IsOther (given i) y
      → set m y ≡ true → set n y ≡ true
  pub made : (n m d a : ℕ) (i : Instruction) → slice_get function.code n ≡ Some i → LeadsTo i m → given i ≡ Some d
      → source i ≡ Some a → set m d ≡ true → set n a ≡ true

-- no instruction of a function reads a temporary
pub record ReadsNone (reads : Reads) (function : CodeFunction) : Type 0 where
  pub by : (n y : ℕ) (i : Instruction) → slice_get function.code n ≡ Some i → reads i y ≡ false

-- no temporary is in a set
pub record AreNone (set : Entries) : Type 0 where
  pub by : (n y : ℕ) → set n y ≡ false
