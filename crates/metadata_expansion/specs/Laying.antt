-- Functions whose blocks can be laid.
use Rattle.std.specs.Prelude.{◌≡◌, ℕ, ◌+◌, List, Some, slice_get, get_or, reverse}
use Rattle.tac_ir.specs.declared.instruction.Instruction.{Instruction}
use Rattle.tac_ir.specs.declared.function.CodeFunction.{CodeFunction}
use Rattle.flat_code.specs.declared.instruction.FlatInstruction.{FlatInstruction}
use Rattle.metadata_plan.specs.Laid.{begin_size, place_of, size_from}
use Rattle.metadata_expansion.specs.declared.layout.Layout.{Layout}
use Rattle.metadata_expansion.specs.declared.layout.Places.{Places}
use Rattle.metadata_expansion.specs.Joins.{AreJoins}

-- the block of each instruction of a function can be put
pub record CanAllBePut (CanPut : Instruction → Type 0) (function : CodeFunction) : Type 0 where
  pub by : (n : ℕ) (i : Instruction) → slice_get function.code n ≡ Some i → CanPut i

-- how many instructions the body of a function has
abbrev pub laid_size : (put : Instruction → List FlatInstruction) (begin : List FlatInstruction) → CodeFunction → ℕ
laid_size put begin c = begin_size put begin c + size_from put begin c 0 c.code

-- the place of a node in a table, in which the last node's comes first
abbrev pub place_in : Places → (node : ℕ) → ℕ
place_in places n = get_or (reverse places.descending) n places.begin

pub record ArePlaces (places : Places) (put : Instruction → List FlatInstruction) (begin : List FlatInstruction)
    (c : CodeFunction) : Type 0 where
  pub of : (n : ℕ) → place_in places n ≡ place_of put begin c n

-- the joins and places are those of the function
pub record IsLaid (put : Instruction → List FlatInstruction) (begin : List FlatInstruction) (layout : Layout) : Type 0
  where
    pub joins : AreJoins layout.joins.now layout.function.now
    pub places : ArePlaces layout.places.now put begin layout.function.now
