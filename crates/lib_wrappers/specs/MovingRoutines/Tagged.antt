-- The instructions that move the entries of a range's whole words.
use Rattle.std.specs.Prelude.{ℕ, ◌+◌, true, List, [], ◌∷◌, ◌++◌}
use Rattle.addr_map.specs.Places.{MapSizes}
use Rattle.rv_isa.specs.declared.instruction.BranchOp.TheVariants.{Bne, Bgeu}
use Rattle.rv_isa.specs.declared.instruction.RegOp.TheVariants.{Add, Sub, Sll, Srl}
use Rattle.flat_code.specs.declared.instruction.RightOperand.TheVariants.{Register, Number}
use Rattle.flat_code.specs.declared.instruction.FlatInstruction.{FlatInstruction}
use Rattle.flat_code.specs.declared.instruction.FlatInstruction.TheVariants.{Constant, Operate, Branch}
use Rattle.flat_code.specs.Memory.{Bytes}
use Rattle.flat_code.specs.declared.registers.Entry.{Entry}
use Rattle.flat_code.specs.Routines.Metadata.{Metadata, View, IsObjectWord, KeepsButShadow}
use Rattle.lib_wrappers.specs.MovingRoutines.Copying.{OneWord, Cells, CopiesOne, move_cells}

-- the entries of the words of object space
abbrev pub entries_of : MapSizes → View → (Bytes → Type 0) → Cells
entries_of map entry IsGood = record {
  size = OneWord;
  Content = Metadata;
  content = entry;
  IsCell = IsObjectWord map;
  IsKnown = IsObjectWord map;
  Changes = KeepsButShadow map;
  IsGood = IsGood;
}

-- an entry on its way, in the registers behind those of the loop
abbrev pub entry_from : ℕ → Entry
entry_from t = record { base = t + 4; bound = t + 5; key = t + 6; lock = t + 7 }

-- in functions of the runtime one entry is copied, within 42 steps
abbrev pub CopiesEntry : MapSizes → View → (Bytes → Type 0) → (t : ℕ) → List FlatInstruction → Type 0
CopiesEntry map entry IsGood t body =
    (charge weight : ℕ)
    → CopiesOne (record { sizes = map; is_runtime = true; charge = charge; weight = weight })
    (entries_of map entry IsGood) t 42 body

-- How many whole words the range to move to has, none where the two places are not equal modulo 8, and the first of
-- them there and in the range to move from.
abbrev pub count_words : (to from bytes count first source work : ℕ) → List FlatInstruction
count_words to from bytes k a b w =
    Operate Sub w to (Register from)
    ∷ Operate Sll w w (Number 61)
    ∷ Constant k 0
    ∷ Branch Bne w (Number 0) 9
    ∷ Operate Add a to (Number 7)
    ∷ Operate Srl a a (Number 3)
    ∷ Operate Add w to (Register bytes)
    ∷ Operate Srl w w (Number 3)
    ∷ Branch Bgeu a (Register w) 4
    ∷ Operate Sub k w (Register a)
    ∷ Operate Sll a a (Number 3)
    ∷ Operate Sub b from (Register to)
    ∷ Operate Add b b (Register a)
    ∷ []

abbrev pub move_words : (to from bytes t : ℕ) → (body : List FlatInstruction) → List FlatInstruction
move_words to from bytes t body =
    count_words to from bytes t (t + 1) (t + 2) (t + 3) ++ move_cells OneWord t body
