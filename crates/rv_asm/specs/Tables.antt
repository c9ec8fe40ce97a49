-- What the assembler's table of labels tells.
use Rattle.std.specs.Prelude.{◌≡◌, ℕ, ◌<◌, Bool, true, List, length, Option, Some, None, slice_get, slice_set}
use Rattle.std.specs.Prelude.{slice_index, false}
use Rattle.rv_asm.specs.declared.form.Form.{Form}
use Rattle.rv_asm.specs.declared.item.Item.{Item}
use Rattle.rv_asm.specs.declared.item.Item.TheVariants.{Label, Instr, Jump, Call, Branch}
use Rattle.rv_asm.specs.Items.{AreApart}
use Rattle.rv_asm.specs.Forms.{start}

-- the table has an entry for each label of the list
pub record HasRoom (items : List Item) (table : List ℕ) : Type 0 where
  pub room : (k l : ℕ) → slice_get items k ≡ Some (Label l) → l < length table

-- the table has the place of each label of the first items
pub record Holds (forms : List Form) (items : List Item) (count : ℕ) (table : List ℕ) : Type 0 where
  pub held : (k l : ℕ) → k < count → slice_get items k ≡ Some (Label l) → slice_get table l ≡ Some (start forms items k)

-- the place that the table has for a label; 0 where it has none
abbrev pub entry : List ℕ → ℕ → ℕ
entry table l = slice_index table l

-- the table with the place of this item, if it is a label
abbrev pub marked : Item → ℕ → List ℕ → List ℕ
marked (Label l) place table = slice_set table l place
marked (Instr _) place table = table
marked (Jump _) place table = table
marked (Call _) place table = table
marked (Branch _ _ _ _) place table = table

-- an entry for this item, if it is a label
abbrev pub IsWithin : {A : Type 0} → Item → List A → Type 0
IsWithin (Label l) table = l < length table
IsWithin (Instr _) table = Unit {0}
IsWithin (Jump _) table = Unit {0}
IsWithin (Call _) table = Unit {0}
IsWithin (Branch _ _ _ _) table = Unit {0}

-- whether an item, if it is a label, is not in the table yet
abbrev pub IsNew : Item → List Bool → Type 0
IsNew (Label l) table = slice_get table l ≡ Some false
IsNew (Instr _) table = Unit {0}
IsNew (Jump _) table = Unit {0}
IsNew (Call _) table = Unit {0}
IsNew (Branch _ _ _ _) table = Unit {0}

-- the table with this item, if it is a label
abbrev pub with_label : Item → List Bool → List Bool
with_label (Label l) table = slice_set table l true
with_label (Instr _) table = table
with_label (Jump _) table = table
with_label (Call _) table = table
with_label (Branch _ _ _ _) table = table

-- the table says which labels stand among the first items, none of them twice
pub record Stand (items : List Item) (count : ℕ) (table : List Bool) : Type 0 where
  pub room : (k l : ℕ) → slice_get items k ≡ Some (Label l) → l < length table
  pub place : (l : ℕ) → slice_get table l ≡ Some true → (d : ℕ) × (d < count) × (slice_get items d ≡ Some (Label l))
  pub told : (k l : ℕ) → k < count → slice_get items k ≡ Some (Label l) → slice_get table l ≡ Some true
  pub once : (j k l : ℕ) → j < count → k < count → slice_get items j ≡ Some (Label l)
      → slice_get items k ≡ Some (Label l) → j ≡ k

-- the table of the labels of a list, or none where a label stands twice
abbrev pub StandApart : List Item → Option (List Bool) → Type 0
StandApart items (Some table) = Stand items (length items) table
StandApart items None = AreApart items → ⊥
