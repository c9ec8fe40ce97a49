-- Labelled lists: where branches, jumps and calls go.
use Rattle.std.specs.Prelude.{◌≡◌, ℕ, List, Option, Some, None, slice_get}
use Rattle.rv_asm.specs.declared.item.Item.{Item}
use Rattle.rv_asm.specs.declared.item.Item.TheVariants.{Label, Instr, Jump, Call, Branch}

-- the label that an item goes to, if it goes to one
abbrev pub target_of : Item → Option ℕ
target_of (Label _) = None
target_of (Instr _) = None
target_of (Jump to) = Some to
target_of (Call to) = Some to
target_of (Branch _ _ _ to) = Some to

-- no label stands twice
pub record AreApart (items : List Item) : Type 0 where
  pub once : (j k l : ℕ) → slice_get items j ≡ Some (Label l) → slice_get items k ≡ Some (Label l) → j ≡ k

-- each label that an item goes to stands somewhere
pub record AreThere (items : List Item) : Type 0 where
  pub place : (k l : ℕ) (i : Item) → slice_get items k ≡ Some i → target_of i ≡ Some l
      → (d : ℕ) × (slice_get items d ≡ Some (Label l))
