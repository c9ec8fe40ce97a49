-- Labels of a switch, and what has the same labels.
use Rattle.std.specs.Prelude.{◌≡◌, ℕ, Bool, List, nat_eq}
use Rattle.std.specs.List.{list_any}
use Rattle.c_tree.specs.ValidProgram.{same_label}
use Rattle.c_tree.specs.declared.statement.CaseLabel.{CaseLabel}
use Rattle.c_tree.specs.declared.statement.CaseLabel.TheVariants.{Case, Default}

-- a word is in the set exactly where `case` with it is among the labels, and the answer on `default` is exact
abbrev pub HasLabels : List CaseLabel → (words : List ℕ) → (has_default : Bool) → Type 0
HasLabels labels words has_default =
    ((w : ℕ) → list_any (nat_eq w) words ≡ list_any (same_label (Case w)) labels)
    × (has_default ≡ list_any (same_label Default) labels)
