-- What the code keeps in place of hide sets: numbers of sets that share their names.
use Rattle.std.specs.Prelude.{◌≡◌, ℕ, zero, suc, ◌≤◌, ◌<◌, List, [], ◌∷◌, length, Option, Some, None, if◌then◌else◌}
use Rattle.std.specs.Prelude.{nat_lt, slice_get}
use Rattle.c_pre.specs.declared.hide_set.HideNode.{HideNode}
use Rattle.c_pre.specs.declared.hide_set.HideSet.{HideSet}
use Rattle.c_pre.specs.declared.hide_set.HideSets.{HideSets}
use Rattle.c_pre.specs.Names.{Name, Names}

-- the number of a set that was made before number n, or else that of the empty set
abbrev pub earlier : ℕ → ℕ → ℕ
earlier n number = if nat_lt number n then number else 0

abbrev pub names_by : Option HideNode → (ℕ → Names) → Names
names_by None more = []
names_by (Some node) more = node.name ∷ more node.others.number

-- the names of the set of this number, at most so many
abbrev pub names_in : ℕ → List HideNode → ℕ → Names
names_in zero nodes number = []
names_in (suc bound) nodes zero = []
names_in (suc bound) nodes (suc place) =
    names_by (slice_get nodes place) (λ others. names_in bound nodes (earlier (suc place) others))

unfoldable pub names_of : HideSets → HideSet → Names
names_of sets set = names_in set.number sets.nodes.items set.number

-- there is such a set
pub record IsKnown (sets : HideSets) (set : HideSet) : Type 0 where
  pub below : set.number ≤ length sets.nodes.items

-- all sets that there were are still what they were
pub record Grows (old new : HideSets) : Type 0 where
  pub more : length old.nodes.items ≤ length new.nodes.items
  pub same : (set : HideSet) → IsKnown old set → names_of new set ≡ names_of old set

-- a set was taken apart
abbrev pub FirstIs : HideSets → HideSet → Option (Name × HideSet) → Type 0
FirstIs sets set None = names_of sets set ≡ []
FirstIs sets set (Some first) =
    (names_of sets set ≡ first.0 ∷ names_of sets first.1) × (first.1.number < set.number) × IsKnown sets first.1
