-- Membership in a list, and relations of numbers.
use Rattle.std.specs.Prelude.{◌≡◌, ℕ, List, [], Option, Some, None, slice_get, Vec}
use Rattle.std.specs.Global.{Global}
use Rattle.data_flow.specs.declared.relation.Relation.{Relation}

-- a number stands in a list
abbrev pub Has : List ℕ → ℕ → Type 0
Has xs x = (k : ℕ) × (slice_get xs k ≡ Some x)

abbrev pub items_of : Option (Vec ℕ Global) → List ℕ
items_of None = []
items_of (Some list) = list.items

-- the numbers to which a number is related
abbrev pub images : Relation → ℕ → List ℕ
images r a = items_of (slice_get r.rows.items a)

abbrev pub IsRelated : Relation → ℕ → ℕ → Type 0
IsRelated r a b = Has (images r a) b
