-- Whether a block has objects, by the numbers of its variables.
use Rattle.std.specs.Prelude.{ℕ, Bool, false, ◌||◌, List, [], ◌∷◌, Option, Some, None, slice_get}
use Rattle.c_tree.specs.declared.program.Variable.{Variable}

abbrev pub if_object : Option Variable → Bool
if_object None = false
if_object (Some v) = v.is_object

abbrev pub is_object : List Variable → (number : ℕ) → Bool
is_object vs n = if_object (slice_get vs n)

abbrev pub any_object : List Variable → (numbers : List ℕ) → Bool
any_object vs [] = false
any_object vs (n ∷ ns) = is_object vs n || any_object vs ns
