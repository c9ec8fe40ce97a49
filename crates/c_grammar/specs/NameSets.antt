-- Lists of names, and sets that have the same names.
use Rattle.std.specs.Prelude.{◌≡◌, ℕ, List, bytes_eq}
use Rattle.std.specs.Borrow.{Bor}
use Rattle.std.specs.List.{list_any}
use Rattle.c_syntax.specs.Formed.{is_among}

-- a spelling is in the set exactly where it is among the names
abbrev pub HasNames : List (List ℕ) → List (Bor (List ℕ)) → Type 0
HasNames names set = (x : List ℕ) → list_any (λ y. bytes_eq x y.now) set ≡ is_among x names
