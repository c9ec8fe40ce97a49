-- String literals that initialize arrays of character type (C99 6.7.8 paragraph 14).
use Rattle.std.specs.Prelude.{ℕ, Bool, false, nat_lt, List, [], ◌∷◌, ◌++◌, length, take}
use Rattle.c_tree.specs.declared.c_type.TypeWord.{TypeWord}
use Rattle.c_tree.specs.declared.c_type.TypeWord.TheVariants.{Array}
use Rattle.c_rules.specs.Types.{unqualified}

-- the bytes that fill an array: those of the literal and its final 0, that where it fits or the array has no size yet
abbrev pub filling_as : (unqualified_type : List TypeWord) → (spelled : List ℕ) → List ℕ
filling_as (Array count bytes ∷ element) spelled = take count (spelled ++ 0 ∷ [])
filling_as type spelled = spelled ++ 0 ∷ []

abbrev pub filling : List TypeWord → (spelled : List ℕ) → List ℕ
filling type spelled = filling_as (unqualified type) spelled

-- whether a literal has more bytes than an array, its final 0 aside
abbrev pub is_too_long_as : (unqualified_type : List TypeWord) → (spelled : List ℕ) → Bool
is_too_long_as (Array count bytes ∷ element) spelled = nat_lt count (length spelled)
is_too_long_as type spelled = false

abbrev pub is_too_long : List TypeWord → (spelled : List ℕ) → Bool
is_too_long type spelled = is_too_long_as (unqualified type) spelled
