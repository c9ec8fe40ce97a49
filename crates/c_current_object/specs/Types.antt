-- What initializers ask of the type of an object (C99 6.7.8 paragraphs 13 and 14).
use Rattle.std.specs.Prelude.{ℕ, Bool, true, false, not, ◌||◌, ◌==◌, List, ◌∷◌}
use Rattle.obj_memory.specs.Integers.{rank}
use Rattle.c_tree.specs.declared.c_type.TypeWord.{TypeWord}
use Rattle.c_tree.specs.declared.c_type.TypeWord.TheVariants.{Integer, Array, OpenArray, Structure}
use Rattle.c_rules.specs.Types.{unqualified}
use Rattle.c_current_object.specs.declared.filler.Filler.{Filler}
use Rattle.c_current_object.specs.declared.filler.Filler.TheVariants as filler

-- an array, a structure or a union
abbrev pub is_aggregate_as : (unqualified_type : List TypeWord) → Bool
is_aggregate_as (Array count bytes ∷ element) = true
is_aggregate_as (OpenArray ∷ element) = true
is_aggregate_as (Structure n ∷ behind) = true
is_aggregate_as type = false

abbrev pub is_aggregate : List TypeWord → Bool
is_aggregate type = is_aggregate_as (unqualified type)

abbrev pub is_character_as : (unqualified_type : List TypeWord) → Bool
is_character_as (Integer t ∷ behind) = rank t == 1
is_character_as type = false

-- an array of character type (paragraph 14)
abbrev pub is_character_array_as : (unqualified_type : List TypeWord) → Bool
is_character_array_as (Array count bytes ∷ element) = is_character_as (unqualified element)
is_character_array_as (OpenArray ∷ element) = is_character_as (unqualified element)
is_character_array_as type = false

abbrev pub is_character_array : List TypeWord → Bool
is_character_array type = is_character_array_as (unqualified type)

abbrev pub is_structure_as : ℕ → (unqualified_type : List TypeWord) → Bool
is_structure_as n (Structure m ∷ behind) = m == n
is_structure_as n type = false

-- what a value of a type fills
abbrev pub filler_as : (unqualified_type : List TypeWord) → Filler
filler_as (Structure n ∷ behind) = filler.Structure n
filler_as type = filler.Scalar

abbrev pub filler_of : List TypeWord → Filler
filler_of type = filler_as (unqualified type)

abbrev pub fills_aggregate : Filler → List TypeWord → Bool
fills_aggregate filler.Literal type = is_character_array type
fills_aggregate (filler.Structure n) type = is_structure_as n (unqualified type)
fills_aggregate filler.Scalar type = false

-- whether an expression without braces is for a whole object of a type, and not for its first part (paragraphs 11,
-- 13, 14 and 20)
abbrev pub fills : Filler → List TypeWord → Bool
fills f type = not (is_aggregate type) || fills_aggregate f type
