-- Composite types (C99 6.2.7).
use Rattle.std.specs.Prelude.{if◌then◌else◌, List, [], ◌∷◌, Option, Some, None, option_map}
use Rattle.c_tree.specs.declared.c_type.TypeWord.{TypeWord}
use Rattle.c_tree.specs.declared.c_type.TypeWord.TheVariants.{Array, OpenArray}
use Rattle.c_tree.specs.TypesAgree.{same_words}

-- what stands where the words of two types do not differ but for the size of an array that one of them leaves open
-- (paragraph 3)
abbrev pub joint : TypeWord → TypeWord → Option TypeWord
joint OpenArray (Array count bytes) = Some (Array count bytes)
joint (Array count bytes) OpenArray = Some (Array count bytes)
joint v w = if same_words (v ∷ []) (w ∷ []) then Some v else None

abbrev pub joined : Option TypeWord → Option (List TypeWord) → Option (List TypeWord)
joined None behind = None
joined (Some w) behind = option_map (λ type. w ∷ type) behind

-- the composite type of two types, where they are compatible
unfoldable pub composite : List TypeWord → List TypeWord → Option (List TypeWord)
composite [] [] = Some []
composite (v ∷ s) (w ∷ t) = joined (joint v w) (composite s t)
composite _ _ = None
