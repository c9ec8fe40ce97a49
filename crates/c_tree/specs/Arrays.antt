-- Array types (C99 6.2.5, 6.5.3.4, 6.7.5.2).
use Rattle.std.specs.Prelude.{ℕ, Bool, true, false, ◌&&◌, ◌==◌, List, [], ◌∷◌, Option, Some, None}
use Rattle.c_tree.specs.declared.c_type.TypeWord.{TypeWord}
use Rattle.c_tree.specs.declared.c_type.TypeWord.TheVariants.{Array}
use Rattle.c_tree.specs.Extents.{TypeExtent, extent_of}
use Rattle.c_tree.specs.Layout.{array_size}

-- the word of an array of so many elements of this extent
abbrev pub array_word : (count : ℕ) → TypeExtent → TypeWord
array_word count element = Array count (array_size count element.size)

-- whether these are the bytes of so many elements, which are complete (6.7.5.2 paragraph 1)
abbrev pub has_bytes : (count bytes : ℕ) → Option TypeExtent → Bool
has_bytes count bytes None = false
has_bytes count bytes (Some element) = bytes == array_size count element.size

-- whether each array in a type has the bytes of its elements
abbrev pub is_sized : List (Option TypeExtent) → List TypeWord → Bool
is_sized structures [] = true
is_sized structures (Array count bytes ∷ element) =
    has_bytes count bytes (extent_of structures element) && is_sized structures element
is_sized structures (w ∷ behind) = is_sized structures behind
