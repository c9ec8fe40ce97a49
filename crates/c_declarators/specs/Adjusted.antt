-- The types of parameters (C99 6.7.5.3 paragraphs 7, 8 and 15).
use Rattle.std.specs.Prelude.{List, ◌∷◌}
use Rattle.c_tree.specs.declared.c_type.TypeWord.{TypeWord}
use Rattle.c_tree.specs.declared.c_type.TypeWord.TheVariants as word

-- an array is a pointer to its elements, and a function a pointer to it
abbrev pub adjusted : List TypeWord → List TypeWord
adjusted (word.Array count bytes ∷ element) = word.Pointer ∷ element
adjusted (word.OpenArray ∷ element) = word.Pointer ∷ element
adjusted (word.Takes ∷ behind) = word.Pointer ∷ word.Takes ∷ behind
adjusted (word.Gives ∷ behind) = word.Pointer ∷ word.Gives ∷ behind
adjusted type = type
