-- The first parameter of a function type (C99 6.7.5.3).
use Rattle.std.specs.Prelude.{List, ◌∷◌, Option, Some, None}
use Rattle.c_tree.specs.declared.c_type.TypeWord.{TypeWord}
use Rattle.c_tree.specs.declared.c_type.TypeWord.TheVariants as word

-- what stands behind "function taking"
abbrev pub behind_takes : List TypeWord → Option (List TypeWord)
behind_takes (word.Takes ∷ type) = Some type
behind_takes ws = None
