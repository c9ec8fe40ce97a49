-- The parts of the type of a function, which is "function taking .., taking .., giving .." (C99 6.7.5.3).
use Rattle.std.specs.Prelude.{ℕ, zero, suc, List, [], ◌∷◌, Option, Some, None}
use Rattle.c_tree.specs.declared.c_type.TypeWord.{TypeWord}
use Rattle.c_tree.specs.declared.c_type.TypeWord.TheVariants as word
use Rattle.c_tree.specs.TypesAgree.{still, behind_types}

-- the first so many types that some words spell
abbrev pub first_types : ℕ → List TypeWord → List TypeWord
first_types zero ws = []
first_types (suc n) [] = []
first_types (suc n) (w ∷ ws) = w ∷ first_types (still w n) ws

-- what stands behind the first parameter
abbrev pub behind_parameter : List TypeWord → List TypeWord
behind_parameter (word.Takes ∷ type) = behind_types 1 type
behind_parameter ws = []

-- the type of the result, where so many types stand before it that are parts of parameters
abbrev pub result_type : (before : ℕ) → List TypeWord → List TypeWord
result_type n [] = []
result_type zero (word.Gives ∷ type) = type
result_type zero (word.Takes ∷ ws) = result_type 1 ws
result_type zero (w ∷ ws) = []
result_type (suc n) (w ∷ ws) = result_type (still w n) ws

-- the type of the function to which a value of a type points (6.5.2.2 paragraph 1)
abbrev pub callee_type : List TypeWord → Option (List TypeWord)
callee_type (word.Const ∷ type) = callee_type type
callee_type (word.Pointer ∷ word.Takes ∷ behind) = Some (word.Takes ∷ behind)
callee_type (word.Pointer ∷ word.Gives ∷ behind) = Some (word.Gives ∷ behind)
callee_type type = None
