-- Words that spell exactly one type (C99 6.2.5), and the types of functions whose parameters and result have kinds.
use Rattle.std.specs.Prelude.{◌≡◌, ℕ, zero, suc, Bool, true, false, not, ◌&&◌, List, [], ◌∷◌, Option, is_some}
use Rattle.c_tree.specs.declared.c_type.TypeWord.{TypeWord}
use Rattle.c_tree.specs.declared.c_type.TypeWord.TheVariants as word
use Rattle.c_tree.specs.Arrays.{has_bytes}
use Rattle.c_tree.specs.Extents.{TypeExtent, extent_of, structure_extent}
use Rattle.c_tree.specs.TypesAgree.{kind_of_type, still}
use Rattle.c_rules.specs.Types.{unqualified}
use Rattle.c_call_rules.specs.FunctionTypes.{result_type}
use Rattle.c_declarators.specs.Derivations.{is_array}
use Rattle.c_scope.specs.Declaring.{is_function}

-- what a word asks of those behind it: an array has the bytes of its elements (6.7.5.2), qualifiers of an array stand
-- at its elements (6.7.3), and a function gives no function, const or not, and no array (6.7.5.3)
abbrev pub fits : List (Option TypeExtent) → TypeWord → List TypeWord → Bool
fits es (word.Array count bytes) ws = has_bytes count bytes (extent_of es ws)
fits es word.Const ws = not (is_array ws)
fits es word.Gives ws = not (is_function (unqualified ws)) && not (is_array ws)
fits es w ws = true

-- words that spell so many types, one behind the other
abbrev pub is_spelled : List (Option TypeExtent) → (count : ℕ) → List TypeWord → Bool
is_spelled es zero [] = true
is_spelled es zero (w ∷ ws) = false
is_spelled es (suc n) [] = false
is_spelled es (suc n) (w ∷ ws) = fits es w ws && is_spelled es (still w n) ws

-- whether the parameters of a function have kinds, where so many types stand before its words
abbrev pub has_parameters : List (Option TypeExtent) → (before : ℕ) → List TypeWord → Bool
has_parameters es n [] = false
has_parameters es zero (word.Takes ∷ ws) = is_some (kind_of_type es ws) && has_parameters es 1 ws
has_parameters es zero (word.Gives ∷ ws) = true
has_parameters es zero (w ∷ ws) = false
has_parameters es (suc n) (w ∷ ws) = has_parameters es (still w n) ws

abbrev pub has_result : List (Option TypeExtent) → List TypeWord → Bool
has_result es type = is_some (kind_of_type es (result_type 0 type))

-- a type of functions that are defined or called
pub record IsFunctionType (es : List (Option TypeExtent)) (type : List TypeWord) : Type 0 where
  pub spelled : is_spelled es 1 type ≡ true
  pub parameters : has_parameters es 0 type ≡ true
  pub result : has_result es type ≡ true

-- whether a structure or union, if it is one, is complete
abbrev pub is_readable : List (Option TypeExtent) → List TypeWord → Bool
is_readable es (word.Structure n ∷ ws) = is_some (structure_extent es n)
is_readable es (word.Const ∷ ws) = is_readable es ws
is_readable es ws = true

-- the type of a value
pub record IsValueType (es : List (Option TypeExtent)) (type : List TypeWord) : Type 0 where
  pub spelled : is_spelled es 1 type ≡ true
  pub readable : is_readable es type ≡ true
