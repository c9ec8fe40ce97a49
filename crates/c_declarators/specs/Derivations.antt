-- What a declarator derives its type from (C99 6.7.5): from the name outward one reads "array of 3, pointer to", and
-- the type that the specifiers name ends the list.
use Rattle.std.specs.Prelude.{ℕ, ◌^◌, Bool, true, false, ◌||◌, not, ◌&&◌, nat_lt}
use Rattle.std.specs.Prelude.{List, [], ◌∷◌, ◌++◌, Option, Some, None, is_none}
use Rattle.c_tree.specs.declared.c_type.TypeWord.{TypeWord}
use Rattle.c_tree.specs.declared.c_type.TypeWord.TheVariants as word
use Rattle.c_tree.specs.Arrays.{array_word}
use Rattle.c_tree.specs.Extents.{TypeExtent, extent_of}
use Rattle.c_rules.specs.Types.{unqualified}
use Rattle.c_scope.specs.Declaring.{is_function}
use Rattle.c_declarators.specs.declared.faults.TypeFaults.{TypeFaults}
use Rattle.c_declarators.specs.declared.derivation.BuiltType as code_built
use Rattle.c_declarators.specs.declared.derivation.Derivation as code
use Rattle.c_declarators.specs.Faults.{and_faults, no_faults}

-- a pointer is const or not; an array of unknown size; an array, whose size is not told where it is no integer constant
-- expression of at least 1; a function with the types of its parameters
pub data Derivation : Type 0 where
  to_pointer : (is_const : Bool) → Derivation
  to_open_array : Derivation
  to_array : (count : Option ℕ) → Derivation
  to_function : (parameters : List (List TypeWord)) → Derivation

-- a type, and the rules that it violates by itself
pub record BuiltType : Type 0 where
  pub type : List TypeWord
  pub faults : TypeFaults

abbrev pub derivation_of : code.Derivation → Derivation
derivation_of (code.TheVariants.Pointer is_const) = to_pointer is_const
derivation_of code.TheVariants.OpenArray = to_open_array
derivation_of (code.TheVariants.Array count) = to_array count
derivation_of (code.TheVariants.Function parameters) = to_function parameters.items

abbrev pub built_of : code_built.BuiltType → BuiltType
built_of b = record { type = b.c_type; faults = b.faults }

-- 6.7.5.1
abbrev pub pointer_words : (is_const : Bool) → List TypeWord → List TypeWord
pointer_words true target = word.Const ∷ word.Pointer ∷ target
pointer_words false target = word.Pointer ∷ target

-- 6.7.5.2: elements are complete objects, their number is at least 1, and all have at most 2^32 bytes

abbrev pub element_faults : List (Option TypeExtent) → (element : List TypeWord) → TypeFaults
element_faults structures element = record no_faults {
  incomplete = not (is_function element) && is_none (extent_of structures element);
  misplaced = is_function element;
}

abbrev pub array_of : (count : ℕ) → Option TypeExtent → TypeWord
array_of count None = word.Array count 0
array_of count (Some element) = array_word count element

abbrev pub is_large : TypeWord → Bool
is_large (word.Array count bytes) = nat_lt (2 ^ 32) bytes
is_large w = false

abbrev pub sized_array : TypeWord → BuiltType → (faults : TypeFaults) → BuiltType
sized_array w b faults = record {
  type = w ∷ b.type;
  faults = and_faults b.faults (record faults { large = is_large w });
}

abbrev pub array_built : List (Option TypeExtent) → (count : Option ℕ) → BuiltType → BuiltType
array_built structures None b = record {
  type = word.Array 0 0 ∷ b.type;
  faults = and_faults b.faults (record (element_faults structures b.type) { miscounted = true });
}
array_built structures (Some count) b =
    sized_array (array_of count (extent_of structures b.type)) b (element_faults structures b.type)

-- 6.7.5.3: the result is no function, const or not (6.7.3 paragraph 8), and no array

abbrev pub is_array : List TypeWord → Bool
is_array (word.Array count bytes ∷ element) = true
is_array (word.OpenArray ∷ element) = true
is_array type = false

abbrev pub function_words : (parameters : List (List TypeWord)) → (result : List TypeWord) → List TypeWord
function_words [] result = word.Gives ∷ result
function_words (p ∷ ps) result = word.Takes ∷ p ++ function_words ps result

abbrev pub function_built : (parameters : List (List TypeWord)) → BuiltType → BuiltType
function_built ps b = record {
  type = function_words ps b.type;
  faults =
      and_faults b.faults (record no_faults { misplaced = is_function (unqualified b.type) || is_array b.type });
}

abbrev pub derived : List (Option TypeExtent) → Derivation → BuiltType → BuiltType
derived structures (to_pointer is_const) b = record { type = pointer_words is_const b.type; faults = b.faults }
derived structures to_open_array b = record {
  type = word.OpenArray ∷ b.type;
  faults = and_faults b.faults (element_faults structures b.type);
}
derived structures (to_array count) b = array_built structures count b
derived structures (to_function ps) b = function_built ps b

-- the type that a declarator gives its name, from that which the specifiers name
abbrev pub built : List (Option TypeExtent) → (base : List TypeWord) → List Derivation → BuiltType
built structures base [] = record { type = base; faults = no_faults }
built structures base (d ∷ ds) = derived structures d (built structures base ds)
