-- Where the subobjects and the parts of an initializer lie (C99 6.7.8 paragraphs 17 to 22).
use Rattle.std.specs.Prelude.{◌≡◌, ℕ, ◌+◌, ◌*◌, ◌≤◌, Bool, true, false, List, [], ◌∷◌, Option, Some, length}
use Rattle.c_tree.specs.declared.c_type.TypeWord.{TypeWord}
use Rattle.c_tree.specs.declared.c_type.TypeWord.TheVariants as word
use Rattle.c_tree.specs.Extents.{TypeExtent, capped, extent_of}
use Rattle.c_tree.specs.Kinds.{is_size}
use Rattle.c_tree.specs.Statements.{Content, literal_content}
use Rattle.c_tree.specs.ValidProgram.{content_size}
use Rattle.c_current_object.specs.declared.subobject.Step.{Step}
use Rattle.c_current_object.specs.declared.subobject.Subobject.{Subobject}
use Rattle.c_current_object.specs.Subobjects.{whole}
use Rattle.c_initializer_rules.specs.Placed.{PlacedPart}
use Rattle.typing_laws.specs.Layouts.Listed.{has_array_bytes}

-- What is initialized has a type, or is an array of unknown size whose elements have it: the base. The bytes of that
-- are the size. A subobject to which these steps lead ends within the whole, or within its element of the array.
abbrev pub bound : (is_open : Bool) → (size : ℕ) → List Step → ℕ
bound false size path = size
bound true size [] = 0
bound true size (s ∷ path) = (s.number + 1) * size

abbrev pub whole_type : (is_open : Bool) → (base : List TypeWord) → List TypeWord
whole_type false base = base
whole_type true base = word.OpenArray ∷ base

-- a complete type of so many bytes
pub record HasExtent (es : List (Option TypeExtent)) (size : ℕ) (type : List TypeWord) : Type 0 where
  pub extent : TypeExtent
  pub complete : extent_of es type ≡ Some extent
  pub bytes : extent.size ≡ size
  pub object : is_size size ≡ true
  pub arrays : has_array_bytes es type ≡ true

-- a subobject of a complete type, which begins so many bytes behind the start and ends within a limit
pub record LiesWithin (es : List (Option TypeExtent)) (limit : ℕ) (part : Subobject) : Type 0 where
  pub start : ℕ
  pub size : ℕ
  pub offset : part.offset ≡ capped start
  pub has : HasExtent es size part.c_type
  pub inside : start + size ≤ limit

-- the whole array of unknown size, or a subobject
pub data IsPlaced (is_open : Bool) (size : ℕ) (base : List TypeWord) (es : List (Option TypeExtent))
    (part : Subobject) : Type 0 where
  as_whole : is_open ≡ true → HasExtent es size base → part ≡ whole (word.OpenArray ∷ base)
      → IsPlaced is_open size base es part
  as_part : LiesWithin es (bound is_open size part.path) part → IsPlaced is_open size base es part

-- how far a part may reach: a literal for all of an array of unknown size gives that its size
abbrev pub reach : (is_open : Bool) → (size : ℕ) → List Step → Content → ℕ
reach true size [] (literal_content bytes) = length bytes * size
reach is_open size path content = bound is_open size path

pub record FitsIn (is_open : Bool) (size : ℕ) (part : PlacedPart) : Type 0 where
  pub start : ℕ
  pub offset : part.part.offset ≡ capped start
  pub some : 1 ≤ content_size part.part.content
  pub inside : start + content_size part.part.content ≤ reach is_open size part.path part.part.content
