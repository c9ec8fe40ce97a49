-- C types (C99 6.2.5) as lists of words, and their sizes and alignments (LP64 of the RISC-V psABI).
use Rattle.std.specs.Prelude.{ℕ, ◌+◌, ◌^◌, ◌≤◌, min, List, [], ◌∷◌, Option, Some, None, get_or, option_map}
use Rattle.obj_memory.specs.declared.int_type.IntType.TheVariants.{Int}
use Rattle.obj_memory.specs.Integers.{size_of}
use Rattle.c_tree.specs.declared.c_type.TypeWord.{TypeWord}
use Rattle.c_tree.specs.declared.c_type.TypeWord.TheVariants.{Void, Integer, Enumeration, Pointer, Array, OpenArray}
use Rattle.c_tree.specs.declared.c_type.TypeWord.TheVariants.{Structure, Const, Takes, Gives}

-- the size and the alignment of a type; a size above 2^32 bytes, which no type may have, counts as 2^32 + 1
pub record TypeExtent : Type 0 where
  pub size : ℕ
  pub alignment : ℕ

pub record IsExtent (extent : TypeExtent) : Type 0 where
  pub size : extent.size ≤ 2 ^ 32 + 1
  pub least : 1 ≤ extent.alignment
  pub greatest : extent.alignment ≤ 8

abbrev pub capped : ℕ → ℕ
capped n = min n (2 ^ 32 + 1)

abbrev pub scalar_extent : (size : ℕ) → TypeExtent
scalar_extent size = record { size = size; alignment = size }

-- that of a structure or union, where it is declared and complete
abbrev pub structure_extent : List (Option TypeExtent) → (number : ℕ) → Option TypeExtent
structure_extent structures n = get_or structures n None

-- an array of so many bytes is aligned as its elements are
abbrev pub array_extent : (bytes : ℕ) → TypeExtent → TypeExtent
array_extent bytes element = record { size = capped bytes; alignment = element.alignment }

-- the extent of a type, where it is complete: void, functions, arrays of an unknown size and incomplete structures have
-- none; an enumeration has that of int (6.7.2.2)
unfoldable pub extent_of : List (Option TypeExtent) → List TypeWord → Option TypeExtent
extent_of structures [] = None
extent_of structures (Void ∷ behind) = None
extent_of structures (Integer t ∷ behind) = Some (scalar_extent (size_of t))
extent_of structures (Enumeration n ∷ behind) = Some (scalar_extent (size_of Int))
extent_of structures (Pointer ∷ behind) = Some (scalar_extent 8)
extent_of structures (Array count bytes ∷ element) = option_map (array_extent bytes) (extent_of structures element)
extent_of structures (OpenArray ∷ element) = None
extent_of structures (Structure n ∷ behind) = structure_extent structures n
extent_of structures (Const ∷ behind) = extent_of structures behind
extent_of structures (Takes ∷ behind) = None
extent_of structures (Gives ∷ behind) = None
