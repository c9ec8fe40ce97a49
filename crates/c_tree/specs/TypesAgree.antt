-- Types of functions as words, beside the kinds of their parameters and results (C99 6.7.5.3).
use Rattle.std.specs.Prelude.{ℕ, zero, suc, Bool, true, false, ◌&&◌, ◌==◌, List, [], ◌∷◌, Option, Some, None}
use Rattle.obj_memory.specs.declared.int_type.IntType.TheVariants.{Int}
use Rattle.c_tree.specs.declared.c_type.TypeWord.{TypeWord}
use Rattle.c_tree.specs.declared.c_type.TypeWord.TheVariants.{Void, Integer, Enumeration, Pointer, Array, OpenArray}
use Rattle.c_tree.specs.declared.c_type.TypeWord.TheVariants.{Structure, Const, Takes, Gives}
use Rattle.c_tree.specs.declared.expression.Kind.{Kind}
use Rattle.c_tree.specs.declared.expression.Kind.TheVariants as kind
use Rattle.c_tree.specs.Extents.{TypeExtent, structure_extent}
use Rattle.c_tree.specs.Kinds.{is_int_type, integer, pointer, is_kind}

-- the kind of what has a type; arrays and functions are adjusted to pointers before (6.7.5.3 paragraphs 7 and 8)
abbrev pub structure_kind : Option TypeExtent → Option Kind
structure_kind None = None
structure_kind (Some e) = Some (kind.Structure e.size)

abbrev pub kind_of_type : List (Option TypeExtent) → List TypeWord → Option Kind
kind_of_type structures [] = None
kind_of_type structures (Void ∷ behind) = Some kind.Void
kind_of_type structures (Integer t ∷ behind) = Some (integer t)
kind_of_type structures (Enumeration n ∷ behind) = Some (integer Int)
kind_of_type structures (Pointer ∷ behind) = Some pointer
kind_of_type structures (Array count bytes ∷ behind) = None
kind_of_type structures (OpenArray ∷ behind) = None
kind_of_type structures (Structure n ∷ behind) = structure_kind (structure_extent structures n)
kind_of_type structures (Const ∷ behind) = kind_of_type structures behind
kind_of_type structures (Takes ∷ behind) = None
kind_of_type structures (Gives ∷ behind) = None

abbrev pub is_kind_of : Option Kind → Kind → Bool
is_kind_of None k = false
is_kind_of (Some j) k = is_kind j k

-- how many types are still to be read behind a word, of some that were before it
abbrev pub still : TypeWord → ℕ → ℕ
still Pointer n = suc n
still (Array count bytes) n = suc n
still OpenArray n = suc n
still Const n = suc n
still Takes n = suc (suc n)
still Gives n = suc n
still w n = n

-- what stands behind so many types
abbrev pub behind_types : ℕ → List TypeWord → List TypeWord
behind_types zero ws = ws
behind_types (suc n) [] = []
behind_types (suc n) (w ∷ ws) = behind_types (still w n) ws

abbrev pub is_end : List TypeWord → Bool
is_end [] = true
is_end (w ∷ ws) = false

abbrev pub gives_kind : List (Option TypeExtent) → List TypeWord → Kind → Bool
gives_kind structures (Gives ∷ type) result = is_kind_of (kind_of_type structures type) result
    && is_end (behind_types 1 type)
gives_kind structures _ result = false

abbrev pub takes_kind : List (Option TypeExtent) → List TypeWord → Kind → Bool
takes_kind structures (Takes ∷ type) k = is_kind_of (kind_of_type structures type) k
takes_kind structures _ k = false

-- "function taking .., taking .., giving .." of these parameters and this result
abbrev pub agrees : List (Option TypeExtent) → List TypeWord → (parameters : List Kind) → (result : Kind) → Bool
agrees structures ws [] result = gives_kind structures ws result
agrees structures [] (k ∷ ks) result = false
agrees structures (w ∷ type) (k ∷ ks) result = takes_kind structures (w ∷ type) k
    && agrees structures (behind_types 1 type) ks result

-- two types are the same where their words are (6.2.7)

abbrev pub same_word : TypeWord → TypeWord → Bool
same_word Void Void = true
same_word (Integer s) (Integer t) = is_int_type s t
same_word (Enumeration m) (Enumeration n) = m == n
same_word Pointer Pointer = true
same_word (Array count bytes) (Array count' bytes') = (count == count') && bytes == bytes'
same_word OpenArray OpenArray = true
same_word (Structure m) (Structure n) = m == n
same_word Const Const = true
same_word Takes Takes = true
same_word Gives Gives = true
same_word _ _ = false

abbrev pub same_words : List TypeWord → List TypeWord → Bool
same_words [] [] = true
same_words (v ∷ vs) (w ∷ ws) = same_word v w && same_words vs ws
same_words _ _ = false
