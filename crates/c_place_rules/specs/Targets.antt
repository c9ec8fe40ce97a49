-- The types of what pointers point to, and their qualifiers (C99 6.2.5, 6.7.3).
use Rattle.std.specs.Prelude.{ℕ, Bool, true, false, if◌then◌else◌, List, [], ◌∷◌}
use Rattle.obj_memory.specs.declared.int_type.IntType.TheVariants.{Int}
use Rattle.c_tree.specs.declared.c_type.TypeWord.{TypeWord}
use Rattle.c_tree.specs.declared.c_type.TypeWord.TheVariants as word
use Rattle.c_tree.specs.declared.expression.Kind.{Kind}
use Rattle.c_tree.specs.declared.expression.Kind.TheVariants as kind
use Rattle.c_tree.specs.Kinds.{integer, pointer}

-- what a pointer points to; any other type is left
abbrev pub pointee_of : List TypeWord → List TypeWord
pointee_of [] = []
pointee_of (word.Const ∷ type) = pointee_of type
pointee_of (word.Pointer ∷ target) = target
pointee_of (w ∷ behind) = w ∷ behind

-- the kind of an object of a type that has so many bytes
abbrev pub object_kind : (size : ℕ) → List TypeWord → Kind
object_kind size (word.Integer t ∷ behind) = integer t
object_kind size (word.Enumeration n ∷ behind) = integer Int
object_kind size (word.Pointer ∷ behind) = pointer
object_kind size (word.Array count bytes ∷ behind) = kind.Array size
object_kind size (word.OpenArray ∷ behind) = kind.Array size
object_kind size (word.Structure n ∷ behind) = kind.Structure size
object_kind size (word.Const ∷ type) = object_kind size type
object_kind size type = kind.Void

-- an array is const where its elements are (6.7.3 paragraph 8)
abbrev pub is_const : List TypeWord → Bool
is_const (word.Const ∷ type) = true
is_const (word.Array count bytes ∷ element) = is_const element
is_const (word.OpenArray ∷ element) = is_const element
is_const type = false

abbrev pub constant : List TypeWord → List TypeWord
constant (word.Const ∷ type) = word.Const ∷ type
constant (word.Array count bytes ∷ element) = word.Array count bytes ∷ constant element
constant (word.OpenArray ∷ element) = word.OpenArray ∷ constant element
constant type = word.Const ∷ type

-- a type, const where what it is a part of is
abbrev pub qualified : (is_const : Bool) → List TypeWord → List TypeWord
qualified const type = if const then constant type else type
