-- What operators ask of the types of their operands (C99 6.2.5, 6.3.2.3).
use Rattle.std.specs.Prelude.{Bool, false, if◌then◌else◌, List, [], ◌∷◌, Option, Some, None}
use Rattle.obj_memory.specs.declared.int_type.IntType.TheVariants.{Int}
use Rattle.c_tree.specs.declared.c_type.TypeWord.{TypeWord}
use Rattle.c_tree.specs.declared.c_type.TypeWord.TheVariants.{Void, Integer, Enumeration, Pointer, Const, Takes, Gives}
use Rattle.c_tree.specs.Extents.{TypeExtent, extent_of}
use Rattle.c_tree.specs.Kinds.{is_size}
use Rattle.c_tree.specs.TypesAgree.{same_words}
use Rattle.c_rules.specs.declared.class.Class.{Class}
use Rattle.c_rules.specs.declared.class.Class.TheVariants as class
use Rattle.c_rules.specs.declared.class.Target.{Target}
use Rattle.c_rules.specs.declared.class.Target.TheVariants as target

-- a type without its own qualifiers (6.2.5 paragraph 26)
abbrev pub unqualified : List TypeWord → List TypeWord
unqualified [] = []
unqualified (Const ∷ type) = unqualified type
unqualified (w ∷ behind) = w ∷ behind

-- an object of a complete type has from 1 to 2 ^ 32 bytes
abbrev pub object_of : Option TypeExtent → Target
object_of None = target.Incomplete
object_of (Some e) = if is_size e.size then target.Object e.size else target.Incomplete

-- what a pointer to a type points to
abbrev pub target_of : List (Option TypeExtent) → List TypeWord → Target
target_of structures (Void ∷ behind) = target.Void
target_of structures (Takes ∷ behind) = target.Function
target_of structures (Gives ∷ behind) = target.Function
target_of structures (Const ∷ type) = target_of structures type
target_of structures type = object_of (extent_of structures type)

-- the class of a type
abbrev pub class_of : List (Option TypeExtent) → List TypeWord → Class
class_of structures (Integer t ∷ behind) = class.Integer t
class_of structures (Enumeration n ∷ behind) = class.Integer Int
class_of structures (Pointer ∷ type) = class.Pointer (target_of structures type)
class_of structures (Const ∷ type) = class_of structures type
class_of structures type = class.Other

-- whether two types are pointers to one type, qualifiers of that type aside
abbrev pub same_pointee_behind : List TypeWord → List TypeWord → Bool
same_pointee_behind (Pointer ∷ s) (Pointer ∷ t) = same_words (unqualified s) (unqualified t)
same_pointee_behind s t = false

abbrev pub same_pointee : List TypeWord → List TypeWord → Bool
same_pointee s t = same_pointee_behind (unqualified s) (unqualified t)
