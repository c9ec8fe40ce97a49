-- Which static objects have a number: string literals, those without linkage, and those with linkage (C99 6.2.4).
use Rattle.std.specs.Prelude.{◌≡◌, ℕ, ◌+◌, ◌==◌, Bool, true, ◌&&◌, List, [], ◌∷◌, ◌++◌, map, length, Option, Some}
use Rattle.std.specs.Prelude.{get_or, slice_get}
use Rattle.c_tree.specs.declared.expression.Kind.{Kind}
use Rattle.c_tree.specs.declared.expression.Kind.TheVariants as kind
use Rattle.c_tree.specs.Programs.{StaticObject}
use Rattle.c_tree.specs.Valid.{has_number}
use Rattle.c_scope.specs.declared.meaning.Designated.{Designated}
use Rattle.c_scope.specs.declared.meaning.Designated.TheVariants as what
use Rattle.c_scope.specs.declared.meaning.Entity.{Entity}
use Rattle.c_scope.specs.declared.meaning.Meaning.{Meaning}
use Rattle.c_scope.specs.declared.meaning.Meaning.TheVariants as meaning
use Rattle.c_scope.specs.Declaring.{is_linked}
use Rattle.c_scope.specs.Names.{Names}
use Rattle.c_unit_typing.specs.Files.{File}
use Rattle.c_unit_typing.specs.Programs.{linked_objects, literal_object, static_objects}
use Rattle.typing_laws.specs.Declarators.Extending.{literals_at, one_if}

-- how many of a kind have a number

abbrev pub statics_at : (number : ℕ) → List (ℕ × StaticObject) → ℕ
statics_at n [] = 0
statics_at n (o ∷ os) = one_if (n == o.0) + statics_at n os

abbrev pub object_at : (number : ℕ) → Designated → ℕ
object_at n (what.Object m) = one_if (n == m)
object_at n what = 0

abbrev pub objects_at : (number : ℕ) → Names Entity → ℕ
objects_at n [] = 0
objects_at n (e ∷ es) = object_at n e.1.what + objects_at n es

-- all of them
abbrev pub owners : (number : ℕ) → File → ℕ
owners n f =
    literals_at n f.state.literals + statics_at n f.statics + objects_at n f.state.environment.entities

-- a static object without linkage that a name was just bound to, and whose initializer comes next
abbrev pub waiting : (number : ℕ) → Option Meaning → ℕ
waiting n (Some (meaning.Named (what.Static m) type)) = one_if (n == m)
waiting n m = 0

-- what has linkage is an object or a function
abbrev pub are_linked : Names Entity → Bool
are_linked [] = true
are_linked (e ∷ es) = is_linked e.1.what && are_linked es

-- the static objects of a file at its end, with their numbers
abbrev pub entries : File → List (ℕ × StaticObject)
entries f =
    map literal_object f.state.literals ++ f.statics ++ linked_objects f f.state.environment.entities

-- each number below the count is that of one entry, and each entry has its number among the static objects of the
-- program
pub record AreInOrder (file : File) : Type 0 where
  pub count : length (static_objects file) ≡ file.state.environment.statics
  pub each : (k : ℕ) (e : ℕ × StaticObject) → slice_get (entries file) k ≡ Some e
      → slice_get (static_objects file) e.0 ≡ Some e.1
  pub all : (n : ℕ) (o : StaticObject) → slice_get (static_objects file) n ≡ Some o
      → (k : ℕ) × (slice_get (entries file) k ≡ Some (n, o))

-- a number has a kind in a list
pub record HasKind (kinds : List Kind) (number : ℕ) (of : Kind) : Type 0 where
  pub there : has_number kinds number ≡ true
  pub kind : get_or kinds number kind.Void ≡ of
