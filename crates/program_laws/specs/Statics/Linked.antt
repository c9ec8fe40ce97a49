-- The initializers of objects with linkage (C99 6.2.2, 6.7.8, 6.9.2).
use Rattle.std.specs.Prelude.{◌≡◌, ℕ, Bool, true, not, ◌&&◌, ◌||◌, ◌==◌, List, [], ◌∷◌, ◌++◌, Ok, Err}
use Rattle.c_tree.specs.declared.c_type.TypeWord.{TypeWord}
use Rattle.c_tree.specs.declared.expression.Kind.{Kind}
use Rattle.c_tree.specs.declared.expression.Kind.TheVariants as kind
use Rattle.c_tree.specs.Kinds.{has_size, size_of_kind}
use Rattle.c_tree.specs.Programs.{Program}
use Rattle.c_tree.specs.Statements.{Part}
use Rattle.c_tree.specs.Valid.{Scope}
use Rattle.c_tree.specs.ValidProgram.{are_parts, scope_in}
use Rattle.c_faults.specs.Answer.{Answer}
use Rattle.c_scope.specs.declared.meaning.Designated.{Designated}
use Rattle.c_scope.specs.declared.meaning.Designated.TheVariants as what
use Rattle.c_scope.specs.declared.meaning.Entity.{Entity}
use Rattle.c_scope.specs.Names.{Names}
use Rattle.c_typing_state.specs.State.{extents}
use Rattle.c_unit_typing.specs.Declarations.{kind_in}
use Rattle.c_unit_typing.specs.Files.{File}
use Rattle.c_unit_typing.specs.Programs.{final_type}
use Rattle.typing_laws.specs.Validity.Sound.{Covers, Knows}
use Rattle.typing_laws.specs.Validity.Steps.{Structures}
use Rattle.typing_laws.specs.Declarations.Binding.{IsObjectType}

-- what the initializers with one number store is valid in a scope, and lies in an object of some size
abbrev pub are_parts_at : Scope → (size number : ℕ) → List (ℕ × List Part) → Bool
are_parts_at scope size n [] = true
are_parts_at scope size n (i ∷ is) = (not (n == i.0) || are_parts scope size i.1) && are_parts_at scope size n is

-- an object with linkage has a size, with the type that it has at the end of its file, and its initializer is valid
-- where no variable can be named, and lies in it
abbrev pub is_initialized_of : Program → File → (number : ℕ) → Kind → Bool
is_initialized_of p f n k =
    has_size k && are_parts_at (scope_in p [] [] kind.Void) (size_of_kind k) n f.initializers

abbrev pub is_initialized : Program → File → (type : List TypeWord) → Designated → Bool
is_initialized p f type (what.Object n) =
    is_initialized_of p f n (kind_in f.state (final_type (extents f.state) type))
is_initialized p f type what = true

abbrev pub are_initialized : Program → File → Names Entity → Bool
are_initialized p f [] = true
are_initialized p f (e ∷ es) = is_initialized p f e.1.c_type e.1.what && are_initialized p f es

-- an object with linkage that has an initializer adds that to the initializers of its file: it is valid and lies in the
-- object of its complete type, where names stood for something of the kind of their type at its name
pub record AddsParts (number : ℕ) (f behind : File) : Type 0 where
  pub type : List TypeWord
  pub parts : List Part
  pub is : behind.initializers ≡ f.initializers ++ (number, parts) ∷ []
  pub statics : behind.statics ≡ f.statics
  pub complete : IsObjectType (extents behind.state) type
  pub valid : (scope : Scope) (last : Structures) → Knows scope last f.state → Covers scope last behind.state
      → are_parts scope (size_of_kind (kind_in behind.state type)) parts ≡ true

abbrev pub IfAddsParts : {A : Type 0} → (number : ℕ) → File → Answer (File × A) → Type 0
IfAddsParts n f (Ok r) = AddsParts n f r.0
IfAddsParts n f (Err e) = Unit {0}
