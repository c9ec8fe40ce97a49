-- What declarations leave of objects and functions with linkage (C99 6.2.2, 6.2.7).
use Rattle.std.specs.Prelude.{◌⊎◌, ◌≡◌, ℕ, length, Bool, true, false, List, [], ◌∷◌, Option, Some, None, Ok, Err}
use Rattle.c_tree.specs.declared.c_type.TypeWord.{TypeWord}
use Rattle.c_tree.specs.declared.c_type.TypeWord.TheVariants as word
use Rattle.c_scope.specs.declared.meaning.Designated.{Designated}
use Rattle.c_scope.specs.declared.meaning.Designated.TheVariants as what
use Rattle.c_scope.specs.declared.meaning.Entity.{Entity}
use Rattle.c_scope.specs.Declaring.{is_function}
use Rattle.c_scope.specs.Environment.{number_or}
use Rattle.c_scope.specs.Names.{Name, Names, declared}
use Rattle.c_faults.specs.Answer.{Answer}
use Rattle.c_unit_typing.specs.Files.{File}

-- the words of a type but for the sizes of its arrays
abbrev pub without_sizes : List TypeWord → List TypeWord
without_sizes [] = []
without_sizes (word.Array count bytes ∷ ws) = word.OpenArray ∷ without_sizes ws
without_sizes (w ∷ ws) = w ∷ without_sizes ws

-- the same words, but for arrays that have a size now
abbrev pub FillsWord : TypeWord → TypeWord → Type 0
FillsWord v w = (w ≡ v) ⊎ ((v ≡ word.OpenArray) × ((n : ℕ) × ((b : ℕ) × (w ≡ word.Array n b))))

abbrev pub Fills : List TypeWord → List TypeWord → Type 0
Fills [] [] = Unit {0}
Fills [] (w ∷ ws) = true ≡ false
Fills (v ∷ vs) [] = true ≡ false
Fills (v ∷ vs) (w ∷ ws) = FillsWord v w × Fills vs ws

abbrev pub is_library : Designated → Bool
is_library (what.Library f) = true
is_library d = false

abbrev pub names_function : Designated → Bool
names_function (what.Function n) = true
names_function d = false

-- the same object or function, which may be defined now, but no function without a body
pub record IsSame (x : Entity) (more : Option Entity) : Type 0 where
  pub entity : Entity
  pub there : more ≡ Some entity
  pub what : entity.what ≡ x.what
  pub words : without_sizes entity.c_type ≡ without_sizes x.c_type
  pub fills : Fills x.c_type entity.c_type
  pub defined : x.is_defined ≡ true → entity.is_defined ≡ true
  pub only : is_function entity.c_type ≡ true → entity.is_defined ≡ true → x.is_defined ≡ true

-- the number of a function, by its name, where a file that defines it says the numbers
abbrev pub number_of : Name → Names ℕ → ℕ
number_of name numbers = number_or (declared name numbers) (length numbers)

pub record AreNumbered (numbers : Names ℕ) (es : Names Entity) : Type 0 where
  pub each : (name : Name) (x : Entity) (n : ℕ) → declared name es ≡ Some x → x.what ≡ what.Function n
      → n ≡ number_of name numbers

-- one that is declared for the first time
pub record IsFirst (number : ℕ) (entity : Entity) : Type 0 where
  pub own : is_library entity.what ≡ false
  pub kind : names_function entity.what ≡ is_function entity.c_type
  pub undefined : is_function entity.c_type ≡ true → entity.is_defined ≡ false
  pub numbered : (n : ℕ) → entity.what ≡ what.Function n → n ≡ number

pub record Keeps (numbers : Names ℕ) (es more : Names Entity) : Type 0 where
  pub same : (name : Name) (x : Entity) → declared name es ≡ Some x → IsSame x (declared name more)
  pub first : (name : Name) (x : Entity) → declared name es ≡ None → declared name more ≡ Some x
      → IsFirst (number_of name numbers) x

-- an object or function that is known stays the same, up to sizes of arrays, and stays defined

pub record IsStill (x : Entity) (more : Option Entity) : Type 0 where
  pub entity : Entity
  pub there : more ≡ Some entity
  pub what : entity.what ≡ x.what
  pub words : without_sizes entity.c_type ≡ without_sizes x.c_type
  pub fills : Fills x.c_type entity.c_type
  pub defined : x.is_defined ≡ true → entity.is_defined ≡ true

pub record Continue (es more : Names Entity) : Type 0 where
  pub each : (name : Name) (x : Entity) → declared name es ≡ Some x → IsStill x (declared name more)

abbrev pub IfContinues : {A : Type 0} → File → Answer (File × A) → Type 0
IfContinues f (Ok r) = Continue f.state.environment.entities r.0.state.environment.entities
IfContinues f (Err e) = Unit {0}
