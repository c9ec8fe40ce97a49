-- A property of all objects that an initializer names so far: those that are current and open, and those of the lists
-- in braces around (C99 6.7.8 paragraphs 17 to 20).
use Rattle.std.specs.Prelude.{List, [], ◌∷◌, Option, Some, None}
use Rattle.c_current_object.specs.declared.current.CurrentObject.{CurrentObject}
use Rattle.c_current_object.specs.declared.current.Open.{Open}
use Rattle.c_current_object.specs.declared.subobject.Subobject.{Subobject}
use Rattle.c_initializer_rules.specs.declared.initializing.Braces.{Braces}
use Rattle.c_initializer_rules.specs.declared.initializing.Next.{Next}
use Rattle.c_initializer_rules.specs.Initializing.{Initializing}
use Rattle.c_initializer_rules.specs.Placed.{PlacedPart}

abbrev pub HasIf : (P : Subobject → Type 0) → Option Subobject → Type 0
HasIf P None = Unit {0}
HasIf P (Some o) = P o

abbrev pub AreOpen : (P : Subobject → Type 0) → List Open → Type 0
AreOpen P [] = Unit {0}
AreOpen P (o ∷ os) = P o.object × AreOpen P os

-- the current object, and those in which it lies
pub record IsCurrent (P : Subobject → Type 0) (current : CurrentObject) : Type 0 where
  pub object : P current.object
  pub levels : AreOpen P current.levels

abbrev pub IsNext : (P : Subobject → Type 0) → Option Next → Type 0
IsNext P None = Unit {0}
IsNext P (Some n) = IsCurrent P n.current

pub record IsList (P : Subobject → Type 0) (braces : Braces) : Type 0 where
  pub object : HasIf P braces.object
  pub behind : AreOpen P braces.behind

abbrev pub AreLists : (P : Subobject → Type 0) → List Braces → Type 0
AreLists P [] = Unit {0}
AreLists P (l ∷ ls) = IsList P l × AreLists P ls

pub record HoldsOfAll (P : Subobject → Type 0) (initializing : Initializing) : Type 0 where
  pub next : IsNext P initializing.next
  pub list : IsList P initializing.list
  pub outer : AreLists P initializing.outer

-- a property of all parts so far
abbrev pub Every : (Q : PlacedPart → Type 0) → List PlacedPart → Type 0
Every Q [] = Unit {0}
Every Q (p ∷ ps) = Q p × Every Q ps

-- an initializer so far, with a property of its objects and one of its parts
pub record IsPlacing (P : Subobject → Type 0) (R : List PlacedPart
    → Type 0) (initializing : Initializing) : Type 0 where
  pub objects : HoldsOfAll P initializing
  pub parts : R initializing.parts
