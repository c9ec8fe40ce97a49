-- The static objects that declarations in blocks add to a file (C99 6.2.4, 6.7.8).
use Rattle.std.specs.Prelude.{◌≡◌, ℕ, Bool, true, ◌&&◌, List, [], ◌∷◌, ◌++◌, Option, Ok, Err}
use Rattle.std.specs.List.{list_all}
use Rattle.c_tree.specs.declared.c_type.TypeWord.{TypeWord}
use Rattle.c_tree.specs.Kinds.{has_size, size_of_kind}
use Rattle.c_tree.specs.Programs.{StaticObject}
use Rattle.c_tree.specs.Valid.{Scope}
use Rattle.c_tree.specs.ValidProgram.{are_parts}
use Rattle.c_faults.specs.Answer.{Answer}
use Rattle.c_unit_typing.specs.Files.{File}
use Rattle.typing_laws.specs.Validity.Steps.{Structures}
use Rattle.typing_laws.specs.Scopes.Leaving.{FileLeads}
use Rattle.program_laws.specs.Bodies.Standing.{Ends, EntitiesLead, IsReady, Numbers, Stands}

-- an object with a number has a size, and what its initializer stores is valid and lies in it
abbrev pub is_valid_object : Scope → ℕ × StaticObject → Bool
is_valid_object scope o = has_size o.1.kind && are_parts scope (size_of_kind o.1.kind) o.1.parts

abbrev pub are_valid_objects : Scope → List (ℕ × StaticObject) → Bool
are_valid_objects scope os = list_all (is_valid_object scope) os

-- objects that stand in one function
abbrev pub StandIn : (function : Option ℕ) → List (ℕ × StaticObject) → Type 0
StandIn function [] = Unit {0}
StandIn function (o ∷ os) = (o.1.function ≡ function) × StandIn function os

-- A construct of a function that gives a type adds static objects to a file. Where names stand for something of the
-- kind of their type before it, and the scope of the function lets all variables be named and has what the file has
-- behind the construct, these objects are valid, and names stand for something of the kind of their type behind it.
pub record Adds (result : List TypeWord) (f behind : File) : Type 0 where
  pub leads : FileLeads f behind
  pub ready : IsReady behind.state
  pub numbers : List ℕ
  pub numbered : Numbers numbers f behind
  pub entities : EntitiesLead f.state.environment behind.state.environment
  pub objects : List (ℕ × StaticObject)
  pub is : behind.statics ≡ f.statics ++ objects
  pub standing : StandIn f.state.function objects
  pub sound : (scope : Scope) (last : Structures) → scope.variables ≡ scope.all → Stands scope last f.state
      → Ends scope last result behind
      → Stands scope last behind.state × (are_valid_objects scope objects ≡ true)

abbrev pub IfAdds : {A : Type 0} → (result : List TypeWord) → File → Answer (File × A) → Type 0
IfAdds result f (Ok r) = Adds result f r.0
IfAdds result f (Err e) = Unit {0}
