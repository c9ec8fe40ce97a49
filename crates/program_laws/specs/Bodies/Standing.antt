-- What is known where a construct of a function stands, and what the program has of the function where it ends (C99
-- 6.2.1, 6.2.2, 6.2.4).
use Rattle.std.specs.Prelude.{◌≡◌, ℕ, ◌+◌, true, false, List, [], ◌∷◌, length, get_or, slice_get, Option, Some}
use Rattle.std.specs.Prelude.{None, Ok}
use Rattle.c_tree.specs.declared.c_type.TypeWord.{TypeWord}
use Rattle.c_tree.specs.declared.expression.Kind.TheVariants as kind
use Rattle.c_tree.specs.declared.program.Variable.{Variable}
use Rattle.c_tree.specs.Blocks.{is_among}
use Rattle.c_tree.specs.Programs.{StaticObject}
use Rattle.c_tree.specs.TypesAgree.{is_kind_of, kind_of_type}
use Rattle.c_tree.specs.Valid.{Scope, at_number, has_number, variable_at}
use Rattle.c_tree.specs.ValidProgram.{count_from, is_variable}
use Rattle.c_scope.specs.declared.meaning.Designated.{Designated}
use Rattle.c_scope.specs.declared.meaning.Designated.TheVariants as what
use Rattle.c_scope.specs.declared.meaning.Entity.{Entity}
use Rattle.c_scope.specs.declared.meaning.Meaning.{Meaning}
use Rattle.c_scope.specs.declared.meaning.Meaning.TheVariants as meaning
use Rattle.c_scope.specs.Composite.{composite}
use Rattle.c_scope.specs.Declaring.{Declaration, has_linkage, is_linked, judged}
use Rattle.c_scope.specs.Environment.{Environment, in_file, surroundings, type_or, with_declarator}
use Rattle.c_scope.specs.Names.{Name, declared}
use Rattle.c_scope.specs.Names as names
use Rattle.c_typing_state.specs.State.{State, extents}
use Rattle.c_unit_typing.specs.Files.{File}
use Rattle.typing_laws.specs.Validity.More.{AreMore}
use Rattle.typing_laws.specs.Validity.Names.{IsMeant}
use Rattle.typing_laws.specs.Validity.Sound.{Covers, IsFormed, Knows, is_sized_array}
use Rattle.typing_laws.specs.Validity.Steps.{Structures}
use Rattle.typing_laws.specs.Declarations.Binding.{linked_meaning}
use Rattle.typing_laws.specs.Layouts.Listed.{IsLaidOut}

-- a variable that can be named is as it is declared

abbrev pub IsOpen : Scope → ℕ → Type 0
IsOpen scope n = variable_at scope n ≡ at_number scope.all n

abbrev pub AreOpen : Scope → List ℕ → Type 0
AreOpen scope numbers = (n : ℕ) → is_among numbers n ≡ true → IsOpen scope n

-- each holds a scalar or is an object
abbrev pub AreVariables : Scope → List ℕ → Type 0
AreVariables scope numbers = (n : ℕ) → is_among numbers n ≡ true → is_variable (at_number scope.all n) ≡ true

abbrev pub IsOpenObject : Scope → Designated → Type 0
IsOpenObject scope (what.Variable n) = IsOpen scope n
IsOpenObject scope (what.Object n) = Unit {0}
IsOpenObject scope (what.Static n) = Unit {0}
IsOpenObject scope (what.Function n) = Unit {0}
IsOpenObject scope (what.Library f) = Unit {0}

abbrev pub IsOpenMeaning : Scope → Option Meaning → Type 0
IsOpenMeaning scope None = Unit {0}
IsOpenMeaning scope (Some (meaning.Typedef type)) = Unit {0}
IsOpenMeaning scope (Some (meaning.Constant w)) = Unit {0}
IsOpenMeaning scope (Some (meaning.Named d type)) = IsOpenObject scope d

-- names stand for something of the kind of their type, variables among them that can be named
pub record Stands (scope : Scope) (last : Structures) (state : State) : Type 0 where
  pub knows : Knows scope last state
  pub named : (name : Name) → IsOpenMeaning scope (names.meaning name state.environment.names)

-- what has linkage stays what it is, and its type becomes the composite type with those of further declarations

abbrev pub composed : List TypeWord → (others : List (List TypeWord)) → List TypeWord
composed type [] = type
composed type (t ∷ ts) = composed (type_or (composite type t) type) ts

pub record EntityLeads (e : Entity) (behind : Option Entity) : Type 0 where
  pub entity : Entity
  pub is : behind ≡ Some entity
  pub same : entity.what ≡ e.what
  pub others : List (List TypeWord)
  pub type : entity.c_type ≡ composed e.c_type others

pub record EntitiesLead (env behind : Environment) : Type 0 where
  pub each : (name : Name) (e : Entity) → declared name env.entities ≡ Some e
      → EntityLeads e (declared name behind.entities)

-- a name with linkage stands for what its declarations with linkage say, which is no variable and no object without
-- linkage

pub record IsEntity (designated : Designated) (o : Option Entity) : Type 0 where
  pub entity : Entity
  pub is : o ≡ Some entity
  pub same : entity.what ≡ designated

pub record AreLinked (env : Environment) : Type 0 where
  pub entities : (name : Name) (e : Entity) → declared name env.entities ≡ Some e → is_linked e.what ≡ true
  pub names : (name : Name) (d : Designated) (type : List TypeWord)
      → names.meaning name env.names ≡ Some (meaning.Named d type) → is_linked d ≡ true
      → IsEntity d (declared name env.entities)

-- a state inside a block: its names with linkage stand for what their declarations say, and it is laid out
pub record IsReady (state : State) : Type 0 where
  pub formed : IsFormed state
  pub inner : in_file state.environment ≡ false
  pub linked : AreLinked state.environment
  pub laid : IsLaidOut state

-- Names that a declaration in a block declares with linkage stand for something of the kind of their type, where the
-- name did so before, if it stood for something with linkage.

abbrev pub IsMeantIfLinked : Scope → (last : Structures) → State → Option Meaning → Type 0
IsMeantIfLinked scope last s None = Unit {0}
IsMeantIfLinked scope last s (Some (meaning.Typedef type)) = Unit {0}
IsMeantIfLinked scope last s (Some (meaning.Constant w)) = Unit {0}
IsMeantIfLinked scope last s (Some (meaning.Named d type)) =
    is_linked d ≡ true → IsMeant scope last s (Some (meaning.Named d type))

pub record LinkedAreMeant (scope : Scope) (last : Structures) (end : State) : Type 0 where
  pub each : (s : State) (d : Declaration) → IsReady s → is_sized_array d.type ≡ true
      → judged (surroundings s.environment d) d ≡ Ok tt → has_linkage (in_file s.environment) d ≡ true
      → EntitiesLead (with_declarator s.environment d) end.environment → AreMore (extents s) (extents end)
      → end.environment.facts ≡ s.environment.facts
      → IsMeantIfLinked scope last s (names.meaning d.name s.environment.names)
      → IsMeant scope last s (Some (linked_meaning s.environment d))

-- what a function gives has the kind of its type
pub record IsResult (scope : Scope) (last : Structures) (type : List TypeWord) : Type 0 where
  pub kind : is_kind_of (kind_of_type last type) scope.result ≡ true

-- a static object is among those of the program
pub record IsStaticIn (scope : Scope) (number : ℕ) (object : StaticObject) : Type 0 where
  pub there : has_number scope.statics number ≡ true
  pub kind : get_or scope.statics number kind.Void ≡ object.kind

-- The scope of a function that gives a type has what the file has so far: the variables, which are numbered from a
-- first one on, the static objects, and what names with linkage stand for.
pub record Ends (scope : Scope) (last : Structures) (result : List TypeWord) (file : File) : Type 0 where
  pub covers : Covers scope last file.state
  pub gives : IsResult scope last result
  pub lengths : length scope.variables ≡ length scope.all
  pub first : ℕ
  pub count : file.state.environment.variables ≡ first + length file.variables
  pub variables : (k : ℕ) (v : Variable) → slice_get file.variables k ≡ Some v → at_number scope.all (first + k) ≡ v
  pub statics : (k n : ℕ) (x : StaticObject) → slice_get file.statics k ≡ Some (n, x) → IsStaticIn scope n x
  pub linked : LinkedAreMeant scope last file.state

-- the variables of a construct are numbered in the order of the text, and there are as many more in the file
pub record Numbers (numbers : List ℕ) (f behind : File) : Type 0 where
  pub counted : count_from f.state.environment.variables numbers ≡ true
  pub count : behind.state.environment.variables ≡ f.state.environment.variables + length numbers
  pub made : length behind.variables ≡ length f.variables + length numbers
