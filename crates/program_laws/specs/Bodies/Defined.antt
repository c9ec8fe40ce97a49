-- Functions that are defined (C99 6.9.1): what their blocks are typed to, and the functions of a program that are made
-- of them.
use Rattle.std.specs.Prelude.{◌≡◌, ◌⊎◌, ℕ, true, false, List, ◌++◌, slice_get, Some, Ok, Err}
use Rattle.c_syntax.specs.Statements.{BlockItems}
use Rattle.c_tree.specs.declared.c_type.TypeWord.{TypeWord}
use Rattle.c_tree.specs.declared.expression.Kind.{Kind}
use Rattle.c_tree.specs.Blocks.{all_of, block_variables, body_variables, each_variables}
use Rattle.c_tree.specs.Programs.{Function, StaticObject}
use Rattle.c_tree.specs.Statements.{Statements}
use Rattle.c_tree.specs.TypesAgree.{agrees}
use Rattle.c_tree.specs.Valid.{Scope}
use Rattle.c_tree.specs.ValidProgram.{Inside, are_statements}
use Rattle.c_faults.specs.Answer.{Answer}
use Rattle.c_call_rules.specs.FunctionTypes.{result_type}
use Rattle.c_scope.specs.Parameters.{ParameterScope}
use Rattle.c_typing_state.specs.State.{extents}
use Rattle.c_unit_typing.specs.Files.{File}
use Rattle.c_unit_typing.specs.Statements.{block_items}
use Rattle.c_unit_typing.specs.Units.{around_body, entered, left, parameters_in}
use Rattle.typing_laws.specs.Validity.Sound.{Covers, Knows}
use Rattle.typing_laws.specs.Validity.Steps.{Structures}
use Rattle.typing_laws.specs.Declarators.Given.{IsParameterScope}
use Rattle.typing_laws.specs.Scopes.Leaving.{FileLeads}
use Rattle.typing_laws.specs.Scopes.Regular.{are_regular_block_items}
use Rattle.program_laws.specs.Bodies.Parameters.{AreParameters, IsFileScope, IsOutside}
use Rattle.program_laws.specs.Bodies.Standing.{EntitiesLead, IsReady, IsResult, IsStaticIn, LinkedAreMeant}
use Rattle.program_laws.specs.Bodies.Typed.{Typed}
use Rattle.program_laws.specs.Bodies.Types.{AreTypesOf, KindsFit}

-- neither `break` nor `continue` may stand in the block of a function by itself (6.8.6)
abbrev pub no_jumps : Inside
no_jumps = record { may_break = false; may_continue = false }

abbrev pub AreValid : Scope → Statements → Type 0
AreValid scope body = are_statements scope no_jumps body ≡ true

-- from the file at its `{` to the file at its `}`
abbrev pub IsBody : (type : List TypeWord) → (first last : File) → Statements → Type 0
IsBody type first last body =
    Typed (result_type 0 type) each_variables block_variables AreValid first (last, body)

-- a definition: behind the declarator, in the scope of its parameters, the items of its block are typed
pub record Defines (f behind : File) : Type 0 where
  pub line : ℕ
  pub number : ℕ
  pub type : List TypeWord
  pub parameters : ParameterScope
  pub before : File
  pub leads : FileLeads f before
  pub entities : EntitiesLead f.state.environment before.state.environment
  pub statics : before.statics ≡ f.statics
  pub scope : IsParameterScope before.state parameters
  pub numbered : AreParameters (extents before.state) parameters.variables parameters.names 0
  pub names : IsFileScope before.state.environment
  pub types : List (List TypeWord)
  pub of : AreTypesOf parameters.names types
  pub takes : (es : Structures) (ks : List Kind) (k : Kind) → agrees es type ks k ≡ true → KindsFit es types ks
  pub block : BlockItems
  pub regular : are_regular_block_items block ≡ true
  pub ready : IsReady (entered number type parameters before).state
  pub end : File
  pub body : Statements
  pub items : block_items (around_body type) block (entered number type parameters before) ≡ Ok (end, body)
  pub typed : IsBody type (entered number type parameters before) end body
  pub is : behind ≡ left line type (parameters_in (entered number type parameters before).state parameters.names)
      (end, body)

-- Behind it the file is outside of functions again. What is no declarator of a function with a name, as no well-formed
-- one is, defines nothing.

pub record DefinesNothing (f behind : File) : Type 0 where
  pub definitions : behind.definitions ≡ f.definitions
  pub statics : behind.statics ≡ f.statics

pub record IsDefined (f behind : File) : Type 0 where
  pub outside : IsOutside behind.state
  pub entities : EntitiesLead f.state.environment behind.state.environment
  pub is : Defines f behind ⊎ DefinesNothing f behind

abbrev pub IfDefined : File → Answer (File × Unit {0}) → Type 0
IfDefined f (Ok r) = IsDefined f r.0
IfDefined f (Err e) = Unit {0}

-- a program has what a file has: the string literals, the types of functions that are called, the static objects, and
-- what names with linkage stand for
pub record HasFile (scope : Scope) (structures : Structures) (file : File) : Type 0 where
  pub covers : Covers scope structures file.state
  pub statics : (k n : ℕ) (x : StaticObject) → slice_get file.statics k ≡ Some (n, x) → IsStaticIn scope n x
  pub linked : LinkedAreMeant scope structures file.state

-- The scope in the block of a function of the program that is made of a definition: its variables are the parameters
-- and those that the file has at the end of the block, what it gives has the kind of its type, names stood for
-- something of the kind of their type behind the declarator, and the program has what the file has at the end of the
-- block.
pub record IsScopeOf (scope : Scope) (structures : Structures) (function : Function) (f behind : File)
    (definition : Defines f behind) : Type 0 where
  pub all : scope.all ≡ all_of function
  pub variables : scope.variables ≡ function.parameters ++ body_variables function
  pub parameters : function.parameters
      ≡ parameters_in (entered definition.number definition.type definition.parameters definition.before).state
      definition.parameters.names
  pub declared : function.variables ≡ definition.end.variables
  pub body : function.body ≡ definition.body
  pub gives : IsResult scope structures (result_type 0 definition.type)
  pub knows : Knows scope structures definition.before.state
  pub has : HasFile scope structures definition.end
