-- The static objects of a block, and string literals, in the program of their file (C99 6.2.4, 6.4.5, 6.7.8).
use Rattle.std.specs.Prelude.{◌≡◌, ℕ, Bool, true, List, [], ◌∷◌, ◌++◌, Some}
use Rattle.std.specs.List.{list_all}
use Rattle.c_tree.specs.declared.expression.Kind.TheVariants as kind
use Rattle.c_tree.specs.Blocks.{all_of}
use Rattle.c_tree.specs.Programs.{Function, Program, StaticObject}
use Rattle.c_tree.specs.Valid.{Scope, has_number}
use Rattle.c_tree.specs.ValidProgram.{is_function_number, is_static_object, scope_in, variables_of_function}
use Rattle.c_typing_state.specs.State.{Literal}
use Rattle.c_unit_typing.specs.Files.{Definition, File}
use Rattle.c_unit_typing.specs.Programs.{program_of}
use Rattle.program_laws.specs.Scopes.Scopes.{AreOfOneProgram}
use Rattle.typing_laws.specs.Validity.Sound.{Covers}
use Rattle.typing_laws.specs.Validity.Steps.{Structures}
use Rattle.program_laws.specs.Bodies.Defined.{Defines, IsScopeOf}
use Rattle.program_laws.specs.Bodies.Whole.{AreInTurn}
use Rattle.program_laws.specs.Statics.Linked.{are_initialized}

-- The function that a program makes of a definition has the number of that; the scope in the block of its body is one
-- of the program.
pub record IsFunctionOf (p : Program) (structures : Structures) (f behind : File)
    (definition : Defines f behind) : Type 0 where
  pub function : Function
  pub scope : Scope
  pub is : IsScopeOf scope structures function f behind definition
  pub program : AreOfOneProgram scope (scope_in p [] [] kind.Void)
  pub number : has_number p.functions definition.number ≡ true
  pub variables : variables_of_function p.functions (Some definition.number) ≡ all_of function

abbrev pub are_static_objects : Program → List (ℕ × StaticObject) → Bool
are_static_objects p os = list_all (λ o. is_static_object p o.1) os

-- what a block adds to the static objects of a file are static objects of its program
pub record AddsObjectsOf (program : Program) (before end : File) : Type 0 where
  pub objects : List (ℕ × StaticObject)
  pub is : end.statics ≡ before.statics ++ objects
  pub valid : are_static_objects program objects ≡ true

-- string literals stand outside of functions, or in functions of a program
abbrev pub stand_in_functions : Program → List Literal → Bool
stand_in_functions p ls = list_all (λ l. is_function_number p l.function) ls

-- each definition of a file has its function in a program
abbrev pub AreFunctionsOf : (p : Program) (structures : Structures) (end : File) (ds : List Definition)
    (before behind : List (ℕ × StaticObject)) → AreInTurn end ds before behind → Type 0
AreFunctionsOf p structures end [] before behind turn = Unit {0}
AreFunctionsOf p structures end (d ∷ ds) before behind turn =
    IsFunctionOf p structures turn.0.is.before turn.0.is.behind turn.0.is.defines
    × AreFunctionsOf p structures end ds turn.0.is.defines.end.statics behind turn.1

-- What else holds of the program of a file: the definitions, in turn, have their functions, in which string literals
-- stand; in some scope it has what the file has; and what the initializers of objects with linkage store is valid
-- and lies in them.
pub record HasObjectsOf (file : File) : Type 0 where
  pub turn : AreInTurn file file.definitions [] file.statics
  pub functions : AreFunctionsOf (program_of file) (program_of file).structures file file.definitions [] file.statics
      turn
  pub scope : Scope
  pub covers : Covers scope (program_of file).structures file.state
  pub literals : stand_in_functions (program_of file) file.state.literals ≡ true
  pub linked : are_initialized (program_of file) file file.state.environment.entities ≡ true
