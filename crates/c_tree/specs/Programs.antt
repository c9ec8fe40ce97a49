-- Typed programs (C99 6.9).
use Rattle.std.specs.Prelude.{ℕ, Bool, List, Option}
use Rattle.c_tree.specs.declared.c_type.TypeWord.{TypeWord}
use Rattle.c_tree.specs.declared.expression.Kind.{Kind}
use Rattle.c_tree.specs.declared.program.Variable.{Variable}
use Rattle.c_tree.specs.Extents.{TypeExtent}
use Rattle.c_tree.specs.Statements.{Part, Statements}

-- a type of functions: its words, and what its parameters hold and its functions give
pub record FunctionType : Type 0 where
  pub c_type : List TypeWord
  pub parameters : List Kind
  pub result : Kind

-- a function that the source defines: the line of its name, the number of its type, its parameters, which have the
-- first numbers of its variables, its automatic variables, which have the next in order of declaration, its block, and
-- the bytes of the budget `calls` that a call of it takes
pub record Function : Type 0 where
  pub line : ℕ
  pub type_number : ℕ
  pub parameters : List Variable
  pub variables : List Variable
  pub body : Statements
  pub room : ℕ

-- a static object: what it holds, whether it is a string literal, the number of the function in whose block it stands,
-- if it stands in one, and its initializer
pub record StaticObject : Type 0 where
  pub kind : Kind
  pub is_literal : Bool
  pub function : Option ℕ
  pub parts : List Part

-- the extents of structures and unions by number, where they are complete; the static objects in the order of their
-- names or tokens; the types of functions; the functions in the order of their definitions; the number of `main`
pub record Program : Type 0 where
  pub structures : List (Option TypeExtent)
  pub statics : List StaticObject
  pub function_types : List FunctionType
  pub functions : List Function
  pub main : ℕ
