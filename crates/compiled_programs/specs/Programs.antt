-- The typed programs that have integers alone: no objects, pointers or structures, and of the library `putchar`,
-- `getchar`, `exit` and `abort`.
use Rattle.std.specs.Prelude.{ℕ, Bool, true, false, not, ◌&&◌, List, [], ◌∷◌, Option, Some, None}
use Rattle.std.specs.List.{list_all}
use Rattle.obj_memory.specs.declared.value.Scalar.TheVariants.{Integer, Pointer}
use Rattle.c_tree.specs.declared.expression.Kind.{Kind}
use Rattle.c_tree.specs.declared.expression.Kind.TheVariants.{Void, Scalar as OfScalar, Structure, Array}
use Rattle.c_tree.specs.declared.expression.Update.{Update}
use Rattle.c_tree.specs.declared.expression.Update.TheVariants.{Arithmetic, Forward, Back}
use Rattle.c_tree.specs.declared.expression.Routine.{Routine}
use Rattle.c_tree.specs.declared.expression.Routine.TheVariants.{Putchar, Getchar, Exit, Abort}
use Rattle.c_tree.specs.declared.program.Variable.{Variable}
use Rattle.c_tree.specs.Tree.{Expression, expression, Expressions, no_expressions, expressions, Node, constant, plain}
use Rattle.c_tree.specs.Tree.{parenthesized, cast, convert, unary, binary, logical_and, logical_or, comma, conditional}
use Rattle.c_tree.specs.Tree.{assign_plain, change_plain, step_plain, call, library}
use Rattle.c_tree.specs.Statements.{Initializer, of_plain, of_object, DeclaredVariable, First, nothing}
use Rattle.c_tree.specs.Statements.{first_expression, first_declaration, Statement, expression_statement, empty}
use Rattle.c_tree.specs.Statements.{declaration, block, if_then, if_else, while_do, do_while, for, switch, break}
use Rattle.c_tree.specs.Statements.{continue, return, Statements, no_statements, statements, SwitchItems, no_items}
use Rattle.c_tree.specs.Statements.{items}
use Rattle.c_tree.specs.Programs.{Function, FunctionType, StaticObject, Program}
use Rattle.c_tree.specs.Blocks.{all_of}

abbrev pub is_integer_kind : Kind → Bool
is_integer_kind (OfScalar (Integer t)) = true
is_integer_kind _ = false

-- an integer, or no value
abbrev pub has_no_pointer : Kind → Bool
has_no_pointer Void = true
has_no_pointer (OfScalar (Integer t)) = true
has_no_pointer _ = false

abbrev pub is_integer_routine : Routine → Bool
is_integer_routine Putchar = true
is_integer_routine Getchar = true
is_integer_routine Exit = true
is_integer_routine Abort = true
is_integer_routine _ = false

abbrev pub is_integer_update : Update → Bool
is_integer_update (Arithmetic op t) = true
is_integer_update (Forward size) = false
is_integer_update (Back size) = false

abbrev mutual
  pub is_integer_expression : Expression → Bool
  is_integer_expression (expression kind line node) = has_no_pointer kind && is_integer_node node

  pub is_integer_node : Node → Bool
  is_integer_node (constant w) = true
  is_integer_node (plain x) = true
  is_integer_node (parenthesized e) = is_integer_expression e
  is_integer_node (cast e) = is_integer_expression e
  is_integer_node (convert e) = is_integer_expression e
  is_integer_node (unary op e) = is_integer_expression e
  is_integer_node (binary op a b) = is_integer_expression a && is_integer_expression b
  is_integer_node (logical_and a b) = is_integer_expression a && is_integer_expression b
  is_integer_node (logical_or a b) = is_integer_expression a && is_integer_expression b
  is_integer_node (comma a b) = is_integer_expression a && is_integer_expression b
  is_integer_node (conditional c a b) =
      is_integer_expression c && is_integer_expression a && is_integer_expression b
  is_integer_node (assign_plain x e) = is_integer_expression e
  is_integer_node (change_plain u x e) = is_integer_update u && is_integer_expression e
  is_integer_node (step_plain u fixity x) = is_integer_update u
  is_integer_node (call f es) = are_integer_expressions es
  is_integer_node (library r es) = is_integer_routine r && are_integer_expressions es
  is_integer_node _ = false

  pub are_integer_expressions : Expressions → Bool
  are_integer_expressions no_expressions = true
  are_integer_expressions (expressions e es) = is_integer_expression e && are_integer_expressions es

abbrev pub is_integer_expression_if : Option Expression → Bool
is_integer_expression_if None = true
is_integer_expression_if (Some e) = is_integer_expression e

abbrev pub is_integer_initializer : Option Initializer → Bool
is_integer_initializer None = true
is_integer_initializer (Some (of_plain e)) = is_integer_expression e
is_integer_initializer (Some (of_object parts)) = false

abbrev pub are_integer_declared : List DeclaredVariable → Bool
are_integer_declared ds = list_all (λ d. is_integer_initializer d.initializer) ds

abbrev pub is_integer_first : First → Bool
is_integer_first nothing = true
is_integer_first (first_expression e) = is_integer_expression e
is_integer_first (first_declaration ds) = are_integer_declared ds

abbrev mutual
  pub is_integer_statement : Statement → Bool
  is_integer_statement (expression_statement e) = is_integer_expression e
  is_integer_statement empty = true
  is_integer_statement (declaration ds) = are_integer_declared ds
  is_integer_statement (block line body) = are_integer_statements body
  is_integer_statement (if_then e s) = is_integer_expression e && is_integer_statement s
  is_integer_statement (if_else e s other) =
      is_integer_expression e && is_integer_statement s && is_integer_statement other
  is_integer_statement (while_do e s) = is_integer_expression e && is_integer_statement s
  is_integer_statement (do_while s e) = is_integer_statement s && is_integer_expression e
  is_integer_statement (for line first condition step s) =
      is_integer_first first && is_integer_expression_if condition && is_integer_expression_if step
      && is_integer_statement s
  is_integer_statement (switch e line is) = is_integer_expression e && are_integer_items is
  is_integer_statement break = true
  is_integer_statement continue = true
  is_integer_statement (return e) = is_integer_expression_if e

  pub are_integer_statements : Statements → Bool
  are_integer_statements no_statements = true
  are_integer_statements (statements s ss) = is_integer_statement s && are_integer_statements ss

  pub are_integer_items : SwitchItems → Bool
  are_integer_items no_items = true
  are_integer_items (items labels s is) = is_integer_statement s && are_integer_items is

-- a variable that is an integer and no object
abbrev pub is_integer_variable : Variable → Bool
is_integer_variable v = not v.is_object && is_integer_kind v.kind

abbrev pub is_integer_function : Function → Bool
is_integer_function f = list_all is_integer_variable (all_of f) && are_integer_statements f.body

abbrev pub gives_no_pointer : FunctionType → Bool
gives_no_pointer t = has_no_pointer t.result

abbrev pub has_no_statics : List StaticObject → Bool
has_no_statics [] = true
has_no_statics (s ∷ ss) = false

-- a program of integers alone
unfoldable pub is_integer_program : Program → Bool
is_integer_program p =
    has_no_statics p.statics && list_all gives_no_pointer p.function_types && list_all is_integer_function p.functions
