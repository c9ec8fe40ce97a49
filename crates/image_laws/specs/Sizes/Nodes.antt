-- How many nodes the text of a program has: functions, parameters, variables, statements, expressions, case labels and
-- bytes of literals.
use Rattle.std.specs.Prelude.{ℕ, ◌+◌, List, [], ◌∷◌, length, Option, Some, None}
use Rattle.c_tree.specs.Tree.{Expression, convert, read, decay, printf}
use Rattle.c_tree.specs.Walk.{Visited, visited, walk, sum_of}
use Rattle.c_tree.specs.Statements.{Content, value_content, literal_content, Part, Initializer, of_plain, of_object}
use Rattle.c_tree.specs.Statements.{DeclaredVariable, First, nothing, first_expression, first_declaration, Statement}
use Rattle.c_tree.specs.Statements.{expression_statement, empty, declaration, block, if_then, if_else, while_do}
use Rattle.c_tree.specs.Statements.{do_while, for, switch, break, continue, return, Statements, no_statements}
use Rattle.c_tree.specs.Statements.{statements, SwitchItems, no_items, items}
use Rattle.c_tree.specs.Programs.{Function, StaticObject, Program}

-- the text has no conversion, no reading of an object and no array that becomes a pointer: typing puts these in
abbrev pub own_nodes : Visited → ℕ
own_nodes (visited kind (convert e)) = 0
own_nodes (visited kind (read p)) = 0
own_nodes (visited kind (decay p)) = 0
own_nodes (visited kind (printf format es)) = 1 + length format
own_nodes v = 1

abbrev pub nodes_made : Visited → List ℕ → ℕ
nodes_made v ns = own_nodes v + sum_of ns

abbrev pub expression_nodes : Expression → ℕ
expression_nodes = walk nodes_made

abbrev pub expression_nodes_if : Option Expression → ℕ
expression_nodes_if None = 0
expression_nodes_if (Some e) = expression_nodes e

abbrev pub content_nodes : Content → ℕ
content_nodes (value_content e) = expression_nodes e
content_nodes (literal_content bytes) = length bytes

abbrev pub parts_nodes : List Part → ℕ
parts_nodes [] = 0
parts_nodes (q ∷ qs) = content_nodes q.content + parts_nodes qs

abbrev pub initializer_nodes : Option Initializer → ℕ
initializer_nodes None = 0
initializer_nodes (Some (of_plain e)) = expression_nodes e
initializer_nodes (Some (of_object parts)) = parts_nodes parts

-- the variables themselves count with the function
abbrev pub declared_nodes : List DeclaredVariable → ℕ
declared_nodes [] = 0
declared_nodes (d ∷ ds) = initializer_nodes d.initializer + declared_nodes ds

abbrev pub first_nodes : First → ℕ
first_nodes nothing = 0
first_nodes (first_expression e) = expression_nodes e
first_nodes (first_declaration ds) = declared_nodes ds

abbrev mutual
  pub statement_nodes : Statement → ℕ
  statement_nodes (expression_statement e) = 1 + expression_nodes e
  statement_nodes empty = 1
  statement_nodes (declaration ds) = 1 + declared_nodes ds
  statement_nodes (block line body) = 1 + each_nodes body
  statement_nodes (if_then e s) = 1 + expression_nodes e + statement_nodes s
  statement_nodes (if_else e s other) = 1 + expression_nodes e + (statement_nodes s + statement_nodes other)
  statement_nodes (while_do e s) = 1 + expression_nodes e + statement_nodes s
  statement_nodes (do_while s e) = 1 + expression_nodes e + statement_nodes s
  statement_nodes (for line first condition step s) =
      1 + first_nodes first + expression_nodes_if condition + expression_nodes_if step + statement_nodes s
  statement_nodes (switch e line is) = 1 + expression_nodes e + items_nodes is
  statement_nodes break = 1
  statement_nodes continue = 1
  statement_nodes (return e) = 1 + expression_nodes_if e

  pub each_nodes : Statements → ℕ
  each_nodes no_statements = 0
  each_nodes (statements s ss) = statement_nodes s + each_nodes ss

  pub items_nodes : SwitchItems → ℕ
  items_nodes no_items = 0
  items_nodes (items labels s is) = length labels + statement_nodes s + items_nodes is

abbrev pub function_nodes : Function → ℕ
function_nodes f = 1 + length f.parameters + length f.variables + each_nodes f.body

abbrev pub functions_nodes : List Function → ℕ
functions_nodes [] = 0
functions_nodes (f ∷ fs) = function_nodes f + functions_nodes fs

-- a static object is a variable or a literal
abbrev pub statics_nodes : List StaticObject → ℕ
statics_nodes [] = 0
statics_nodes (s ∷ ss) = 1 + parts_nodes s.parts + statics_nodes ss

abbrev pub program_nodes : Program → ℕ
program_nodes p = statics_nodes p.statics + functions_nodes p.functions
