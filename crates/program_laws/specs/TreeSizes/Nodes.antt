-- How many nodes a typed program has: statements, variables that declarations declare, labels, parts of initializers,
-- expressions and lvalues, also those that typing puts in (C99 6.3); the bytes of literals aside.
use Rattle.std.specs.Prelude.{ℕ, ◌+◌, List, [], ◌∷◌, length, Option, Some, None}
use Rattle.c_tree.specs.Tree.{Expression, Lvalue}
use Rattle.c_tree.specs.Walk.{Visited, walk, walk_lvalue, sum_of}
use Rattle.c_tree.specs.Statements.{Content, DeclaredVariable, First, Initializer, Part, Statement, Statements}
use Rattle.c_tree.specs.Statements.{SwitchItems, block, break, continue, declaration, do_while, empty}
use Rattle.c_tree.specs.Statements.{expression_statement, first_declaration, first_expression, for, if_else, if_then}
use Rattle.c_tree.specs.Statements.{items, literal_content, no_items, no_statements, nothing, of_object, of_plain}
use Rattle.c_tree.specs.Statements.{return, statements, switch, value_content, while_do}
use Rattle.c_tree.specs.Programs.{Function, StaticObject, Program}

abbrev pub nodes_made : Visited → List ℕ → ℕ
nodes_made v ns = 1 + sum_of ns

abbrev pub nodes : Expression → ℕ
nodes = walk nodes_made

abbrev pub lvalue_nodes : Lvalue → ℕ
lvalue_nodes = walk_lvalue nodes_made

abbrev pub nodes_if : Option Expression → ℕ
nodes_if None = 0
nodes_if (Some e) = nodes e

abbrev pub content_nodes : Content → ℕ
content_nodes (value_content e) = nodes e
content_nodes (literal_content bytes) = 0

abbrev pub part_nodes : Part → ℕ
part_nodes p = 1 + content_nodes p.content

abbrev pub parts_nodes : List Part → ℕ
parts_nodes [] = 0
parts_nodes (p ∷ ps) = part_nodes p + parts_nodes ps

abbrev pub initializer_nodes : Option Initializer → ℕ
initializer_nodes None = 0
initializer_nodes (Some (of_plain e)) = 1 + nodes e
initializer_nodes (Some (of_object parts)) = parts_nodes parts

abbrev pub declared_nodes : List DeclaredVariable → ℕ
declared_nodes [] = 0
declared_nodes (d ∷ ds) = 1 + initializer_nodes d.initializer + declared_nodes ds

abbrev pub first_nodes : First → ℕ
first_nodes nothing = 0
first_nodes (first_expression e) = nodes e
first_nodes (first_declaration ds) = declared_nodes ds

abbrev mutual
  pub statement_nodes : Statement → ℕ
  statement_nodes (expression_statement e) = 1 + nodes e
  statement_nodes empty = 1
  statement_nodes (declaration ds) = 1 + declared_nodes ds
  statement_nodes (block line body) = 1 + statements_nodes body
  statement_nodes (if_then e s) = 1 + nodes e + statement_nodes s
  statement_nodes (if_else e s other) = 1 + nodes e + statement_nodes s + statement_nodes other
  statement_nodes (while_do e s) = 1 + nodes e + statement_nodes s
  statement_nodes (do_while s e) = 1 + nodes e + statement_nodes s
  statement_nodes (for line first condition step s) =
      1 + first_nodes first + nodes_if condition + nodes_if step + statement_nodes s
  statement_nodes (switch e line is) = 1 + nodes e + items_nodes is
  statement_nodes break = 1
  statement_nodes continue = 1
  statement_nodes (return e) = 1 + nodes_if e

  pub statements_nodes : Statements → ℕ
  statements_nodes no_statements = 0
  statements_nodes (statements s ss) = statement_nodes s + statements_nodes ss

  pub items_nodes : SwitchItems → ℕ
  items_nodes no_items = 0
  items_nodes (items labels s is) = length labels + statement_nodes s + items_nodes is

abbrev pub functions_nodes : List Function → ℕ
functions_nodes [] = 0
functions_nodes (f ∷ fs) = statements_nodes f.body + functions_nodes fs

abbrev pub statics_nodes : List StaticObject → ℕ
statics_nodes [] = 0
statics_nodes (o ∷ os) = parts_nodes o.parts + statics_nodes os

-- in the bodies of its functions and in the initializers of its static objects
abbrev pub nodes_of : Program → ℕ
nodes_of p = statics_nodes p.statics + functions_nodes p.functions
