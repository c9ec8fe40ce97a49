-- Whether the text of a statement or an initializer assigns a plain variable (C99 6.5.16, 6.7.8), in whatever part of
-- it.
use Rattle.std.specs.Prelude.{ℕ, Bool, false, ◌||◌, ◌==◌, List, [], ◌∷◌, Option, Some, None}
use Rattle.c_tree.specs.Tree.{Expression}
use Rattle.c_tree.specs.Statements.{Content, value_content, literal_content, Part, Initializer, of_plain, of_object}
use Rattle.c_tree.specs.Statements.{DeclaredVariable, First, nothing, first_expression, first_declaration, Statement}
use Rattle.c_tree.specs.Statements.{expression_statement, empty, declaration, block, if_then, if_else, while_do}
use Rattle.c_tree.specs.Statements.{do_while, for, switch, break, continue, return, Statements, no_statements}
use Rattle.c_tree.specs.Statements.{statements, SwitchItems, no_items, items}
use Rattle.c_tree.specs.Walk.{assigns}

abbrev pub content_assigns : (variable : ℕ) → Content → Bool
content_assigns y (value_content e) = assigns y e
content_assigns y (literal_content bytes) = false

abbrev pub parts_assign : (variable : ℕ) → List Part → Bool
parts_assign y [] = false
parts_assign y (p ∷ ps) = content_assigns y p.content || parts_assign y ps

-- an initializer of a plain variable assigns it
abbrev pub initializer_assigns : (variable declared : ℕ) → Option Initializer → Bool
initializer_assigns y x None = false
initializer_assigns y x (Some (of_plain e)) = (x == y) || assigns y e
initializer_assigns y x (Some (of_object parts)) = parts_assign y parts

abbrev pub declared_assign : (variable : ℕ) → List DeclaredVariable → Bool
declared_assign y [] = false
declared_assign y (d ∷ ds) = initializer_assigns y d.variable d.initializer || declared_assign y ds

abbrev pub first_assigns : (variable : ℕ) → First → Bool
first_assigns y nothing = false
first_assigns y (first_expression e) = assigns y e
first_assigns y (first_declaration ds) = declared_assign y ds

abbrev pub if_assigns : (variable : ℕ) → Option Expression → Bool
if_assigns y None = false
if_assigns y (Some e) = assigns y e

abbrev mutual
  pub statement_assigns : (variable : ℕ) → Statement → Bool
  statement_assigns y (expression_statement e) = assigns y e
  statement_assigns y empty = false
  statement_assigns y (declaration ds) = declared_assign y ds
  statement_assigns y (block line body) = each_assigns y body
  statement_assigns y (if_then e s) = assigns y e || statement_assigns y s
  statement_assigns y (if_else e s other) = assigns y e || (statement_assigns y s || statement_assigns y other)
  statement_assigns y (while_do e s) = assigns y e || statement_assigns y s
  statement_assigns y (do_while s e) = statement_assigns y s || assigns y e
  statement_assigns y (for line first condition next s) =
      first_assigns y first || (if_assigns y condition || (if_assigns y next || statement_assigns y s))
  statement_assigns y (switch e line is) = assigns y e || items_assign y is
  statement_assigns y break = false
  statement_assigns y continue = false
  statement_assigns y (return e) = if_assigns y e

  pub each_assigns : (variable : ℕ) → Statements → Bool
  each_assigns y no_statements = false
  each_assigns y (statements s ss) = statement_assigns y s || each_assigns y ss

  pub items_assign : (variable : ℕ) → SwitchItems → Bool
  items_assign y no_items = false
  items_assign y (items labels s is) = statement_assigns y s || items_assign y is
