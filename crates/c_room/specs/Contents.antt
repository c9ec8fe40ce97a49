-- What the contents of statements and initializers demand, one after the other, with what is demanded before.
use Rattle.std.specs.Prelude.{List, [], ◌∷◌, map, Option, Some, None}
use Rattle.c_tree.specs.Tree.{Expression}
use Rattle.c_tree.specs.Statements.{Content, value_content, literal_content, Initializer, of_plain, of_object}
use Rattle.c_tree.specs.Statements.{DeclaredVariable, First, nothing, first_expression, first_declaration, Statement}
use Rattle.c_tree.specs.Statements.{expression_statement, empty, declaration, block, if_then, if_else, while_do}
use Rattle.c_tree.specs.Statements.{do_while, for, switch, break, continue, return, Statements, no_statements}
use Rattle.c_tree.specs.Statements.{statements, SwitchItems, no_items, items}
use Rattle.c_room.specs.declared.demand.Demand.{Demand}
use Rattle.c_room.specs.Demands.{beside, demand, value}

abbrev pub content_demand : Content → Demand
content_demand (value_content e) = demand e
content_demand (literal_content bytes) = value 0

abbrev pub with_contents : Demand → List Content → Demand
with_contents d [] = d
with_contents d (c ∷ cs) = with_contents (beside d (content_demand c)) cs

abbrev pub with_optional : Demand → Option Expression → Demand
with_optional d None = d
with_optional d (Some e) = beside d (demand e)

abbrev pub with_initializer : Demand → Option Initializer → Demand
with_initializer d None = d
with_initializer d (Some (of_plain e)) = beside d (demand e)
with_initializer d (Some (of_object parts)) = with_contents d (map (λ p. p.content) parts)

abbrev pub with_declared : Demand → List DeclaredVariable → Demand
with_declared d [] = d
with_declared d (x ∷ xs) = with_declared (with_initializer d x.initializer) xs

abbrev pub with_first : Demand → First → Demand
with_first d nothing = d
with_first d (first_expression e) = beside d (demand e)
with_first d (first_declaration xs) = with_declared d xs

abbrev mutual
  pub with_statement : Demand → Statement → Demand
  with_statement d (expression_statement e) = beside d (demand e)
  with_statement d empty = d
  with_statement d (declaration xs) = with_declared d xs
  with_statement d (block line body) = with_statements d body
  with_statement d (if_then e s) = with_statement (beside d (demand e)) s
  with_statement d (if_else e s other) = with_statement (with_statement (beside d (demand e)) s) other
  with_statement d (while_do e s) = with_statement (beside d (demand e)) s
  with_statement d (do_while s e) = beside (with_statement d s) (demand e)
  with_statement d (for line first condition step s) =
      with_statement (with_optional (with_optional (with_first d first) condition) step) s
  with_statement d (switch e line is) = with_items (beside d (demand e)) is
  with_statement d break = d
  with_statement d continue = d
  with_statement d (return e) = with_optional d e

  pub with_statements : Demand → Statements → Demand
  with_statements d no_statements = d
  with_statements d (statements s ss) = with_statements (with_statement d s) ss

  pub with_items : Demand → SwitchItems → Demand
  with_items d no_items = d
  with_items d (items labels s is) = with_items (with_statement d s) is
