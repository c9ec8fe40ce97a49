-- Statements whose expressions and initializers are valid where names stand for this (C99 6.7.8, 6.8), wherever their
-- jumps, labels and declarations stand.
use Rattle.std.specs.Prelude.{Bool, true, ◌&&◌, Option}
use Rattle.c_tree.specs.Blocks.{block_variables, first_variables, switch_variables}
use Rattle.c_tree.specs.Kinds.{is_promoted}
use Rattle.c_tree.specs.Statements.{First, Statement, Statements, SwitchItems}
use Rattle.c_tree.specs.Statements as tree
use Rattle.c_tree.specs.Tree.{Expression, kind_of}
use Rattle.c_tree.specs.Valid.{Scope, is_condition, is_valid, within}
use Rattle.c_tree.specs.ValidProgram.{are_declared, is_condition_if, is_expression_if, is_first, is_return}

-- the three parts of the head of a `for`
abbrev pub is_valid_head : Scope → First → (condition step : Option Expression) → Bool
is_valid_head scope first condition step =
    is_first scope first && (is_condition_if scope condition && is_expression_if scope step)

abbrev mutual
  pub has_valid_parts : Scope → Statement → Bool
  has_valid_parts scope (tree.expression_statement e) = is_valid scope e
  has_valid_parts scope tree.empty = true
  has_valid_parts scope (tree.declaration ds) = are_declared scope ds
  has_valid_parts scope (tree.block line body) = have_valid_parts (within scope (block_variables body)) body
  has_valid_parts scope (tree.if_then e s) = is_condition scope e && has_valid_parts scope s
  has_valid_parts scope (tree.if_else e s other) =
      is_condition scope e && (has_valid_parts scope s && has_valid_parts scope other)
  has_valid_parts scope (tree.while_do e s) = is_condition scope e && has_valid_parts scope s
  has_valid_parts scope (tree.do_while s e) = has_valid_parts scope s && is_condition scope e
  has_valid_parts scope (tree.for line first condition step s) =
      is_valid_head (within scope (first_variables first)) first condition step
      && has_valid_parts (within scope (first_variables first)) s
  has_valid_parts scope (tree.switch e line is) =
      (is_valid scope e && is_promoted (kind_of e)) && items_have_valid_parts (within scope (switch_variables is)) is
  has_valid_parts scope tree.break = true
  has_valid_parts scope tree.continue = true
  has_valid_parts scope (tree.return e) = is_return scope e

  pub have_valid_parts : Scope → Statements → Bool
  have_valid_parts scope tree.no_statements = true
  have_valid_parts scope (tree.statements s ss) = has_valid_parts scope s && have_valid_parts scope ss

  pub items_have_valid_parts : Scope → SwitchItems → Bool
  items_have_valid_parts scope tree.no_items = true
  items_have_valid_parts scope (tree.items labels s is) = has_valid_parts scope s && items_have_valid_parts scope is
