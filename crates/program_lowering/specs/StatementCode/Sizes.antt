-- How many temporaries the code of a statement needs, and how many statements are in it.
use Rattle.std.specs.Prelude.{ℕ, ◌+◌, max}
use Rattle.c_tree.specs.Blocks.{declared_contents, first_contents, if_any}
use Rattle.c_tree.specs.Room.{height}
use Rattle.c_tree.specs.Statements.{Statement, expression_statement, empty, declaration, block, if_then, if_else}
use Rattle.c_tree.specs.Statements.{while_do, do_while, for, switch, break, continue, return, Statements, no_statements}
use Rattle.c_tree.specs.Statements.{statements, SwitchItems, no_items, items}
use Rattle.program_lowering.specs.StatementParts.Code.{most}

-- as many as the greatest of what it evaluates
abbrev mutual
  pub statement_height : Statement → ℕ
  statement_height (expression_statement e) = max 1 (height e)
  statement_height empty = 1
  statement_height (declaration ds) = most (declared_contents ds)
  statement_height (block line body) = each_height body
  statement_height (if_then e s) = max (height e) (statement_height s)
  statement_height (if_else e s other) = max (height e) (max (statement_height s) (statement_height other))
  statement_height (while_do e s) = max (height e) (statement_height s)
  statement_height (do_while s e) = max (height e) (statement_height s)
  statement_height (for line first condition step s) =
      max (max (most (first_contents first)) (max (most (if_any condition)) (most (if_any step)))) (statement_height s)
  statement_height (switch e line is) = max (height e) (items_height is)
  statement_height break = 1
  statement_height continue = 1
  statement_height (return e) = most (if_any e)

  pub each_height : Statements → ℕ
  each_height no_statements = 1
  each_height (statements s ss) = max (statement_height s) (each_height ss)

  pub items_height : SwitchItems → ℕ
  items_height no_items = 1
  items_height (items labels s is) = max (statement_height s) (items_height is)

-- how many statements there are: recursion over them goes by this
abbrev mutual
  pub statement_count : Statement → ℕ
  statement_count (expression_statement e) = 1
  statement_count empty = 1
  statement_count (declaration ds) = 1
  statement_count (block line body) = 1 + each_count body
  statement_count (if_then e s) = 1 + statement_count s
  statement_count (if_else e s other) = 1 + (statement_count s + statement_count other)
  statement_count (while_do e s) = 1 + statement_count s
  statement_count (do_while s e) = 1 + statement_count s
  statement_count (for line first condition step s) = 1 + statement_count s
  statement_count (switch e line is) = 1 + items_count is
  statement_count break = 1
  statement_count continue = 1
  statement_count (return e) = 1

  pub each_count : Statements → ℕ
  each_count no_statements = 0
  each_count (statements s ss) = statement_count s + each_count ss

  pub items_count : SwitchItems → ℕ
  items_count no_items = 0
  items_count (items labels s is) = statement_count s + items_count is
