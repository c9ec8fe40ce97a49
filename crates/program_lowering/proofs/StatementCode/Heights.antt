-- What statements need is what their expressions need.
use Rattle.std.proofs.Common.{◌≡◌, ℕ, ◌≤◌, [], ◌∷◌, ◌++◌, arith, le_trans}
use Rattle.std.specs.Prelude.{max}
use Rattle.c_tree.specs.Blocks.{contents_of, each_contents, items_contents, first_contents, if_any}
use Rattle.c_tree.specs.Room.{height, greatest_height}
use Rattle.c_tree.specs.Statements.{Statement, expression_statement, empty, declaration, block, if_then, if_else}
use Rattle.c_tree.specs.Statements.{while_do, do_while, for, switch, break, continue, return, Statements, no_statements}
use Rattle.c_tree.specs.Statements.{statements, SwitchItems, no_items, items, value_content}
use Rattle.program_lowering.specs.StatementParts.Code.{most}
use Rattle.program_lowering.proofs.StatementParts.InitializerParts.{greatest_and}
use Rattle.program_lowering.specs.StatementCode.Sizes.{statement_height, each_height, items_height}

mutual
  -- at least one temporary
  pub needs_one : (s : Statement) → 1 ≤ statement_height s
  needs_one (expression_statement e) = omega arith
  needs_one empty = omega arith
  needs_one (declaration ds) = omega arith
  needs_one (block line body) = each_needs_one body
  needs_one (if_then e s) = omega (arith, needs_one s)
  needs_one (if_else e s other) = omega (arith, needs_one s)
  needs_one (while_do e s) = omega (arith, needs_one s)
  needs_one (do_while s e) = omega (arith, needs_one s)
  needs_one (for line first condition step s) = omega (arith, needs_one s)
  needs_one (switch e line is) = omega (arith, items_need_one is)
  needs_one break = omega arith
  needs_one continue = omega arith
  needs_one (return e) = omega arith

  pub each_needs_one : (ss : Statements) → 1 ≤ each_height ss
  each_needs_one no_statements = omega arith
  each_needs_one (statements s ss) = omega (arith, each_needs_one ss)

  pub items_need_one : (is : SwitchItems) → 1 ≤ items_height is
  items_need_one no_items = omega arith
  items_need_one (items labels s is) = omega (arith, items_need_one is)

-- what is below the greater of 1 and some height stays so beside another one

beside : {a b : ℕ} (p q r : ℕ) → a ≤ max 1 p → b ≤ max 1 q → r ≡ max p q → max a b ≤ max 1 r
beside {a = a} {b = b} p q r h k e = omega (arith, h, k, e)

value_beside : {b : ℕ} (e q : ℕ) → b ≤ max 1 q → max e b ≤ max 1 (max e q)
value_beside {b = b} e q k = omega (arith, k)

behind_value : {b : ℕ} (e q r : ℕ) → b ≤ max 1 q → r ≡ max q (max e 0) → max e b ≤ max 1 r
behind_value {b = b} e q r k h = omega (arith, k, h)

itself : (p : ℕ) → max 1 p ≤ max 1 p
itself p = omega arith

-- the parts of a `for` stand in another order
in_order : (first test step s : ℕ) → max (max first (max test step)) s ≤ max first (max test (max step s))
in_order first test step s = omega arith

mutual
  -- and no more than the greatest height of what a statement evaluates
  pub height_of : (s : Statement) → statement_height s ≤ max 1 (greatest_height (contents_of s))
  height_of (expression_statement e) = omega arith
  height_of empty = omega arith
  height_of (declaration ds) = omega arith
  height_of (block line body) = height_of_each body
  height_of (if_then e s) = value_beside (height e) (greatest_height (contents_of s)) (height_of s)
  height_of (if_else e s other) =
      value_beside (height e) (greatest_height (contents_of s ++ contents_of other))
      (beside (greatest_height (contents_of s)) (greatest_height (contents_of other)) _ (height_of s) (height_of other)
      (greatest_and (contents_of s) (contents_of other)))
  height_of (while_do e s) = value_beside (height e) (greatest_height (contents_of s)) (height_of s)
  height_of (do_while s e) =
      behind_value (height e) (greatest_height (contents_of s)) _ (height_of s) (greatest_and (contents_of s)
      (value_content e ∷ []))
  height_of (for line first condition step s) =
      let body = beside (greatest_height (if_any step)) (greatest_height (contents_of s)) _
      (itself (greatest_height (if_any step))) (height_of s)
      (greatest_and (if_any step) (contents_of s)) in
      let tested = beside (greatest_height (if_any condition)) (greatest_height (if_any step ++ contents_of s)) _
      (itself (greatest_height (if_any condition))) body
      (greatest_and (if_any condition) (if_any step ++ contents_of s)) in
      let whole = beside (greatest_height (first_contents first))
      (greatest_height (if_any condition ++ (if_any step ++ contents_of s))) _
      (itself (greatest_height (first_contents first))) tested
      (greatest_and (first_contents first) (if_any condition ++ (if_any step ++ contents_of s))) in
      le_trans (in_order (most (first_contents first)) (most (if_any condition)) (most (if_any step))
      (statement_height s))
      whole
  height_of (switch e line is) = value_beside (height e) (greatest_height (items_contents is)) (height_of_items is)
  height_of break = omega arith
  height_of continue = omega arith
  height_of (return e) = omega arith

  pub height_of_each : (ss : Statements) → each_height ss ≤ max 1 (greatest_height (each_contents ss))
  height_of_each no_statements = omega arith
  height_of_each (statements s ss) =
      beside (greatest_height (contents_of s)) (greatest_height (each_contents ss)) _ (height_of s) (height_of_each ss)
      (greatest_and (contents_of s) (each_contents ss))

  pub height_of_items : (is : SwitchItems) → items_height is ≤ max 1 (greatest_height (items_contents is))
  height_of_items no_items = omega arith
  height_of_items (items labels s is) =
      beside (greatest_height (contents_of s)) (greatest_height (items_contents is)) _ (height_of s)
      (height_of_items is)
      (greatest_and (contents_of s) (items_contents is))
