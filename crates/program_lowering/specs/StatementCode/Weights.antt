-- What the instructions of statements weigh, in a function with these variables.
use Rattle.std.specs.Prelude.{ℕ, ◌+◌, List, [], ◌∷◌, Some, None}
use Rattle.c_tree.specs.declared.program.Variable.{Variable}
use Rattle.c_tree.specs.declared.statement.CaseLabel.{CaseLabel}
use Rattle.c_tree.specs.declared.statement.CaseLabel.TheVariants.{Case, Default}
use Rattle.c_tree.specs.Tree.{Expression, kind_of}
use Rattle.c_tree.specs.Blocks.{block_variables, switch_variables, first_variables}
use Rattle.c_tree.specs.Statements.{Statement, expression_statement, empty, declaration, block, if_then, if_else}
use Rattle.c_tree.specs.Statements.{while_do, do_while, for, switch, break, continue, return, Statements, no_statements}
use Rattle.c_tree.specs.Statements.{statements, SwitchItems, no_items, items}
use Rattle.program_lowering.specs.ExpressionCode.Weights.{Weights, expression_weight, returning_weight}
use Rattle.program_lowering.specs.StatementParts.Weights.{declared_weight, first_weight, condition_weight, part_weight}
use Rattle.program_lowering.specs.StatementParts.Weights.{block_weight}

-- each label but `default` is tested
abbrev pub label_weight : CaseLabel → Weights → ℕ
label_weight (Case n) w = w.case
label_weight Default w = 0

abbrev pub labels_weight : List CaseLabel → Weights → ℕ
labels_weight [] w = 0
labels_weight (l ∷ ls) w = label_weight l w + labels_weight ls w

-- a value that a function returns
abbrev pub result_weight : Expression → Weights → ℕ
result_weight e w = expression_weight e w + returning_weight (kind_of e) w

-- a block with objects is entered, and left in four ways
abbrev mutual
  pub statement_weight : List Variable → Statement → Weights → ℕ
  statement_weight vs (expression_statement e) w = expression_weight e w
  statement_weight vs empty w = 0
  statement_weight vs (declaration ds) w = declared_weight ds w
  statement_weight vs (block line body) w = block_weight vs (block_variables body) w + each_weight vs body w
  statement_weight vs (if_then e s) w = expression_weight e w + w.branch + statement_weight vs s w
  statement_weight vs (if_else e s other) w =
      expression_weight e w + w.branch + (statement_weight vs s w + statement_weight vs other w)
  statement_weight vs (while_do e s) w = expression_weight e w + (w.branch + w.turn) + statement_weight vs s w
  statement_weight vs (do_while s e) w = expression_weight e w + (w.branch + w.turn) + statement_weight vs s w
  statement_weight vs (for line first condition step s) w =
      block_weight vs (first_variables first) w
      + (w.turn + (first_weight first w + (condition_weight condition w + part_weight step w)))
      + statement_weight vs s w
  statement_weight vs (switch e line is) w =
      expression_weight e w + block_weight vs (switch_variables is) w + items_weight vs is w
  statement_weight vs break w = 0
  statement_weight vs continue w = 0
  statement_weight vs (return None) w = w.constant
  statement_weight vs (return (Some e)) w = result_weight e w

  pub each_weight : List Variable → Statements → Weights → ℕ
  each_weight vs no_statements w = 0
  each_weight vs (statements s ss) w = statement_weight vs s w + each_weight vs ss w

  pub items_weight : List Variable → SwitchItems → Weights → ℕ
  items_weight vs no_items w = 0
  items_weight vs (items labels s is) w = labels_weight labels w + statement_weight vs s w + items_weight vs is w

-- the statements of items alone
abbrev pub bodies_weight : List Variable → SwitchItems → Weights → ℕ
bodies_weight vs no_items w = 0
bodies_weight vs (items labels s is) w = statement_weight vs s w + bodies_weight vs is w
