-- Which nodes the bodies of counted loops are, by the text. Code is made from its end on, and a node is numbered by how
-- many stand before it: a piece of a text takes as many as its instructions are.
use Rattle.std.specs.Prelude.{ℕ, ◌+◌, List, [], ◌++◌, Option}
use Rattle.c_tree.specs.declared.program.Variable.{Variable}
use Rattle.c_tree.specs.Blocks.{all_of, block_variables, switch_variables, first_variables}
use Rattle.c_tree.specs.Programs.{Function}
use Rattle.c_tree.specs.Tree.{Expression}
use Rattle.c_tree.specs.Statements.{First, Statement, expression_statement, empty, declaration, block, if_then, if_else}
use Rattle.c_tree.specs.Statements.{while_do, do_while, for, switch, break, continue, return, Statements, no_statements}
use Rattle.c_tree.specs.Statements.{statements, SwitchItems, no_items, items}
use Rattle.tac_ir.specs.declared.function.Span.{Span}
use Rattle.c_lower.specs.Counted.{counted_parts}
use Rattle.program_lowering.specs.ExpressionCode.Weights.{each_one, expression_weight}
use Rattle.program_lowering.specs.StatementParts.Weights.{left_weight, condition_weight, part_weight}
use Rattle.program_lowering.specs.StatementParts.Loops.{counted_body}
use Rattle.program_lowering.specs.StatementCode.Weights.{statement_weight, each_weight, bodies_weight}

-- so many nodes from one on
abbrev pub nodes_from : (first count : ℕ) → Span
nodes_from n k = record { start = n; end = n + k }

-- behind so many nodes the body of a `for` begins: behind the ways out of its block, its turn, condition and step
abbrev pub loop_start : List Variable → First → (condition step : Option Expression) → (behind : ℕ) → ℕ
loop_start vs first condition step n =
    n + (left_weight vs (first_variables first) each_one
    + (1 + (condition_weight condition each_one + part_weight step each_one)))

-- those of the loops in a text whose code begins behind so many nodes, in the order of the table
abbrev mutual
  pub statement_bodies : List Variable → Statement → (behind : ℕ) → List Span
  statement_bodies vs (expression_statement e) n = []
  statement_bodies vs empty n = []
  statement_bodies vs (declaration ds) n = []
  statement_bodies vs (block line body) n = each_bodies vs body (n + left_weight vs (block_variables body) each_one)
  statement_bodies vs (if_then e s) n = statement_bodies vs s n
  statement_bodies vs (if_else e s other) n =
      statement_bodies vs other n ++ statement_bodies vs s (n + statement_weight vs other each_one)
  statement_bodies vs (while_do e s) n = statement_bodies vs s (n + (expression_weight e each_one + 2))
  statement_bodies vs (do_while s e) n = statement_bodies vs s (n + (expression_weight e each_one + 2))
  statement_bodies vs (for line first condition step s) n =
      statement_bodies vs s (loop_start vs first condition step n)
      ++ counted_body (counted_parts first condition step s)
      (nodes_from (loop_start vs first condition step n) (statement_weight vs s each_one))
  statement_bodies vs (switch e line is) n = items_bodies vs is (n + left_weight vs (switch_variables is) each_one)
  statement_bodies vs break n = []
  statement_bodies vs continue n = []
  statement_bodies vs (return e) n = []

  pub each_bodies : List Variable → Statements → (behind : ℕ) → List Span
  each_bodies vs no_statements n = []
  each_bodies vs (statements s ss) n = each_bodies vs ss n ++ statement_bodies vs s (n + each_weight vs ss each_one)

  pub items_bodies : List Variable → SwitchItems → (behind : ℕ) → List Span
  items_bodies vs no_items n = []
  items_bodies vs (items labels s is) n =
      items_bodies vs is n ++ statement_bodies vs s (n + bodies_weight vs is each_one)

-- the code of a function begins behind its return and what gives 0 at its end
abbrev pub function_bodies : Function → List Span
function_bodies f = each_bodies (all_of f) f.body 2
