use Rattle.std.proofs.Common.{◌≡◌, ◌+◌, ◌*◌, map, drop, length, option_map}
use Rattle.c_tree.specs.Statements.{block, if_then, if_else, while_do, do_while, for, switch, statements_in, items_in}
use Rattle.c_tree.specs.View.{expression_of, first_of, statement_of}
use Rattle.program_lowering.specs.StatementParts.Items.{item_of}
use Rattle.program_lowering.specs.StatementCode.Code.{StatementsCode, ItemsFrom}
use Rattle.program_lowering.specs.StatementCode.Sizes.{statement_count, each_count, items_count}
use Rattle.program_lowering.proofs.statements.statement.+lowering.Given as goal

abbrev pub invariant-statements-loop-i : goal.invariant-statements-loop-i
invariant-statements-loop-i l =
    StatementsCode l.variables l.fn.code l.code (statements_in (map statement_of (drop l.i l.body))) l.node l.x

abbrev pub invariant-switch_items-loop-i : goal.invariant-switch_items-loop-i
invariant-switch_items-loop-i l = record {
  same : length l.starts.items ≡ length l.items;
  code : ItemsFrom l.variables l.fn.code l.code (items_in (map item_of (drop l.i l.items)))
      (drop l.i l.starts.items) l.node
      l.x;
}

-- what is lowered has ever fewer nodes

abbrev pub decreases-statement : goal.decreases-statement
decreases-statement l = 3 * statement_count (statement_of l.s.now) + 1

abbrev pub decreases-statements : goal.decreases-statements
decreases-statements l = 3 * each_count (statements_in (map statement_of l.body.now)) + 2

abbrev pub decreases-switch_items : goal.decreases-switch_items
decreases-switch_items l = 3 * items_count (items_in (map item_of l.items.now)) + 2

abbrev pub decreases-block : goal.decreases-block
decreases-block l = 3 * statement_count (block l.line (statements_in (map statement_of l.body.now)))

abbrev pub decreases-if_then : goal.decreases-if_then
decreases-if_then l = 3 * statement_count (if_then (expression_of l.e.now) (statement_of l.body.now))

abbrev pub decreases-if_else : goal.decreases-if_else
decreases-if_else l =
    3 * statement_count (if_else (expression_of l.e.now) (statement_of l.body.now) (statement_of l.other.now))

abbrev pub decreases-while_do : goal.decreases-while_do
decreases-while_do l = 3 * statement_count (while_do (expression_of l.e.now) (statement_of l.body.now))

abbrev pub decreases-do_while : goal.decreases-do_while
decreases-do_while l = 3 * statement_count (do_while (statement_of l.body.now) (expression_of l.e.now))

abbrev pub decreases-for_loop : goal.decreases-for_loop
decreases-for_loop l =
    3 * statement_count (for l.clauses.now.line (first_of l.clauses.now.first.now)
    (option_map expression_of l.clauses.now.condition.now) (option_map expression_of l.clauses.now.step.now)
    (statement_of l.body.now))

abbrev pub decreases-switch : goal.decreases-switch
decreases-switch l = 3 * statement_count (switch (expression_of l.e.now) l.line (items_in (map item_of l.items.now)))
