use Rattle.std.proofs.Common.{◌≡◌, map, drop}
use Rattle.c_tree.specs.Statements.{statements_in, items_in}
use Rattle.c_tree.specs.View.{statement_of}
use Rattle.compiled_programs.specs.Items.{item_of}
use Rattle.compiled_programs.specs.Programs.{are_integer_items, are_integer_statements}
use Rattle.compiled_programs.proofs.statement.+statement.Given as goal

abbrev pub invariant-are_integer_statements-loop-statement : goal.invariant-are_integer_statements-loop-statement
invariant-are_integer_statements-loop-statement l =
    are_integer_statements (statements_in (map statement_of (drop l.statement-index l.body)))
    ≡ are_integer_statements (statements_in (map statement_of l.fn.body))

abbrev pub invariant-are_integer_items-loop-item : goal.invariant-are_integer_items-loop-item
invariant-are_integer_items-loop-item l =
    are_integer_items (items_in (map item_of (drop l.item-index l.items)))
    ≡ are_integer_items (items_in (map item_of l.fn.items))
