use Rattle.std.proofs.Common.{◌≡◌, map, drop}
use Rattle.c_tree.specs.Statements.{items_in, statements_in}
use Rattle.c_tree.specs.View.{statement_of}
use Rattle.c_room.specs.Contents.{with_items, with_statements}
use Rattle.c_room.specs.Items.{item_of}
use Rattle.c_room.proofs.statement.+statement.Given as goal

abbrev pub invariant-statements-loop-tree : goal.invariant-statements-loop-tree
invariant-statements-loop-tree l =
    with_statements l.so_far (statements_in (map statement_of (drop l.tree-index l.body)))
    ≡ with_statements l.fn.so_far (statements_in (map statement_of l.fn.body))

abbrev pub invariant-items-loop-item : goal.invariant-items-loop-item
invariant-items-loop-item l =
    with_items l.so_far (items_in (map item_of (drop l.item-index l.trees)))
    ≡ with_items l.fn.so_far (items_in (map item_of l.fn.trees))
