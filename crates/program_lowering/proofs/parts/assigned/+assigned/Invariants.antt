use Rattle.std.proofs.Common.{◌≡◌, map, drop}
use Rattle.c_tree.specs.Statements.{statements_in, items_in}
use Rattle.c_tree.specs.View.{statement_of}
use Rattle.c_tree.specs.Assigning.{each_assigns, items_assign}
use Rattle.program_lowering.specs.StatementParts.Items.{item_of}
use Rattle.program_lowering.proofs.parts.assigned.+assigned.Given as goal

abbrev pub invariant-each_assigns-loop-statement : goal.invariant-each_assigns-loop-statement
invariant-each_assigns-loop-statement l =
    each_assigns l.x (statements_in (map statement_of (drop l.statement-index l.body)))
    ≡ each_assigns l.fn.x (statements_in (map statement_of l.fn.body))

abbrev pub invariant-items_assign-loop-item : goal.invariant-items_assign-loop-item
invariant-items_assign-loop-item l =
    items_assign l.x (items_in (map item_of (drop l.item-index l.items)))
    ≡ items_assign l.fn.x (items_in (map item_of l.fn.items))
