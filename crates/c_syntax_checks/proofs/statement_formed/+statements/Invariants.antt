use Rattle.std.proofs.Common.{◌↔◌, drop}
use Rattle.c_syntax.specs.Formed.{AreItems}
use Rattle.c_syntax.specs.StatementsView.{items_in}
use Rattle.c_syntax_checks.proofs.statement_formed.+statements.Given as goal

abbrev pub invariant-are_items-loop-item : goal.invariant-are_items-loop-item
invariant-are_items-loop-item l = AreItems l.levels l.names (items_in (drop l.item-index l.items))
    ↔ AreItems l.levels l.names (items_in l.items)
