use Rattle.std.proofs.Common.{◌↔◌, drop}
use Rattle.c_syntax.specs.Formed.{AreMoreItems}
use Rattle.c_syntax.specs.StatementsView.{more_items_in}
use Rattle.c_syntax_checks.proofs.statement_formed.+initializers.Given as goal

abbrev pub invariant-are_more_items-loop-item : goal.invariant-are_more_items-loop-item
invariant-are_more_items-loop-item l = AreMoreItems l.names (more_items_in (drop l.item-index l.others))
    ↔ AreMoreItems l.names (more_items_in l.others)
