use Rattle.std.proofs.Common.{◌↔◌, ◌≤◌, drop}
use Rattle.c_syntax.specs.Levels.{more_items_levels}
use Rattle.c_syntax.specs.StatementsView.{more_items_in}
use Rattle.c_syntax_checks.proofs.statement_levels.+initializers.Given as goal

abbrev pub invariant-more_items_fit-loop-item : goal.invariant-more_items_fit-loop-item
invariant-more_items_fit-loop-item l = (more_items_levels (more_items_in (drop l.item-index l.others)) ≤ l.levels)
    ↔ (more_items_levels (more_items_in l.others) ≤ l.levels)
