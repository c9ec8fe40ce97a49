use Rattle.std.proofs.Common.{◌↔◌, ◌≤◌, drop}
use Rattle.c_syntax.specs.Levels.{items_levels}
use Rattle.c_syntax.specs.StatementsView.{items_in}
use Rattle.c_syntax_checks.proofs.statement_levels.+statements.Given as goal

abbrev pub invariant-items_fit-loop-item : goal.invariant-items_fit-loop-item
invariant-items_fit-loop-item l = (items_levels (items_in (drop l.item-index l.items)) ≤ l.levels)
    ↔ (items_levels (items_in l.items) ≤ l.levels)
