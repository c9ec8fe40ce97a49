use Rattle.std.proofs.Common.{◌↔◌, ◌≤◌, drop}
use Rattle.c_syntax.specs.Levels.{designators_levels}
use Rattle.c_syntax.specs.StatementsView.{designators_in}
use Rattle.c_syntax_checks.proofs.statement_levels.designators_fit.Given as goal

abbrev pub invariant-loop-designator : goal.invariant-loop-designator
invariant-loop-designator l = (designators_levels (designators_in (drop l.designator-index l.designators)) ≤ l.levels)
    ↔ (designators_levels (designators_in l.designators) ≤ l.levels)
