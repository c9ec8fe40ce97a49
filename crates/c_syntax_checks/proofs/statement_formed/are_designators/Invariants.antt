use Rattle.std.proofs.Common.{◌↔◌, drop}
use Rattle.c_syntax.specs.Formed.{AreDesignators}
use Rattle.c_syntax.specs.StatementsView.{designators_in}
use Rattle.c_syntax_checks.proofs.statement_formed.are_designators.Given as goal

abbrev pub invariant-loop-designator : goal.invariant-loop-designator
invariant-loop-designator l = AreDesignators l.names (designators_in (drop l.designator-index l.designators))
    ↔ AreDesignators l.names (designators_in l.designators)
