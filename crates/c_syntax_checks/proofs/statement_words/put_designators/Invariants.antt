use Rattle.std.proofs.Common.{◌≡◌, ◌++◌, drop}
use Rattle.c_syntax.specs.Words.{Words, designators_words}
use Rattle.c_syntax.specs.StatementsView.{designators_in}
use Rattle.c_syntax_checks.proofs.statement_words.put_designators.Given as goal

abbrev pub invariant-loop-designator : goal.invariant-loop-designator
invariant-loop-designator l = (i : Words) → l.out.items ++ designators_words
    (designators_in (drop l.designator-index l.designators)) i ≡ l.fn.out.items
    ++ designators_words (designators_in l.fn.designators) i
