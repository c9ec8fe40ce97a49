use Rattle.std.proofs.Common.{◌≡◌, ◌++◌, drop}
use Rattle.c_syntax.specs.Words.{Words, externals_words}
use Rattle.c_syntax.specs.StatementsView.{externals_in}
use Rattle.c_syntax_checks.proofs.statement_words.words.Given as goal

abbrev pub invariant-loop-external : goal.invariant-loop-external
invariant-loop-external l = (i : Words) → l.out.items ++ externals_words
    (externals_in (drop l.external-index l.external-items)) i ≡ externals_words (externals_in l.fn.unit.externals) i
