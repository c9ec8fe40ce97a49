use Rattle.std.proofs.Common.{◌≡◌, ◌++◌, drop}
use Rattle.c_syntax.specs.Words.{Words, more_init_declarators_words}
use Rattle.c_syntax.specs.StatementsView.{more_init_declarators_in}
use Rattle.c_syntax_checks.proofs.statement_words.put_more_init_declarators.Given as goal

abbrev pub invariant-loop-comma : goal.invariant-loop-comma
invariant-loop-comma l = (i : Words) → l.out.items ++ more_init_declarators_words
    (more_init_declarators_in (drop l.comma-index l.others)) i ≡ l.fn.out.items
    ++ more_init_declarators_words (more_init_declarators_in l.fn.others) i
