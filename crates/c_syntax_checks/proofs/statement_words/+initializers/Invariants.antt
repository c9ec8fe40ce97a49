use Rattle.std.proofs.Common.{◌≡◌, ◌++◌, drop}
use Rattle.c_syntax.specs.Words.{Words, more_items_words}
use Rattle.c_syntax.specs.StatementsView.{more_items_in}
use Rattle.c_syntax_checks.proofs.statement_words.+initializers.Given as goal

abbrev pub invariant-put_more_items-loop-comma : goal.invariant-put_more_items-loop-comma
invariant-put_more_items-loop-comma l = (i : Words) → l.out.items
    ++ more_items_words (more_items_in (drop l.comma-index l.others)) i ≡ l.fn.out.items
    ++ more_items_words (more_items_in l.fn.others) i
