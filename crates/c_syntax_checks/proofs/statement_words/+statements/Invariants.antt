use Rattle.std.proofs.Common.{◌≡◌, ◌++◌, drop}
use Rattle.c_syntax.specs.Words.{Words, items_words}
use Rattle.c_syntax.specs.StatementsView.{items_in}
use Rattle.c_syntax_checks.proofs.statement_words.+statements.Given as goal

abbrev pub invariant-put_block_items-loop-item : goal.invariant-put_block_items-loop-item
invariant-put_block_items-loop-item l = (i : Words) → l.out.items
    ++ items_words (items_in (drop l.item-index l.items)) i ≡ l.fn.out.items ++ items_words (items_in l.fn.items) i
