use Rattle.std.proofs.Common.{◌≡◌, ◌++◌, drop}
use Rattle.c_syntax.specs.Words.{Words, const_words}
use Rattle.c_syntax_checks.proofs.tree_words.put_consts.Given as goal

abbrev pub invariant-loop-position : goal.invariant-loop-position
invariant-loop-position l = (i : Words) → l.out.items ++ const_words (drop l.position-index l.positions) i
    ≡ l.fn.out.items ++ const_words l.positions i
