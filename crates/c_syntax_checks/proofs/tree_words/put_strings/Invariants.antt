use Rattle.std.proofs.Common.{◌≡◌, ◌++◌, ◌∷◌, drop}
use Rattle.c_syntax.specs.Words.{Words, string, strings_words}
use Rattle.c_syntax_checks.proofs.tree_words.put_strings.Given as goal

abbrev pub invariant-loop-string : goal.invariant-loop-string
invariant-loop-string l = (i : Words) → l.out.items ++ strings_words (drop l.string-index l.others) i ≡ l.fn.out.items
    ++ string l.first ∷ strings_words l.others i
