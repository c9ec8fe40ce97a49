use Rattle.std.proofs.Common.{◌≡◌, drop}
use Rattle.std.specs.List.{find}
use Rattle.std.specs.Str.{bytes_eq}
use Rattle.c_lexer.specs.Spellings.{keyword_spelling}
use Rattle.c_lexer.proofs.scan.keyword_among.Given as goal

abbrev pub invariant-loop-keyword : goal.invariant-loop-keyword
invariant-loop-keyword l =
    find (λ k. bytes_eq (keyword_spelling k) l.text) (drop l.keyword-index l.table)
    ≡ find (λ k. bytes_eq (keyword_spelling k) l.text) l.table
