-- No two well-formed files have the same words.
use Rattle.std.proofs.Common.{◌≡◌, [], Ok, sym, ap, ◌∙◌}
use Rattle.c_syntax.specs.Statements.{Unit}
use Rattle.c_syntax.specs.Words.{Words, unit_words}
use Rattle.c_syntax.specs.Formed.{IsWellFormed}
use Rattle.c_grammar.specs.Reader.{Outcome}
use Rattle.c_grammar.specs.UnitReader.{unit_from}
use Rattle.c_grammar.proofs.CompleteUnits.{unit_complete}

-- what a reader gives
abbrev gives : Unit × Words → Outcome Unit
gives x = Ok x

same_given : (x y : Unit × Words) → gives x ≡ gives y → x ≡ y
same_given x y e = cc

-- words have one well-formed file at most
pub one_tree : (a b : Unit) → IsWellFormed a → IsWellFormed b → unit_words a ≡ unit_words b → a ≡ b
one_tree a b h f e = ap (λ x. x.0) (same_given (a, []) (b, [])
    (sym (unit_complete a h) ∙ ap unit_from e ∙ unit_complete b f))
