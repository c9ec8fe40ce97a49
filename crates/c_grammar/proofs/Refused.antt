-- No well-formed file has words that are refused.
use Rattle.std.proofs.Common.{◌≡◌, [], Ok, Err, sym, ap, ◌∙◌}
use Rattle.c_syntax.specs.Statements.{Unit}
use Rattle.c_syntax.specs.Words.{Words, unit_words}
use Rattle.c_syntax.specs.Formed.{IsWellFormed}
use Rattle.c_grammar.specs.Reader.{Outcome}
use Rattle.c_grammar.specs.UnitReader.{unit_from}
use Rattle.c_grammar.proofs.CompleteUnits.{unit_complete}
use Rattle.c_grammar.proofs.Exact.{what_is_read}

-- what is refused is not read
refused_unread : (o : Outcome Unit) (r : Words) (u : Unit) → o ≡ Err r → o ≡ Ok (u, []) → ⊥
refused_unread o r u refused read = cc

pub none_where_refused : (i r : Words) → unit_from i ≡ Err r → (u : Unit) → IsWellFormed u → unit_words u ≡ i → ⊥
none_where_refused i r refused u h e = refused_unread (unit_from i) r u refused
    (ap unit_from (sym e) ∙ unit_complete u h)

-- what is read, what is read again, and what is refused
pub ruleset reading = (what_is_read, unit_complete, none_where_refused)
