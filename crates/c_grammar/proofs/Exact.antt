-- What the reader of files reads.
use Rattle.std.proofs.Common.{◌≡◌, [], Ok}
use Rattle.c_syntax.specs.Statements.{Unit}
use Rattle.c_syntax.specs.Words.{Words, unit_words}
use Rattle.c_syntax.specs.Formed.{IsWellFormed}
use Rattle.c_grammar.specs.UnitReader.{unit_from}
use Rattle.c_grammar.proofs.SoundUnits.{unit_sound}

pub what_is_read : (i : Words) (u : Unit) (r : Words) → unit_from i ≡ Ok (u, r)
    → (r ≡ []) × IsWellFormed u × (unit_words u ≡ i)
what_is_read i u r e = let f = unit_sound i u r e in (f.ended, f.formed, f.same)
