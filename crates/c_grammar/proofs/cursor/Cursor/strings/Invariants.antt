use Rattle.std.proofs.Common.{◌≡◌, ◌++◌, length, Ok}
use Rattle.c_grammar.specs.Reader.{◌>>=◌, strings_from}
use Rattle.c_grammar.proofs.cursor.Cursor.strings.Given as goal

abbrev pub invariant-loop-self : goal.invariant-loop-self
invariant-loop-self l = strings_from l.fn.self.rest.now ≡ (strings_from l.self.rest.now
    >>= λ z i. Ok (l.strings.items ++ z, i))

abbrev pub decreases-loop-self : goal.decreases-loop-self
decreases-loop-self l = length l.self.rest.now
