use Rattle.std.proofs.Common.{◌≡◌, length}
use Rattle.c_lexer.specs.declared.literal.LiteralState.TheVariants.{Start}
use Rattle.c_lexer.specs.Literals.{behind, characters_from}
use Rattle.c_lexer.proofs.literal.string_bytes.Given as goal

abbrev pub invariant-loop-rest : goal.invariant-loop-rest
invariant-loop-rest l = behind l.bytes.items (characters_from 34 l.state l.rest) ≡ characters_from 34 Start l.text

abbrev pub decreases-loop-rest : goal.decreases-loop-rest
decreases-loop-rest l = length l.rest
