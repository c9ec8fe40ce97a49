use Rattle.std.proofs.Common.{◌≡◌, length}
use Rattle.c_lexer.specs.declared.literal.LiteralState.TheVariants.{Start}
use Rattle.c_lexer.specs.Literals.{behind, characters_from, listed, only_one}
use Rattle.c_lexer.proofs.literal.only_character.Given as goal

abbrev pub invariant-loop-rest : goal.invariant-loop-rest
invariant-loop-rest l = only_one (behind (listed l.first) (characters_from 39 l.state l.rest))
    ≡ only_one (characters_from 39 Start l.text)

abbrev pub decreases-loop-rest : goal.decreases-loop-rest
decreases-loop-rest l = length l.rest
