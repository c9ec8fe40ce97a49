use Rattle.std.proofs.Common.{◌≡◌, ◌++◌, length, drop}
use Rattle.c_syntax.specs.Words.{positioned, positioned_from}
use Rattle.c_syntax.proofs.position.with_positions.Given as goal

abbrev pub invariant-loop-token : goal.invariant-loop-token
invariant-loop-token l = l.words.items ++ positioned_from (length l.words.items) (drop l.token-index l.tokens)
    ≡ positioned l.tokens
