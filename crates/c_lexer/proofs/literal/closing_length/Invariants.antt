use Rattle.std.proofs.Common.{◌≡◌, ◌+◌, length}
use Rattle.c_lexer.specs.declared.literal.LiteralState.TheVariants.{Start}
use Rattle.c_lexer.specs.Scan.{closing_length, longer_by}
use Rattle.c_lexer.proofs.literal.closing_length.Given as goal

abbrev pub invariant-loop-rest : goal.invariant-loop-rest
invariant-loop-rest l = record {
  value : longer_by l.count (closing_length l.quote l.state l.rest) ≡ closing_length l.quote Start l.text;
  within : l.count + length l.rest ≡ length l.text;
}

abbrev pub decreases-loop-rest : goal.decreases-loop-rest
decreases-loop-rest l = length l.rest
