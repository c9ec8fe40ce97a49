use Rattle.std.proofs.Common.{◌≡◌, ◌≤◌, length}
use Rattle.c_lexer.specs.Separators.{gap_to}
use Rattle.c_lexer.proofs.separator.skip_gap.Given as goal

abbrev pub invariant-loop-separator : goal.invariant-loop-separator
invariant-loop-separator l = record {
  value : gap_to (length l.rest) l.has_newline l.rest ≡ gap_to (length l.text) l.found l.text;
  within : length l.rest ≤ length l.text;
}

abbrev pub decreases-loop-separator : goal.decreases-loop-separator
decreases-loop-separator l = length l.rest
