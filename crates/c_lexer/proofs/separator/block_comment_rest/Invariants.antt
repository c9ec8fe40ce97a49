use Rattle.std.proofs.Common.{◌≡◌, ◌≤◌, length}
use Rattle.c_lexer.specs.Separators.{block_comment_rest}
use Rattle.c_lexer.proofs.separator.block_comment_rest.Given as goal

abbrev pub invariant-loop-rest : goal.invariant-loop-rest
invariant-loop-rest l = record {
  value : block_comment_rest l.rest ≡ block_comment_rest l.text;
  within : length l.rest ≤ length l.text;
}

abbrev pub decreases-loop-rest : goal.decreases-loop-rest
decreases-loop-rest l = length l.rest
