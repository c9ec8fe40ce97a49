use Rattle.std.proofs.Common.{◌≡◌, ◌≤◌, length}
use Rattle.c_lexer.specs.Separators.{line_comment_rest}
use Rattle.c_lexer.proofs.separator.line_comment_rest.Given as goal

abbrev pub invariant-loop-rest : goal.invariant-loop-rest
invariant-loop-rest l = record {
  value : line_comment_rest l.second_last l.last l.rest ≡ line_comment_rest l.fn.before.0 l.fn.before.1 l.text;
  within : length l.rest ≤ length l.text;
}

abbrev pub decreases-loop-rest : goal.decreases-loop-rest
decreases-loop-rest l = length l.rest
