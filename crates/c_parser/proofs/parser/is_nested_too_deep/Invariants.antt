use Rattle.std.proofs.Common.{◌≡◌, ◌+◌, ◌≤◌, drop}
use Rattle.c_parser.specs.Parsed.{count_words, is_left_bracket, is_right_bracket}
use Rattle.c_parser.proofs.parser.is_nested_too_deep.Given as goal

abbrev pub invariant-loop-token : goal.invariant-loop-token
invariant-loop-token l = record {
  left : l.left + count_words is_left_bracket (drop l.token-index l.tokens) ≡ count_words is_left_bracket l.tokens;
  right : l.right + count_words is_right_bracket (drop l.token-index l.tokens) ≡ count_words is_right_bracket l.tokens;
  left_within : l.left ≤ l.token-index;
  right_within : l.right ≤ l.token-index;
}
