use Rattle.std.proofs.Common.{◌≡◌, ◌+◌, ◌≤◌, suc, length}
use Rattle.c_lexer.specs.Text.{newlines, behind_tokens, tokens, tokens_to}
use Rattle.c_lexer.proofs.lexer.lex.Given as goal

abbrev pub invariant-loop-rest : goal.invariant-loop-rest
invariant-loop-rest l = record {
  read : tokens l.text ≡ behind_tokens l.items.items (tokens_to (suc (length l.rest)) l.text l.first l.rest);
  line : l.line + newlines l.rest ≡ suc (newlines l.text);
  some : 1 ≤ l.line;
  left : length l.rest ≤ length l.text;
}

abbrev pub decreases-loop-rest : goal.decreases-loop-rest
decreases-loop-rest l = length l.rest
