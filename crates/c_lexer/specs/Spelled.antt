-- Tokens as contracts see them.
use Rattle.std.specs.Prelude.{ℕ, List}
use Rattle.c_lexer.specs.declared.token.Token.{Token}

-- the same token on another line
abbrev pub on_line : ℕ → Token → Token
on_line line t = record t { line = line }

-- the tokens of a text, and the line on which the text ends
pub record TokenList : Type 0 where
  pub tokens : List Token
  pub end : ℕ
