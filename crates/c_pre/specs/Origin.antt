-- Where expanded tokens come from.
use Rattle.std.specs.Prelude.{◌≡◌, ◌⊎◌, ℕ, Contains}
use Rattle.c_lexer.specs.declared.token.Token.{Token}
use Rattle.c_lexer.specs.Spelled.{on_line}
use Rattle.c_pre.specs.declared.header.Header.{Header}
use Rattle.c_pre.specs.Headers.{header_tokens}
use Rattle.c_pre.specs.Lines.{Tokens}

-- a token stands in the text, or in one of the headers
abbrev pub StandsIn : Tokens → Token → Type 0
StandsIn text token = Contains text token ⊎ ((header : Header) × Contains (header_tokens header) token)

-- a token is one that stands there, perhaps on another line
pub record ComesFrom (text : Tokens) (token : Token) : Type 0 where
  pub from : Token
  pub stands : StandsIn text from
  pub line : ℕ
  pub is : token ≡ on_line line from
