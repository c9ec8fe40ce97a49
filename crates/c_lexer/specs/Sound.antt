-- What holds of every token.
use Rattle.std.specs.Prelude.{◌≡◌, ℕ, suc, ◌≤◌, true, List, Some, IsSome}
use Rattle.c_lexer.specs.declared.token.Token.{Token}
use Rattle.c_lexer.specs.declared.token.TokenKind.{TokenKind}
use Rattle.c_lexer.specs.declared.token.TokenKind.TheVariants as kinds
use Rattle.c_lexer.specs.Constants.{constant_of}
use Rattle.c_lexer.specs.Literals.{character_value, bytes_of_literal}
use Rattle.c_lexer.specs.Longest.{is_valid}
use Rattle.c_lexer.specs.Text.{newlines}
use Rattle.c_lexer.specs.Words.{word_of, spelling_of}

-- it is the word that its bytes spell, and a number is an integer constant that has a type
pub record IsWord (kind : TokenKind) : Type 0 where
  pub spelled : word_of (spelling_of kind) ≡ Some kind
  pub valid : is_valid kind ≡ true

-- what a literal stands for is there
abbrev pub HasMeaning : TokenKind → Type 0
HasMeaning (kinds.Integer z) = IsSome (constant_of z)
HasMeaning (kinds.Character z) = IsSome (character_value z)
HasMeaning (kinds.StringLiteral z) = IsSome (bytes_of_literal z)
HasMeaning _ = Unit {0}

-- a token of this text
pub record IsTokenOf (text : List ℕ) (token : Token) : Type 0 where
  pub kind : IsWord token.kind
  pub low : 1 ≤ token.line
  pub high : token.line ≤ suc (newlines text)
