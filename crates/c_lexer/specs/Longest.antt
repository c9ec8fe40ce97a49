-- The longest token at the front of a text (C99 6.4 paragraph 4).
use Rattle.std.specs.Prelude.{ℕ, zero, suc, Bool, true, ◌&&◌, if◌then◌else◌, List, take, drop, length, Option, Some}
use Rattle.std.specs.Prelude.{None, is_some}
use Rattle.c_lexer.specs.declared.token.TokenKind.{TokenKind}
use Rattle.c_lexer.specs.declared.token.TokenKind.TheVariants as kinds
use Rattle.c_lexer.specs.Characters.{begins}
use Rattle.c_lexer.specs.Constants.{constant_of}
use Rattle.c_lexer.specs.Words.{word_of}

-- the word with its length, or else the other
abbrev pub or_shorter : ℕ → Option TokenKind → Option (TokenKind × ℕ) → Option (TokenKind × ℕ)
or_shorter n (Some w) other = Some (w, n)
or_shorter n None other = other

-- the longest word of at most n bytes at the front
abbrev pub longest_to : ℕ → List ℕ → Option (TokenKind × ℕ)
longest_to zero z = None
longest_to (suc n) z = or_shorter (suc n) (word_of (take (suc n) z)) (longest_to n z)

unfoldable pub longest : List ℕ → Option (TokenKind × ℕ)
longest z = longest_to (length z) z

-- a number has to be an integer constant that has a type
abbrev pub is_valid : TokenKind → Bool
is_valid (kinds.Integer z) = is_some (constant_of z)
is_valid _ = true

abbrev pub valid : Option (TokenKind × ℕ) → Option (TokenKind × ℕ)
valid None = None
valid (Some t) = if is_valid t.0 then Some t else None

abbrev pub begins_comment : List ℕ → Bool
begins_comment z = begins 47 z && begins 42 (drop 1 z)

-- The token at the front of a text, behind white space and comments, and its length. A `/*` that stands there begins a
-- comment that is never closed, with which no text ends (5.1.1.2): it is no token, nor are its two bytes.
unfoldable pub front_token : List ℕ → Option (TokenKind × ℕ)
front_token z = if begins_comment z then None else valid (longest z)
