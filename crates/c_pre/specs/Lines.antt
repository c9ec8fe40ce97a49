-- The lines of a text, each a list of tokens (C99 6.10 paragraph 2).
use Rattle.std.specs.Prelude.{Bool, true, List, [], ◌∷◌, if◌then◌else◌}
use Rattle.c_lexer.specs.declared.token.Token.{Token}

abbrev pub Tokens : Type 0
Tokens = List Token

-- whether a line begins here
abbrev pub begins : Tokens → Bool
begins [] = true
begins (token ∷ more) = token.begins_line

-- a token before lines: a line of its own where the next line begins by itself, else the first token of the next line
abbrev pub before : Token → List Tokens → List Tokens
before token [] = (token ∷ []) ∷ []
before token (line ∷ more) = if begins line then (token ∷ []) ∷ line ∷ more else (token ∷ line) ∷ more

-- the tokens, cut before each one that begins a line
abbrev pub lines : Tokens → List Tokens
lines [] = []
lines (token ∷ more) = before token (lines more)
