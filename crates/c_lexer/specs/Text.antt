-- The tokens of a text, or the first place where none stands.
use Rattle.std.specs.Prelude.{◌≡◌, ℕ, zero, suc, ◌-◌, Bool, true, false, ◌==◌, nat_lt, count_by, List, [], ◌∷◌, ◌++◌}
use Rattle.std.specs.Prelude.{drop, length, Option, Some, None, Result, Ok, Err}
use Rattle.c_lexer.specs.declared.token.Token.{Token}
use Rattle.c_lexer.specs.declared.token.TokenKind.{TokenKind}
use Rattle.c_lexer.specs.declared.lexer.LexFault.{LexFault}
use Rattle.c_lexer.specs.declared.lexer.LexError.{LexError}
use Rattle.c_lexer.specs.declared.lexer.LexError.TheVariants.{Fault, Memory}
use Rattle.c_lexer.specs.Longest.{front_token}
use Rattle.c_lexer.specs.Separators.{Gap, gap}
use Rattle.c_lexer.specs.Spelled.{TokenList}

abbrev pub newlines : List ℕ → ℕ
newlines z = count_by (λ b. b == 10) z

-- the line of the place of a text where z is left
unfoldable pub line_of : List ℕ → List ℕ → ℕ
line_of text z = suc (newlines text - newlines z)

abbrev pub Lexed : Type 0
Lexed = Result TokenList LexFault

abbrev pub behind_tokens : List Token → Lexed → Lexed
behind_tokens front (Ok more) = Ok (record more { tokens = front ++ more.tokens })
behind_tokens front (Err fault) = Err fault

-- no more tokens
abbrev pub at_end : List ℕ → Lexed
at_end text = Ok (record { tokens = []; end = line_of text [] })

-- the token behind a gap, z being what was left before the gap
abbrev pub token_behind : List ℕ → List ℕ → Gap → TokenKind → Token
token_behind text z g w =
    record {
      kind = w;
      line = line_of text g.rest;
      begins_line = g.has_newline;
      is_spaced =
          nat_lt (length g.rest) (length z);
    }

abbrev pub tokens_by : List ℕ → List ℕ → Gap → Option (TokenKind × ℕ) → (List ℕ → Lexed) → Lexed
tokens_by text z g None more = Err (record { at = length text - length g.rest; line = line_of text g.rest })
tokens_by text z g (Some t) more = behind_tokens (token_behind text z g t.0 ∷ []) (more (drop t.1 g.rest))

abbrev pub unless_empty : List ℕ → Lexed → Lexed → Lexed
unless_empty [] empty more = empty
unless_empty (b ∷ z) empty more = more

abbrev pub tokens_behind : List ℕ → List ℕ → Gap → (List ℕ → Lexed) → Lexed
tokens_behind text z g more = unless_empty g.rest (at_end text) (tokens_by text z g (front_token g.rest) more)

-- the tokens of the rest z of a text; first: no token stands before; the number bounds them
abbrev pub tokens_to : ℕ → List ℕ → Bool → List ℕ → Lexed
tokens_to zero text first z = at_end text
tokens_to (suc n) text first z = tokens_behind text z (gap first z) (tokens_to n text false)

-- each token has at least one byte
unfoldable pub tokens : List ℕ → Lexed
tokens text = tokens_to (suc (length text)) text true text

-- what `lex` may answer of a text
abbrev pub Lexes : List ℕ → Result TokenList LexError → Type 0
Lexes text (Ok found) = tokens text ≡ Ok found
Lexes text (Err (Fault fault)) = tokens text ≡ Err fault
Lexes text (Err Memory) = Unit {0}
