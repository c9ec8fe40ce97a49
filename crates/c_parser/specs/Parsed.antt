-- What the parser answers for the tokens of a text.
use Rattle.std.specs.Prelude.{◌≡◌, Some, None, ℕ, suc, ◌+◌, ◌-◌, ◌≤◌, nat_lt, Bool, true, false, if◌then◌else◌}
use Rattle.std.specs.Prelude.{List, [], ◌∷◌, take, drop, length, Result, Ok, Err, ⊤}
use Rattle.c_lexer.specs.Spelled.{TokenList}
use Rattle.c_lexer.specs.declared.punctuator.Punctuator.TheVariants as p
use Rattle.c_lexer.specs.declared.token.Token.{Token}
use Rattle.c_lexer.specs.declared.token.TokenKind.{TokenKind}
use Rattle.c_lexer.specs.declared.token.TokenKind.TheVariants as kinds
use Rattle.c_syntax.specs.declared.statement.Unit as rust
use Rattle.c_syntax.specs.Statements.{Unit}
use Rattle.c_syntax.specs.StatementsView.{unit_of}
use Rattle.c_syntax.specs.Words.{Words, positioned, unit_words}
use Rattle.c_syntax.specs.Formed.{IsWellFormed}
use Rattle.c_grammar.specs.UnitReader.{unit_from}
use Rattle.c_parser.specs.declared.fault.ParseFault.{ParseFault}
use Rattle.c_parser.specs.declared.fault.ParseFault.TheVariants.{Memory, Unsupported, Syntax, Nesting}
use Rattle.c_parser.specs.Unsupported.{first_unsupported}

-- a well-formed file that is written with these tokens (C99 6.9)
pub record IsTreeOf (tokens : List Token) (unit : Unit) : Type 0 where
  pub formed : IsWellFormed unit
  pub same : unit_words unit ≡ positioned tokens

-- no well-formed file is
abbrev pub HasNoTree : List Token → Type 0
HasNoTree tokens = (u : Unit) → IsTreeOf tokens u → ⊥

-- `(`, `[` and `{`
abbrev pub is_left_bracket : TokenKind → Bool
is_left_bracket (kinds.Punctuator p.LeftParenthesis) = true
is_left_bracket (kinds.Punctuator p.LeftBracket) = true
is_left_bracket (kinds.Punctuator p.LeftBrace) = true
is_left_bracket _ = false

-- `)`, `]` and `}`
abbrev pub is_right_bracket : TokenKind → Bool
is_right_bracket (kinds.Punctuator p.RightParenthesis) = true
is_right_bracket (kinds.Punctuator p.RightBracket) = true
is_right_bracket (kinds.Punctuator p.RightBrace) = true
is_right_bracket _ = false

-- how many of the tokens have a word of these
unfoldable pub count_words : (TokenKind → Bool) → List Token → ℕ
count_words is [] = 0
count_words is (first ∷ i) = (if is first.kind then 1 else 0) + count_words is i

-- over 200 more brackets are open than closed
abbrev pub is_nested_too_deep : List Token → Bool
is_nested_too_deep tokens = nat_lt (200 + count_words is_right_bracket tokens) (count_words is_left_bracket tokens)

-- the line of the first of these tokens, or of the end
abbrev pub first_line : List Token → ℕ → ℕ
first_line [] end = end
first_line (first ∷ i) end = first.line

-- the line of the token of this number, or of the end
abbrev pub line_at : TokenList → ℕ → ℕ
line_at list at = first_line (drop at list.tokens) list.end

-- what a fault tells at the token of this number, or at the end: its line, and whether the tokens up to and with it
-- nest too deep
pub record Told (list : TokenList) (number at line : ℕ) (is_nesting : Bool) : Type 0 where
  pub token : at ≡ number
  pub on_line : line ≡ line_at list number
  pub kind : is_nested_too_deep (take (suc number) list.tokens) ≡ is_nesting

-- the fault tells this position
abbrev pub IsFaultAt : TokenList → ℕ → ParseFault → Type 0
IsFaultAt list number (Syntax at line) = Told list number at line false
IsFaultAt list number (Nesting at line) = Told list number at line true
IsFaultAt list number (Unsupported word line) = ⊥
IsFaultAt list number Memory = ⊥

-- the reader of files refuses these tokens, and what it has not read begins at the token of this number
pub record IsWhereRefused (tokens : List Token) (at : ℕ) : Type 0 where
  pub rest : Words
  pub refused : unit_from (positioned tokens) ≡ Err rest
  pub here : at ≡ length tokens - length rest

-- the token of this number, or the end, where the parser stood; the tokens up to and with it nest too deep or not
pub record IsRefusedAt (list : TokenList) (at line : ℕ) (is_nesting : Bool) : Type 0 where
  pub no_tree : HasNoTree list.tokens
  pub stood : IsWhereRefused list.tokens at
  pub within : at ≤ length list.tokens
  pub on_line : line ≡ line_at list at
  pub kind : is_nested_too_deep (take (suc at) list.tokens) ≡ is_nesting

-- a tree, or that there is none, or the first unsupported word; for want of memory nothing is said
abbrev pub Parses : TokenList → Result rust.Unit ParseFault → Type 0
Parses list (Ok u) = IsTreeOf list.tokens (unit_of u)
Parses list (Err (Syntax at line)) = IsRefusedAt list at line false
Parses list (Err (Nesting at line)) = IsRefusedAt list at line true
Parses list (Err (Unsupported word line)) = first_unsupported list.tokens ≡ Some (word, line)
Parses list (Err Memory) = ⊤

-- no unsupported word stands where anything else is answered
abbrev pub IsSupported : TokenList → Result rust.Unit ParseFault → Type 0
IsSupported list (Err (Unsupported word line)) = ⊤
IsSupported list (Err Memory) = ⊤
IsSupported list answer = first_unsupported list.tokens ≡ None
