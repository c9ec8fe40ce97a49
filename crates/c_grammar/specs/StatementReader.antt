-- Reading statements (C99 6.8).
use Rattle.std.specs.Prelude.{ℕ, zero, suc, nat_le, Bool, true, false, if◌then◌else◌, List, [], ◌∷◌, Ok, Err, Option}
use Rattle.std.specs.Prelude.{Some, None, length}
use Rattle.c_lexer.specs.declared.keyword.Keyword.{Keyword}
use Rattle.c_lexer.specs.declared.keyword.Keyword.TheVariants as k
use Rattle.c_lexer.specs.declared.punctuator.Punctuator.{Punctuator}
use Rattle.c_lexer.specs.declared.punctuator.Punctuator.TheVariants as p
use Rattle.c_lexer.specs.declared.token.TokenKind.{TokenKind}
use Rattle.c_lexer.specs.declared.token.TokenKind.TheVariants as kinds
use Rattle.c_syntax.specs.declared.position.Position.{Position}
use Rattle.c_syntax.specs.Tree.{Expression}
use Rattle.c_syntax.specs.Statements.{Statement, Block, BlockItem, ForInit}
use Rattle.c_syntax.specs.Statements as s
use Rattle.c_syntax.specs.StatementsView.{items_of}
use Rattle.c_syntax.specs.Words.{Words, word_at}
use Rattle.c_grammar.specs.Reader.{Outcome, ◌>>=◌, is_same, is_else, is_while, next_is, next_is_punctuator, take_word}
use Rattle.c_grammar.specs.Reader.{expect, up_to_brace}
use Rattle.c_grammar.specs.Readers.{begins_specifiers}
use Rattle.c_grammar.specs.Nested.{readers}
use Rattle.c_grammar.specs.DeclarationReader.{local_from}
use Rattle.c_grammar.specs.LeastPrecedence as least

-- the readers of statements and blocks that have fewer levels than a number
pub record StatementReaders : Type 0 where
  pub statement : Words → Outcome Statement
  pub block : Words → Outcome Block

-- nothing has fewer levels than 0
abbrev pub refusing_statements : StatementReaders
refusing_statements = record { statement = λ i. Err i; block = λ i. Err i }

-- an expression in parentheses (C99 6.8.4, 6.8.5)
pub record InParentheses : Type 0 where
  pub left : Position
  pub inner : Expression
  pub right : Position

-- what stands behind the body of a `do` (C99 6.8.5.2)
pub record BehindDo : Type 0 where
  pub again : Position
  pub condition : InParentheses
  pub semicolon : Position

-- what stands between `for` and its body (C99 6.8.5.3)
pub record HeadOfFor : Type 0 where
  pub left : Position
  pub init : ForInit
  pub condition : Option Expression
  pub semicolon : Position
  pub step : Option Expression
  pub right : Position

-- `case expression :` (C99 6.8.1)
pub record LabelOfCase : Type 0 where
  pub position : Position
  pub value : Expression
  pub colon : Position

-- the keyword begins a statement that has another inside
abbrev pub holds_statement : Keyword → Bool
holds_statement k.If = true
holds_statement k.Switch = true
holds_statement k.While = true
holds_statement k.Do = true
holds_statement k.For = true
holds_statement k.Case = true
holds_statement k.Default = true
holds_statement _ = false

-- how many levels there may be in an expression or declaration, and the typedef names
module _ (levels : ℕ) (names : List (List ℕ)) where
  -- an expression of a statement, measured by itself
  abbrev pub whole_from : Words → Outcome Expression
  whole_from i = (readers names (suc levels)).expression None least.comma i

  -- an expression, or none where this punctuator is next
  unfoldable pub optional_from : Punctuator → Words → Outcome (Option Expression)
  optional_from x i = if next_is_punctuator x i then Ok (None, i) else (whole_from i >>= λ e i. Ok (Some e, i))

  -- the same, and the punctuator
  unfoldable pub ended_from : Punctuator → Words → Outcome (Option Expression × Position)
  ended_from x i = optional_from x i >>= λ e i. expect x i >>= λ at i. Ok ((e, at), i)

  -- an expression in parentheses
  unfoldable pub parenthesized_from : Words → Outcome InParentheses
  parenthesized_from i =
      expect p.LeftParenthesis i >>= λ l i. whole_from i >>= λ e i. expect p.RightParenthesis i >>= λ r i.
      Ok (record { left = l; inner = e; right = r }, i)

  -- C99 6.8.3
  unfoldable pub expression_statement_from : Words → Outcome Statement
  expression_statement_from i = ended_from p.Semicolon i >>= λ z i. Ok (s.expression z.0 z.1, i)

  -- C99 6.8.5.3
  unfoldable pub for_init_from : Words → Outcome ForInit
  for_init_from i =
      if begins_specifiers names i
      then (local_from levels names i >>= λ d i. Ok (s.declares d, i))
      else (ended_from p.Semicolon i >>= λ z i. Ok (s.evaluates z.0 z.1, i))

  -- between `for` and its body (C99 6.8.5.3)
  unfoldable pub for_head_from : Words → Outcome HeadOfFor
  for_head_from i =
      expect p.LeftParenthesis i >>= λ l i. for_init_from i >>= λ f i. ended_from p.Semicolon i >>= λ c i.
      ended_from p.RightParenthesis i >>= λ e i.
      Ok (record { left = l; init = f; condition = c.0; semicolon = c.1; step = e.0; right = e.1 }, i)

  -- behind the body of a `do` (C99 6.8.5.2)
  unfoldable pub do_end_from : Words → Outcome BehindDo
  do_end_from i =
      take_word is_while i >>= λ q i. parenthesized_from i >>= λ h i. expect p.Semicolon i >>= λ semi i.
      Ok (record { again = q; condition = h; semicolon = semi }, i)

  -- behind `case`, up to the `:` (C99 6.8.1)
  unfoldable pub case_label_from : Position → Words → Outcome LabelOfCase
  case_label_from at i =
      (readers names (suc levels)).expression None least.conditional i >>= λ e i. expect p.Colon i >>= λ colon i.
      Ok (record { position = at; value = e; colon = colon }, i)

  -- C99 6.8.6.4
  unfoldable pub return_from : Position → Words → Outcome Statement
  return_from at i = ended_from p.Semicolon i >>= λ z i. Ok (s.return at z.0 z.1, i)

  -- a statement that begins with a keyword and has no other inside
  unfoldable pub plain_by : Keyword → Position → Words → Outcome Statement
  plain_by k.Break at i = expect p.Semicolon i >>= λ semi i. Ok (s.break at semi, i)
  plain_by k.Continue at i = expect p.Semicolon i >>= λ semi i. Ok (s.continue at semi, i)
  plain_by k.Return at i = return_from at i
  plain_by x at i = expression_statement_from (word_at (kinds.Keyword x) at ∷ i)

  module _ (deeper : StatementReaders) where
    -- `else` and a statement (C99 6.8.4.1)
    unfoldable pub otherwise_from : Words → Outcome (Position × Statement)
    otherwise_from i = take_word is_else i >>= λ q i. deeper.statement i >>= λ x i. Ok ((q, x), i)

    -- behind `if` (C99 6.8.4.1)
    unfoldable pub if_from : Position → Words → Outcome Statement
    if_from at i =
        parenthesized_from i >>= λ h i. deeper.statement i >>= λ x i.
        (if next_is is_else i
        then (otherwise_from i >>= λ y i. Ok (s.if_else at h.left h.inner h.right x y.0 y.1, i))
        else Ok (s.if_then at h.left h.inner h.right x, i))

    -- behind `switch` (C99 6.8.4.2)
    unfoldable pub switch_from : Position → Words → Outcome Statement
    switch_from at i =
        parenthesized_from i >>= λ h i. deeper.block i >>= λ b i. Ok (s.switch at h.left h.inner h.right b, i)

    -- behind `while` (C99 6.8.5.1)
    unfoldable pub while_from : Position → Words → Outcome Statement
    while_from at i =
        parenthesized_from i >>= λ h i. deeper.statement i >>= λ x i. Ok (s.while_do at h.left h.inner h.right x, i)

    -- behind `do` (C99 6.8.5.2)
    unfoldable pub do_from : Position → Words → Outcome Statement
    do_from at i =
        deeper.statement i >>= λ x i. do_end_from i >>= λ z i.
        Ok (s.do_while at x z.again z.condition.left z.condition.inner z.condition.right z.semicolon, i)

    -- behind `for` (C99 6.8.5.3)
    unfoldable pub for_from : Position → Words → Outcome Statement
    for_from at i =
        for_head_from i >>= λ h i. deeper.statement i >>= λ x i.
        Ok (s.for at h.left h.init h.condition h.semicolon h.step h.right x, i)

    -- behind `case` (C99 6.8.1)
    unfoldable pub case_from : Position → Words → Outcome Statement
    case_from at i =
        case_label_from at i >>= λ h i. deeper.statement i >>= λ x i. Ok (s.case h.position h.value h.colon x, i)

    -- behind `default` (C99 6.8.1)
    unfoldable pub default_from : Position → Words → Outcome Statement
    default_from at i = expect p.Colon i >>= λ colon i. deeper.statement i >>= λ x i. Ok (s.default at colon x, i)

    -- a declaration or statement of a block (C99 6.8.2)
    unfoldable pub block_item_from : Words → Outcome BlockItem
    block_item_from i =
        if begins_specifiers names i
        then (local_from levels names i >>= λ d i. Ok (s.local d, i))
        else (deeper.statement i >>= λ x i. Ok (s.inner x, i))

    -- C99 6.8.2
    unfoldable pub block_at : Words → Outcome Block
    block_at i =
        expect p.LeftBrace i >>= λ l i. up_to_brace block_item_from (length i) i >>= λ z i. expect p.RightBrace i
        >>= λ r i.
        Ok (s.block l (items_of z) r, i)

    -- a statement that begins with a keyword, which has another statement inside
    unfoldable pub outer_by : Keyword → Position → Words → Outcome Statement
    outer_by k.If at i = if_from at i
    outer_by k.Switch at i = switch_from at i
    outer_by k.While at i = while_from at i
    outer_by k.Do at i = do_from at i
    outer_by k.For at i = for_from at i
    outer_by k.Case at i = case_from at i
    outer_by k.Default at i = default_from at i
    outer_by x at i = Err (word_at (kinds.Keyword x) at ∷ i)

    -- a statement that begins with a keyword, with at most this number of levels
    unfoldable pub keyword_by : ℕ → Keyword → Position → Words → Outcome Statement
    keyword_by depth x at i =
        if holds_statement x
        then (if nat_le 1 depth then outer_by x at i else Err (word_at (kinds.Keyword x) at ∷ i))
        else plain_by x at i

    -- a statement that begins with a punctuator
    unfoldable pub punctuator_by : Punctuator → Position → Words → Outcome Statement
    punctuator_by x at i =
        if is_same p.LeftBrace x
        then (block_at (word_at (kinds.Punctuator x) at ∷ i) >>= λ b i. Ok (s.compound b, i))
        else expression_statement_from (word_at (kinds.Punctuator x) at ∷ i)

    -- a statement by its first word, with at most this number of levels
    unfoldable pub statement_by : ℕ → TokenKind → Position → Words → Outcome Statement
    statement_by depth (kinds.Keyword x) at i = keyword_by depth x at i
    statement_by depth (kinds.Punctuator x) at i = punctuator_by x at i
    statement_by depth w at i = expression_statement_from (word_at w at ∷ i)

    -- a statement with at most this number of levels (C99 6.8)
    unfoldable pub statement_at : ℕ → Words → Outcome Statement
    statement_at depth [] = Err []
    statement_at depth (first ∷ i) = statement_by depth first.kind first.position i

    -- the readers of what has at most this number of levels
    abbrev pub statement_step : ℕ → StatementReaders
    statement_step depth = record { statement = λ i. statement_at depth i; block = λ i. block_at i }

  -- the readers of what has fewer levels than a number
  unfoldable pub statements : ℕ → StatementReaders
  statements zero = refusing_statements
  statements (suc depth) = statement_step (statements depth) depth
