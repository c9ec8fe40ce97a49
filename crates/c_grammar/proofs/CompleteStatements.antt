-- Statements and blocks are read from their words.
use Rattle.std.proofs.Common.{◌≡◌, ℕ, zero, suc, ◌<◌, ◌≤◌, true, false, List, [], ◌∷◌, Ok, Option, Some, None, length}
use Rattle.std.proofs.Common.{refl, ap, arith}
use Rattle.std.proofs.lemmas.Bool.{le-leb, both_ways}
use Rattle.c_lexer.specs.declared.keyword.Keyword.{Keyword}
use Rattle.c_lexer.specs.declared.keyword.Keyword.TheVariants as k
use Rattle.c_lexer.specs.declared.punctuator.Punctuator.{Punctuator}
use Rattle.c_lexer.specs.declared.punctuator.Punctuator.TheVariants as p
use Rattle.c_lexer.specs.declared.token.TokenKind.{TokenKind}
use Rattle.c_lexer.specs.declared.token.TokenKind.TheVariants as kinds
use Rattle.c_syntax.specs.declared.position.Position.{Position}
use Rattle.c_syntax.specs.Tree.{Expression}
use Rattle.c_syntax.specs.Statements.{Statement, Block, BlockItems, BlockItem, ForInit}
use Rattle.c_syntax.specs.Statements as s
use Rattle.c_syntax.specs.StatementsView.{items_of}
use Rattle.c_syntax.specs.Levels.{statement_levels, block_levels, items_levels, block_item_levels}
use Rattle.c_syntax.specs.Words.{Words, word_at, keyword, punctuator, expression_words, optional_words, for_init_words}
use Rattle.c_syntax.specs.Words.{statement_words, block_words, items_words, block_item_words}
use Rattle.c_syntax.specs.Formed.{precedence, ends_open, IsExpression, IsWhole, IsOptional, IsForInit, IsStatement}
use Rattle.c_syntax.specs.Formed.{IsBlock, AreItems, IsBlockItem}
use Rattle.c_grammar.specs.Reader.{Outcome, is_punctuator, is_else, next_is, next_is_punctuator, up_to_brace}
use Rattle.c_grammar.specs.Readers.{begins_specifiers}
use Rattle.c_grammar.specs.StatementReader.{StatementReaders, whole_from, optional_from, ended_from, parenthesized_from}
use Rattle.c_grammar.specs.StatementReader.{expression_statement_from, for_init_from, for_head_from, do_end_from}
use Rattle.c_grammar.specs.StatementReader.{case_label_from, return_from, otherwise_from, if_from, switch_from}
use Rattle.c_grammar.specs.StatementReader.{while_from, do_from, for_from, case_from, default_from, block_item_from}
use Rattle.c_grammar.specs.StatementReader.{block_at, outer_by, plain_by, keyword_by, punctuator_by, statement_by}
use Rattle.c_grammar.specs.StatementReader.{statement_at, statement_step, statements}
use Rattle.c_grammar.proofs.Known.{next_binds}
use Rattle.c_grammar.proofs.Facts.{same, expected, parenthesis_binds, colon_binds, semicolon_binds}
use Rattle.c_grammar.proofs.FirstWords.{is_sizeof, is_expression_word, expression_first, expression_no_specifiers}
use Rattle.c_grammar.proofs.FirstWords.{expression_no_brace, expression_no_semicolon, expression_no_parenthesis}
use Rattle.c_grammar.proofs.FirstStatements.{statement_no_specifiers, item_no_brace, items_no_else}
use Rattle.c_grammar.proofs.Lists.{to_brace_turn, to_brace_end}
use Rattle.c_grammar.proofs.LongerStatements.{items_longer, block_item_longer}
use Rattle.c_grammar.proofs.Complete.{complete}
use Rattle.c_grammar.proofs.CompleteExpressions.{some_precedence}
use Rattle.c_grammar.proofs.CompleteDeclarations.{semicolon_no_brace, declaration_first, locals_complete}

-- the items of a block as a list
abbrev pub block_items_list : BlockItems → List BlockItem
block_items_list s.no_items = []
block_items_list (s.items x m) = x ∷ block_items_list m

pub same_block_items : (m : BlockItems) → items_of (block_items_list m) ≡ m
same_block_items s.no_items = refl
same_block_items (s.items x m) = ap (λ m. s.items x m) (same_block_items m)

-- what is well formed and has fewer levels than n is read from its words, a statement where no `else` could go on with
-- it
pub record CompleteStatementReaders (levels : ℕ) (names : List (List ℕ)) (n : ℕ) (deeper : StatementReaders) : Type 0
  where
    pub statement : (x : Statement) (r : Words) → IsStatement levels names x → statement_levels x < n
        → (ends_open x ≡ true → next_is is_else r ≡ false)
        → deeper.statement (statement_words x r) ≡ Ok (x, r)
    pub block : (b : Block) (r : Words) → IsBlock levels names b → block_levels b < n
        → deeper.block (block_words b r) ≡ Ok (b, r)

module _ (levels : ℕ) (names : List (List ℕ)) where
  -- ---- expressions

  whole_again : (e : Expression) (r : Words) → IsWhole levels names e → next_binds r < 1
      → whole_from levels names (expression_words e r) ≡ Ok (e, r)
  whole_again e r h f = (complete names (suc levels)).expressions 1 e r h.1 (omega (arith, h.0)) (omega arith)
      (some_precedence names e h.1) f

  -- in parentheses
  condition_again : (e : Expression) (q : Position) (r : Words) → IsWhole levels names e
      → whole_from levels names (expression_words e (punctuator p.RightParenthesis q ∷ r))
      ≡ Ok (e, punctuator p.RightParenthesis q ∷ r)
  condition_again e q r h = whole_again e (punctuator p.RightParenthesis q ∷ r) h (omega (arith, parenthesis_binds q r))

  optional_again : (a : Punctuator) (e : Option Expression) (r : Words)
      → ((x : Expression) (i : Words) → IsExpression names x → next_is_punctuator a (expression_words x i) ≡ false)
      → IsOptional levels names e → next_is_punctuator a r ≡ true → next_binds r < 1
      → optional_from levels names a (optional_words e r) ≡ Ok (e, r)
  unfolding optional_from
  optional_again a None r apart h ends f = rw ends refl
  optional_again a (Some e) r apart h ends f = rw (apart e r h.1, whole_again e r h f) refl

  -- before a semicolon
  before_semicolon : (e : Option Expression) (at : Position) (r : Words) → IsOptional levels names e
      → optional_from levels names p.Semicolon (optional_words e (punctuator p.Semicolon at ∷ r))
      ≡ Ok (e, punctuator p.Semicolon at ∷ r)
  before_semicolon e at r h = optional_again p.Semicolon e (punctuator p.Semicolon at ∷ r)
      (expression_no_semicolon names) h (same p.Semicolon) (omega (arith, semicolon_binds at r))

  -- before a right parenthesis
  before_parenthesis : (e : Option Expression) (at : Position) (r : Words) → IsOptional levels names e
      → optional_from levels names p.RightParenthesis (optional_words e (punctuator p.RightParenthesis at ∷ r))
      ≡ Ok (e, punctuator p.RightParenthesis at ∷ r)
  before_parenthesis e at r h = optional_again p.RightParenthesis e (punctuator p.RightParenthesis at ∷ r)
      (expression_no_parenthesis names) h (same p.RightParenthesis) (omega (arith, parenthesis_binds at r))

  -- ---- parts of statements without a statement inside

  -- up to a semicolon
  ended_again : (e : Option Expression) (at : Position) (r : Words) → IsOptional levels names e
      → ended_from levels names p.Semicolon (optional_words e (punctuator p.Semicolon at ∷ r)) ≡ Ok ((e, at), r)
  unfolding ended_from
  ended_again e at r h = rw (before_semicolon e at r h, expected p.Semicolon at r) refl

  -- up to a right parenthesis
  closed_again : (e : Option Expression) (at : Position) (r : Words) → IsOptional levels names e
      → ended_from levels names p.RightParenthesis (optional_words e (punctuator p.RightParenthesis at ∷ r))
      ≡ Ok ((e, at), r)
  unfolding ended_from
  closed_again e at r h = rw (before_parenthesis e at r h, expected p.RightParenthesis at r) refl

  parenthesized_again : (l : Position) (e : Expression) (q : Position) (r : Words) → IsWhole levels names e
      → parenthesized_from levels names (punctuator p.LeftParenthesis l
      ∷ expression_words e (punctuator p.RightParenthesis q ∷ r))
      ≡ Ok (record { left = l; inner = e; right = q }, r)
  unfolding parenthesized_from
  parenthesized_again l e q r h =
      rw (
        expected p.LeftParenthesis l (expression_words e (punctuator p.RightParenthesis q ∷ r)),
        condition_again e q r h,
        expected p.RightParenthesis q r,
      ) refl

  expression_statement_again : (e : Option Expression) (at : Position) (r : Words) → IsOptional levels names e
      → expression_statement_from levels names (optional_words e (punctuator p.Semicolon at ∷ r))
      ≡ Ok (s.expression e at, r)
  unfolding expression_statement_from
  expression_statement_again e at r h = rw (ended_again e at r h) refl

  return_again : (at : Position) (e : Option Expression) (semi : Position) (r : Words) → IsOptional levels names e
      → return_from levels names at (optional_words e (punctuator p.Semicolon semi ∷ r)) ≡ Ok (s.return at e semi, r)
  unfolding return_from
  return_again at e semi r h = rw (ended_again e semi r h) refl

  optional_no_specifiers : (e : Option Expression) (at : Position) (r : Words) → IsOptional levels names e
      → begins_specifiers names (optional_words e (punctuator p.Semicolon at ∷ r)) ≡ false
  optional_no_specifiers None at r h = refl
  optional_no_specifiers (Some e) at r h = expression_no_specifiers names e (punctuator p.Semicolon at ∷ r) h.1

  for_init_again : (f : ForInit) (r : Words) → IsForInit levels names f
      → for_init_from levels names (for_init_words f r) ≡ Ok (f, r)
  unfolding for_init_from
  for_init_again (s.declares x) r h = rw (declaration_first levels names x r h.1, locals_complete levels names x r h)
      refl
  for_init_again (s.evaluates e at) r h = rw (optional_no_specifiers e at r h, ended_again e at r h) refl

  do_end_again : (w l : Position) (e : Expression) (q semi : Position) (r : Words) → IsWhole levels names e
      → do_end_from levels names (keyword k.While w ∷ punctuator p.LeftParenthesis l
      ∷ expression_words e (punctuator p.RightParenthesis q ∷ punctuator p.Semicolon semi ∷ r))
      ≡ Ok (record { again = w; condition = record { left = l; inner = e; right = q }; semicolon = semi }, r)
  unfolding do_end_from
  do_end_again w l e q semi r h =
      rw (parenthesized_again l e q (punctuator p.Semicolon semi ∷ r) h, expected p.Semicolon semi r) refl

  for_head_again : (l : Position) (f : ForInit) (c : Option Expression) (semi : Position) (e : Option Expression)
      (q : Position) (r : Words)
      → IsForInit levels names f → IsOptional levels names c → IsOptional levels names e
      → for_head_from levels names (punctuator p.LeftParenthesis l
      ∷ for_init_words f (optional_words c (punctuator p.Semicolon semi
      ∷ optional_words e (punctuator p.RightParenthesis q ∷ r))))
      ≡ Ok (record { left = l; init = f; condition = c; semicolon = semi; step = e; right = q }, r)
  unfolding for_head_from
  for_head_again l f c semi e q r first second third =
      let step : Words = optional_words e (punctuator p.RightParenthesis q ∷ r) in
      let condition : Words = optional_words c (punctuator p.Semicolon semi ∷ step) in
      rw (
        expected p.LeftParenthesis l (for_init_words f condition),
        for_init_again f condition first,
        ended_again c semi step second,
        closed_again e q r third,
      ) refl

  label_again : (at : Position) (e : Expression) (colon : Position) (r : Words) → 3 ≤ precedence e
      → IsWhole levels names e
      → case_label_from levels names at (expression_words e (punctuator p.Colon colon ∷ r))
      ≡ Ok (record { position = at; value = e; colon = colon }, r)
  unfolding case_label_from
  label_again at e colon r constant whole =
      rw (
        (complete names (suc levels)).expressions 3 e (punctuator p.Colon colon ∷ r) whole.1 (omega (arith, whole.0))
            (omega arith) constant
            (omega (arith, colon_binds colon r)),
        expected p.Colon colon r,
      ) refl

  module _ (d : ℕ) (deeper : StatementReaders) (known : CompleteStatementReaders levels names d deeper) where
    -- ---- blocks

    block_item_again : (x : BlockItem) (r : Words) → IsBlockItem levels names x → block_item_levels x ≤ d
        → next_is is_else r ≡ false
        → block_item_from levels names deeper (block_item_words x r) ≡ Ok (x, r)
    unfolding block_item_from
    block_item_again (s.local x) r h low ends =
        rw (declaration_first levels names x r h.1, locals_complete levels names x r h) refl
    block_item_again (s.inner x) r h low ends =
        rw (statement_no_specifiers names levels x r h, known.statement x r h (omega arith) (λ _. ends)) refl

    block_items_again : (n : ℕ) (m : BlockItems) (q : Position) (r : Words) → AreItems levels names m
        → items_levels m ≤ d
        → length (items_words m (punctuator p.RightBrace q ∷ r)) ≤ n
        → up_to_brace (block_item_from levels names deeper) n (items_words m (punctuator p.RightBrace q ∷ r))
        ≡ Ok (block_items_list m, punctuator p.RightBrace q ∷ r)
    block_items_again zero m q r h low room = absurd (omega (arith, items_longer m (punctuator p.RightBrace q ∷ r)))
    block_items_again (suc n) s.no_items q r h low room = to_brace_end (block_item_from levels names deeper) n
        (punctuator p.RightBrace q ∷ r) (same p.RightBrace)
    block_items_again (suc n) (s.items x m) q r h low room =
        let behind : Words = items_words m (punctuator p.RightBrace q ∷ r) in
        to_brace_turn (block_item_from levels names deeper) n (block_item_words x behind) behind
        (punctuator p.RightBrace q ∷ r) x (block_items_list m)
        (item_no_brace names levels x behind h.0)
        (block_item_again x behind h.0 (omega arith) (items_no_else names levels m q r h.1))
        (block_items_again n m q r h.1 (omega arith) (omega (arith, block_item_longer x behind)))

    block_again : (b : Block) (r : Words) → IsBlock levels names b → block_levels b ≤ d
        → block_at levels names deeper (block_words b r) ≡ Ok (b, r)
    unfolding block_at
    block_again (s.block l m q) r h low =
        let behind : Words = items_words m (punctuator p.RightBrace q ∷ r) in
        rw (
          expected p.LeftBrace l behind,
          block_items_again (length behind) m q r h low (omega arith),
          expected p.RightBrace q r,
          same_block_items m,
        ) refl

    -- ---- statements with a statement inside, behind their keyword

    if_then_again : (at l : Position) (e : Expression) (q : Position) (x : Statement) (r : Words)
        → IsWhole levels names e → IsStatement levels names x → statement_levels x < d → next_is is_else r ≡ false
        → if_from levels names deeper at (punctuator p.LeftParenthesis l
        ∷ expression_words e (punctuator p.RightParenthesis q ∷ statement_words x r)) ≡ Ok (s.if_then at l e q x, r)
    unfolding if_from
    if_then_again at l e q x r whole h low ends =
        let behind : Words = statement_words x r in
        rw (
          parenthesized_again l e q behind whole,
          known.statement x r h low (λ _. ends),
          ends,
        ) refl

    if_else_again : (at l : Position) (e : Expression) (q : Position) (x : Statement) (o : Position) (y : Statement)
        (r : Words) → ends_open x ≡ false → IsWhole levels names e → IsStatement levels names x
        → IsStatement levels names y
        → statement_levels x < d → statement_levels y < d → (ends_open y ≡ true → next_is is_else r ≡ false)
        → if_from levels names deeper at (punctuator p.LeftParenthesis l
        ∷ expression_words e (punctuator p.RightParenthesis q ∷ statement_words x
        (keyword k.Else o ∷ statement_words y r)))
        ≡ Ok (s.if_else at l e q x o y, r)
    unfolding if_from otherwise_from
    if_else_again at l e q x o y r closed whole one other low shallow ends =
        let behind : Words = statement_words x (keyword k.Else o ∷ statement_words y r) in
        rw (
          parenthesized_again l e q behind whole,
          known.statement x (keyword k.Else o ∷ statement_words y r) one low
              (λ is. absurd (both_ways (ends_open x) closed is)),
          known.statement y r other shallow ends,
        ) refl

    switch_again : (at l : Position) (e : Expression) (q : Position) (b : Block) (r : Words) → IsWhole levels names e
        → IsBlock levels names b → block_levels b < d
        → switch_from levels names deeper at (punctuator p.LeftParenthesis l
        ∷ expression_words e (punctuator p.RightParenthesis q ∷ block_words b r)) ≡ Ok (s.switch at l e q b, r)
    unfolding switch_from
    switch_again at l e q b r whole h low =
        let behind : Words = block_words b r in
        rw (
          parenthesized_again l e q behind whole,
          known.block b r h low,
        ) refl

    while_again : (at l : Position) (e : Expression) (q : Position) (x : Statement) (r : Words) → IsWhole levels names e
        → IsStatement levels names x → statement_levels x < d → (ends_open x ≡ true → next_is is_else r ≡ false)
        → while_from levels names deeper at (punctuator p.LeftParenthesis l
        ∷ expression_words e (punctuator p.RightParenthesis q ∷ statement_words x r)) ≡ Ok (s.while_do at l e q x, r)
    unfolding while_from
    while_again at l e q x r whole h low ends =
        let behind : Words = statement_words x r in
        rw (
          parenthesized_again l e q behind whole,
          known.statement x r h low ends,
        ) refl

    do_again : (at : Position) (x : Statement) (w l : Position) (e : Expression) (q semi : Position) (r : Words)
        → IsStatement levels names x → IsWhole levels names e → statement_levels x < d
        → do_from levels names deeper at (statement_words x (keyword k.While w ∷ punctuator p.LeftParenthesis l
        ∷ expression_words e (punctuator p.RightParenthesis q ∷ punctuator p.Semicolon semi ∷ r)))
        ≡ Ok (s.do_while at x w l e q semi, r)
    unfolding do_from
    do_again at x w l e q semi r h whole low =
        let behind : Words = expression_words e (punctuator p.RightParenthesis q ∷ punctuator p.Semicolon semi ∷ r) in
        rw (
          known.statement x (keyword k.While w ∷ punctuator p.LeftParenthesis l ∷ behind) h low (λ _. refl),
          do_end_again w l e q semi r whole,
        ) refl

    for_again : (at l : Position) (f : ForInit) (c : Option Expression) (semi : Position) (e : Option Expression)
        (q : Position) (x : Statement) (r : Words)
        → IsForInit levels names f → IsOptional levels names c → IsOptional levels names e → IsStatement levels names x
        → statement_levels x < d → (ends_open x ≡ true → next_is is_else r ≡ false)
        → for_from levels names deeper at (punctuator p.LeftParenthesis l
        ∷ for_init_words f (optional_words c (punctuator p.Semicolon semi
        ∷ optional_words e (punctuator p.RightParenthesis q ∷ statement_words x r))))
        ≡ Ok (s.for at l f c semi e q x, r)
    unfolding for_from
    for_again at l f c semi e q x r first second third h low ends =
        rw (for_head_again l f c semi e q (statement_words x r) first second third, known.statement x r h low ends) refl

    case_again : (at : Position) (e : Expression) (colon : Position) (x : Statement) (r : Words) → 3 ≤ precedence e
        → IsWhole levels names e → IsStatement levels names x → statement_levels x < d
        → (ends_open x ≡ true → next_is is_else r ≡ false)
        → case_from levels names deeper at (expression_words e (punctuator p.Colon colon ∷ statement_words x r))
        ≡ Ok (s.case at e colon x, r)
    unfolding case_from
    case_again at e colon x r constant whole h low ends =
        rw (label_again at e colon (statement_words x r) constant whole, known.statement x r h low ends) refl

    default_again : (at colon : Position) (x : Statement) (r : Words) → IsStatement levels names x
        → statement_levels x < d → (ends_open x ≡ true → next_is is_else r ≡ false)
        → default_from levels names deeper at (punctuator p.Colon colon ∷ statement_words x r)
        ≡ Ok (s.default at colon x, r)
    unfolding default_from
    default_again at colon x r h low ends = rw (
      expected p.Colon colon (statement_words x r),
      known.statement x r h low ends,
    ) refl

    -- ---- a statement by its first word

    -- what begins an expression is read as an expression
    by_keyword : (n : ℕ) (x : Keyword) (at : Position) (i : Words) (o : Outcome Statement) → is_sizeof x ≡ true
        → expression_statement_from levels names (keyword x at ∷ i) ≡ o
        → statement_by levels names deeper n (kinds.Keyword x) at i ≡ o
    unfolding statement_by keyword_by plain_by
    by_keyword n k.Sizeof at i o h same = same
    by_keyword n _ at i o h same = cc

    by_word : (n : ℕ) (w : TokenKind) (at : Position) (i : Words) (o : Outcome Statement)
        → is_expression_word names w ≡ true → is_punctuator p.LeftBrace w ≡ false
        → expression_statement_from levels names (word_at w at ∷ i) ≡ o → statement_by levels names deeper n w at i ≡ o
    unfolding statement_by punctuator_by
    by_word n (kinds.Keyword x) at i o h apart same = by_keyword n x at i o h same
    by_word n (kinds.Punctuator x) at i o h apart same = rw apart same
    by_word n _ at i o h apart same = same

    by_expression : (n : ℕ) (i : Words) (o : Outcome Statement) → next_is (is_expression_word names) i ≡ true
        → next_is_punctuator p.LeftBrace i ≡ false
        → expression_statement_from levels names i ≡ o → statement_at levels names deeper n i ≡ o
    unfolding statement_at
    by_expression n [] o h apart same = cc
    by_expression n (first ∷ i) o h apart same = by_word n first.kind first.position i o h apart same

    expression_again : (e : Option Expression) (at : Position) (r : Words) → IsOptional levels names e
        → statement_at levels names deeper d (optional_words e (punctuator p.Semicolon at ∷ r))
        ≡ Ok (s.expression e at, r)
    unfolding statement_at statement_by punctuator_by
    expression_again None at r h = rw (semicolon_no_brace at r, expression_statement_again None at r h) refl
    expression_again (Some e) at r h =
        let behind : Words = punctuator p.Semicolon at ∷ r in
        by_expression d (expression_words e behind) (Ok (s.expression (Some e) at, r))
        (expression_first names e behind h.1) (expression_no_brace names e behind h.1)
        (expression_statement_again (Some e) at r h)

    statement_again : (x : Statement) (r : Words) → IsStatement levels names x → statement_levels x ≤ d
        → (ends_open x ≡ true → next_is is_else r ≡ false)
        → statement_at levels names deeper d (statement_words x r) ≡ Ok (x, r)
    unfolding statement_at statement_by keyword_by punctuator_by outer_by plain_by
    statement_again (s.compound (s.block l m q)) r h low ends =
        rw (same p.LeftBrace, block_again (s.block l m q) r h low) refl
    statement_again (s.expression e at) r h low ends = expression_again e at r h
    statement_again (s.if_then at l e q x) r h low ends = let level : 1 ≤ d = omega arith in
        rw (le-leb 1 d level, if_then_again at l e q x r h.0 h.1 (omega arith) (ends refl)) refl
    statement_again (s.if_else at l e q x o y) r h low ends = let level : 1 ≤ d = omega arith in
        rw (le-leb 1 d level, if_else_again at l e q x o y r h.0 h.1 h.2 h.3 (omega arith) (omega arith) ends) refl
    statement_again (s.switch at l e q b) r h low ends = let level : 1 ≤ d = omega arith in
        rw (le-leb 1 d level, switch_again at l e q b r h.0 h.1 (omega arith)) refl
    statement_again (s.while_do at l e q x) r h low ends = let level : 1 ≤ d = omega arith in
        rw (le-leb 1 d level, while_again at l e q x r h.0 h.1 (omega arith) ends) refl
    statement_again (s.do_while at x w l e q semi) r h low ends = let level : 1 ≤ d = omega arith in
        rw (le-leb 1 d level, do_again at x w l e q semi r h.0 h.1 (omega arith)) refl
    statement_again (s.for at l f c semi e q x) r h low ends = let level : 1 ≤ d = omega arith in
        rw (le-leb 1 d level, for_again at l f c semi e q x r h.0 h.1 h.2 h.3 (omega arith) ends) refl
    statement_again (s.case at e colon x) r h low ends = let level : 1 ≤ d = omega arith in
        rw (le-leb 1 d level, case_again at e colon x r h.0 h.1 h.2 (omega arith) ends) refl
    statement_again (s.default at colon x) r h low ends = let level : 1 ≤ d = omega arith in
        rw (le-leb 1 d level, default_again at colon x r h (omega arith) ends) refl
    statement_again (s.break at semi) r h low ends = rw (expected p.Semicolon semi r) refl
    statement_again (s.continue at semi) r h low ends = rw (expected p.Semicolon semi r) refl
    statement_again (s.return at e semi) r h low ends = return_again at e semi r h

    -- one level more
    pub statement_step_complete : CompleteStatementReaders levels names (suc d) (statement_step levels names deeper d)
    statement_step_complete = record {
      statement = λ x r h low ends. statement_again x r h (omega arith) ends;
      block = λ b r h low. block_again b r h (omega arith);
    }

  -- the readers of what has fewer levels than n read each well-formed statement and block of so many
  pub statement_readers_complete : (n : ℕ) → CompleteStatementReaders levels names n (statements levels names n)
  unfolding statements
  statement_readers_complete zero = record {
    statement = λ x r h low ends. absurd (omega arith);
    block =
        λ b r h low. absurd (omega arith);
  }
  statement_readers_complete (suc n) = statement_step_complete n (statements levels names n)
      (statement_readers_complete n)

  -- a statement with fewer levels than n is read from its words, where no `else` could go on with it
  pub statements_complete : (n : ℕ) (x : Statement) (r : Words) → IsStatement levels names x → statement_levels x < n
      → (ends_open x ≡ true → next_is is_else r ≡ false)
      → (statements levels names n).statement (statement_words x r) ≡ Ok (x, r)
  statements_complete n = (statement_readers_complete n).statement

  -- a block with fewer levels than n is read from its words
  pub blocks_complete : (n : ℕ) (b : Block) (r : Words) → IsBlock levels names b → block_levels b < n
      → (statements levels names n).block (block_words b r) ≡ Ok (b, r)
  blocks_complete n = (statement_readers_complete n).block
