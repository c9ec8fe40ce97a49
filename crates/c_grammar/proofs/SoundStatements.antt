-- What is read as a statement or block is a well-formed one with the words that were read (C99 6.8).
use Rattle.std.proofs.Common.{◌≡◌, ℕ, zero, suc, ◌<◌, ◌≤◌, nat_le, Bool, true, false, List, [], ◌∷◌, length, Option}
use Rattle.std.proofs.Common.{Some, None, refl, ap, ◌∙◌, arith}
use Rattle.std.proofs.lemmas.Bool.{both_ways, false≢true}
use Rattle.c_lexer.specs.declared.keyword.Keyword.{Keyword}
use Rattle.c_lexer.specs.declared.keyword.Keyword.TheVariants as k
use Rattle.c_lexer.specs.declared.punctuator.Punctuator.{Punctuator}
use Rattle.c_lexer.specs.declared.punctuator.Punctuator.TheVariants as p
use Rattle.c_lexer.specs.declared.token.TokenKind.{TokenKind}
use Rattle.c_lexer.specs.declared.token.TokenKind.TheVariants as kinds
use Rattle.c_syntax.specs.declared.position.Position.{Position}
use Rattle.c_syntax.specs.Tree.{Expression}
use Rattle.c_syntax.specs.Statements.{Statement, Block, BlockItem, ForInit}
use Rattle.c_syntax.specs.Statements as s
use Rattle.c_syntax.specs.StatementsView.{items_of}
use Rattle.c_syntax.specs.Levels.{statement_levels, block_levels, items_levels, block_item_levels}
use Rattle.c_syntax.specs.Words.{Words, word_at, keyword, punctuator, expression_words, optional_words, for_init_words}
use Rattle.c_syntax.specs.Words.{statement_words, block_words, items_words, block_item_words}
use Rattle.c_syntax.specs.Formed.{precedence, ends_open, IsWhole, IsOptional, IsForInit, IsStatement, IsBlock, AreItems}
use Rattle.c_syntax.specs.Formed.{IsBlockItem}
use Rattle.c_grammar.specs.Reader.{is_same, is_else, is_while, next_is, take_word}
use Rattle.c_grammar.specs.Nested.{readers}
use Rattle.c_grammar.specs.StatementReader.{StatementReaders, InParentheses, BehindDo, HeadOfFor, LabelOfCase}
use Rattle.c_grammar.specs.StatementReader.{holds_statement, whole_from, optional_from, ended_from, parenthesized_from}
use Rattle.c_grammar.specs.StatementReader.{expression_statement_from, for_init_from, for_head_from, do_end_from}
use Rattle.c_grammar.specs.StatementReader.{case_label_from, return_from, otherwise_from, if_from, switch_from}
use Rattle.c_grammar.specs.StatementReader.{while_from, do_from, for_from, case_from, default_from, block_item_from}
use Rattle.c_grammar.specs.StatementReader.{block_at, outer_by, plain_by, keyword_by, punctuator_by, statement_by}
use Rattle.c_grammar.specs.StatementReader.{statement_at, statement_step, statements}
use Rattle.c_grammar.proofs.Inversion.{Gives, gives_ok, gives_err, gives_bind, gives_map, gives_if, expect_gives}
use Rattle.c_grammar.proofs.Inversion.{FoundEach, up_to_brace_gives}
use Rattle.c_grammar.proofs.SoundTyped.{expression_part}
use Rattle.c_grammar.proofs.Sound.{sound}
use Rattle.c_grammar.proofs.SoundDeclarations.{local_gives}

-- ---- keywords

only_else : (w : TokenKind) → is_else w ≡ true → w ≡ kinds.Keyword k.Else
only_else (kinds.Keyword k.Else) h = refl
only_else _ h = absurd (false≢true h)

only_while : (w : TokenKind) → is_while w ≡ true → w ≡ kinds.Keyword k.While
only_while (kinds.Keyword k.While) h = refl
only_while _ h = absurd (false≢true h)

-- a test that one keyword alone passes takes that keyword
keyword_gives : (x : Keyword) (is : TokenKind → Bool) → ((w : TokenKind) → is w ≡ true → w ≡ kinds.Keyword x)
    → (i : Words) → Gives (take_word is i) (λ at r. i ≡ keyword x at ∷ r)
keyword_gives x is only [] = gives_err []
keyword_gives x is only (first ∷ i) = gives_if
    (λ h. gives_ok first.position i (ap (λ w. word_at w first.position ∷ i) (only first.kind h)))
    (λ _. gives_err (first ∷ i))

-- an `else` follows, and none follows an end that is open
not_open : (x : Statement) (r : Words) → (ends_open x ≡ true → next_is is_else r ≡ false) → next_is is_else r ≡ true
    → ends_open x ≡ false
not_open x r settled h = by (ends_open x) settled
  where
    by : (c : Bool) → (c ≡ true → next_is is_else r ≡ false) → c ≡ false
    by true settled = absurd (both_ways (next_is is_else r) (settled refl) h)
    by false settled = refl

module _ (levels : ℕ) (names : List (List ℕ)) where
  -- ---- expressions of statements

  -- the words i are those of an expression that binds at least so tightly and then r
  record FoundWhole (m : ℕ) (i : Words) (e : Expression) (r : Words) : Type 0 where
    formed : IsWhole levels names e
    binding : m ≤ precedence e
    same : i ≡ expression_words e r

  expression_gives : (m : ℕ) (i : Words) → m < 16 → Gives ((readers names (suc levels)).expression None m i)
      (FoundWhole m i)
  expression_gives m i low = gives_map (expression_part names (suc levels) (readers names (suc levels))
      (sound names (suc levels)) m i low) λ e r f.
      record { formed = (omega (arith, f.low), f.formed); binding = f.binding; same = f.same }

  whole_gives : (i : Words) → Gives (whole_from levels names i) (FoundWhole 1 i)
  whole_gives i = expression_gives 1 i (omega arith)

  -- the words i are those of an expression, or none, and then r
  record FoundOptional (i : Words) (e : Option Expression) (r : Words) : Type 0 where
    formed : IsOptional levels names e
    same : i ≡ optional_words e r

  optional_gives : (x : Punctuator) (i : Words) → Gives (optional_from levels names x i) (FoundOptional i)
  unfolding optional_from
  optional_gives x i = gives_if
      (λ _. gives_ok None i (record { formed = tt; same = refl }))
      (λ _. gives_bind (whole_gives i) λ e r f. gives_ok (Some e) r (record { formed = f.formed; same = f.same }))

  -- the words i are those of an expression or none and this punctuator and then r
  record FoundEnded (x : Punctuator) (i : Words) (z : Option Expression × Position) (r : Words) : Type 0 where
    formed : IsOptional levels names z.0
    same : i ≡ optional_words z.0 (punctuator x z.1 ∷ r)

  ended_gives : (x : Punctuator) (i : Words) → Gives (ended_from levels names x i) (FoundEnded x i)
  unfolding ended_from
  ended_gives x i = gives_bind (optional_gives x i) λ e j f. gives_bind (expect_gives x j) λ at r g.
      gives_ok (e, at) r (record { formed = f.formed; same = rw (f.same, g) refl })

  -- the words i are those of the first part of the head of a `for` and then r
  record FoundForInit (i : Words) (x : ForInit) (r : Words) : Type 0 where
    formed : IsForInit levels names x
    same : i ≡ for_init_words x r

  for_init_gives : (i : Words) → Gives (for_init_from levels names i) (FoundForInit i)
  unfolding for_init_from
  for_init_gives i = gives_if
      (λ _. gives_bind (local_gives levels names i) λ d r f. gives_ok (s.declares d) r
      (record { formed = f.formed; same = f.same }))
      (λ _. gives_bind (ended_gives p.Semicolon i) λ z r f.
      gives_ok (s.evaluates z.0 z.1) r (record { formed = f.formed; same = f.same }))

  -- the words i are those of an expression in parentheses and then r
  record FoundParenthesized (i : Words) (h : InParentheses) (r : Words) : Type 0 where
    formed : IsWhole levels names h.inner
    same : i ≡ punctuator p.LeftParenthesis h.left ∷ expression_words h.inner
        (punctuator p.RightParenthesis h.right ∷ r)

  parenthesized_gives : (i : Words) → Gives (parenthesized_from levels names i) (FoundParenthesized i)
  unfolding parenthesized_from
  parenthesized_gives i = gives_bind (expect_gives p.LeftParenthesis i) λ l i f. gives_bind (whole_gives i) λ e i g.
      gives_bind (expect_gives p.RightParenthesis i) λ r i h.
      gives_ok (record { left = l; inner = e; right = r }) i
      (record { formed = g.formed; same = rw (f, g.same, h) refl })

  -- the words i are those of what stands behind the body of a `do` and then r
  record FoundDoEnd (i : Words) (z : BehindDo) (r : Words) : Type 0 where
    formed : IsWhole levels names z.condition.inner
    same : i ≡ keyword k.While z.again ∷ punctuator p.LeftParenthesis z.condition.left
        ∷ expression_words z.condition.inner (punctuator p.RightParenthesis z.condition.right
        ∷ punctuator p.Semicolon z.semicolon ∷ r)

  do_end_gives : (i : Words) → Gives (do_end_from levels names i) (FoundDoEnd i)
  unfolding do_end_from
  do_end_gives i = gives_bind (keyword_gives k.While is_while only_while i) λ q i next.
      gives_bind (parenthesized_gives i) λ h i f.
      gives_bind (expect_gives p.Semicolon i) λ semi i last.
      gives_ok (record { again = q; condition = h; semicolon = semi }) i
      (record { formed = f.formed; same = rw (next, f.same, last) refl })

  -- the words i are those of what stands between `for` and its body and then r
  record FoundForHead (i : Words) (h : HeadOfFor) (r : Words) : Type 0 where
    init : IsForInit levels names h.init
    condition : IsOptional levels names h.condition
    step : IsOptional levels names h.step
    same : i ≡ punctuator p.LeftParenthesis h.left ∷ for_init_words h.init (optional_words h.condition
        (punctuator p.Semicolon h.semicolon ∷ optional_words h.step (punctuator p.RightParenthesis h.right ∷ r)))

  for_head_gives : (i : Words) → Gives (for_head_from levels names i) (FoundForHead i)
  unfolding for_head_from
  for_head_gives i = gives_bind (expect_gives p.LeftParenthesis i) λ l i opened.
      gives_bind (for_init_gives i) λ f i initial.
      gives_bind (ended_gives p.Semicolon i) λ c i condition. gives_bind (ended_gives p.RightParenthesis i) λ e i step.
      gives_ok (record { left = l; init = f; condition = c.0; semicolon = c.1; step = e.0; right = e.1 }) i (record {
        init = initial.formed;
        condition = condition.formed;
        step = step.formed;
        same = rw (opened, initial.same, condition.same, step.same) refl;
      })

  -- `case` and the words i are those of the label of a `case` and then r
  record FoundLabel (at : Position) (i : Words) (h : LabelOfCase) (r : Words) : Type 0 where
    formed : IsWhole levels names h.value
    binding : 3 ≤ precedence h.value
    same : keyword k.Case at ∷ i ≡ keyword k.Case h.position ∷ expression_words h.value (punctuator p.Colon h.colon ∷ r)

  label_gives : (at : Position) (i : Words) → Gives (case_label_from levels names at i) (FoundLabel at i)
  unfolding case_label_from
  label_gives at i = gives_bind (expression_gives 3 i (omega arith)) λ e i f.
      gives_bind (expect_gives p.Colon i) λ colon i g.
      gives_ok (record { position = at; value = e; colon = colon }) i
      (record { formed = f.formed; binding = f.binding; same = rw (f.same, g) refl })

  -- ---- what is found

  -- The words i are those of a statement and then r. Where an `else` could follow it, none does.
  pub record FoundStatement (n : ℕ) (i : Words) (x : Statement) (r : Words) : Type 0 where
    pub formed : IsStatement levels names x
    pub low : statement_levels x < n
    pub settled : ends_open x ≡ true → next_is is_else r ≡ false
    pub same : i ≡ statement_words x r

  -- the words i are those of a block and then r
  pub record FoundBlock (n : ℕ) (i : Words) (b : Block) (r : Words) : Type 0 where
    pub formed : IsBlock levels names b
    pub low : block_levels b < n
    pub same : i ≡ block_words b r

  -- what is read is well formed and has fewer levels than n
  pub record SoundStatements (n : ℕ) (deeper : StatementReaders) : Type 0 where
    pub statement : (i : Words) → Gives (deeper.statement i) (FoundStatement n i)
    pub block : (i : Words) → Gives (deeper.block i) (FoundBlock n i)

  -- a statement that no `else` could follow does not end open
  closed : {C : Type 0} → false ≡ true → C
  closed h = absurd (false≢true h)

  expression_statement_gives : (n : ℕ) (i : Words) → 0 < n → Gives (expression_statement_from levels names i)
      (FoundStatement n i)
  unfolding expression_statement_from
  expression_statement_gives n i some = gives_bind (ended_gives p.Semicolon i) λ z r f.
      gives_ok (s.expression z.0 z.1) r (record { formed = f.formed; low = some; settled = closed; same = f.same })

  return_gives : (n : ℕ) (at : Position) (i : Words) → 0 < n → Gives (return_from levels names at i)
      (FoundStatement n (keyword k.Return at ∷ i))
  unfolding return_from
  return_gives n at i some = gives_bind (ended_gives p.Semicolon i) λ z r f.
      gives_ok (s.return at z.0 z.1) r (record {
        formed = f.formed;
        low = some;
        settled = closed;
        same = ap (λ i. keyword k.Return at ∷ i) f.same;
      })

  module _ (depth : ℕ) (deeper : StatementReaders) (known : SoundStatements depth deeper) where
    -- ---- statements with others inside

    -- the words i are those of `else` and a statement and then r
    record FoundOtherwise (i : Words) (y : Position × Statement) (r : Words) : Type 0 where
      formed : IsStatement levels names y.1
      low : statement_levels y.1 < depth
      settled : ends_open y.1 ≡ true → next_is is_else r ≡ false
      same : i ≡ keyword k.Else y.0 ∷ statement_words y.1 r

    otherwise_gives : (i : Words) → Gives (otherwise_from levels names deeper i) (FoundOtherwise i)
    unfolding otherwise_from
    otherwise_gives i = gives_bind (keyword_gives k.Else is_else only_else i) λ q i next.
        gives_bind (known.statement i) λ y i other.
        gives_ok (q, y) i (record {
          formed = other.formed;
          low = other.low;
          settled = other.settled;
          same = rw (next, other.same) refl;
        })

    if_gives : (at : Position) (i : Words) → Gives (if_from levels names deeper at i)
        (FoundStatement (suc depth) (keyword k.If at ∷ i))
    unfolding if_from
    if_gives at i = gives_bind (parenthesized_gives i) λ h i f. gives_bind (known.statement i) λ x j inner. gives_if
        (λ c. gives_bind (otherwise_gives j) λ y i other.
        gives_ok (s.if_else at h.left h.inner h.right x y.0 y.1) i (record {
          formed = (not_open x j inner.settled c, f.formed, inner.formed, other.formed);
          low = omega (arith, inner.low, other.low);
          settled = other.settled;
          same = rw (f.same, inner.same, other.same) refl;
        }))
        (λ c. gives_ok (s.if_then at h.left h.inner h.right x) j (record {
          formed = (f.formed, inner.formed);
          low = omega (arith, inner.low);
          settled = λ _. c;
          same = rw (f.same, inner.same) refl;
        }))

    switch_gives : (at : Position) (i : Words) → Gives (switch_from levels names deeper at i)
        (FoundStatement (suc depth) (keyword k.Switch at ∷ i))
    unfolding switch_from
    switch_gives at i = gives_bind (parenthesized_gives i) λ h i f. gives_bind (known.block i) λ b j inner.
        gives_ok (s.switch at h.left h.inner h.right b) j (record {
          formed = (f.formed, inner.formed);
          low = omega (arith, inner.low);
          settled = closed;
          same = rw (f.same, inner.same) refl;
        })

    while_gives : (at : Position) (i : Words) → Gives (while_from levels names deeper at i)
        (FoundStatement (suc depth) (keyword k.While at ∷ i))
    unfolding while_from
    while_gives at i = gives_bind (parenthesized_gives i) λ h i f. gives_bind (known.statement i) λ x j inner.
        gives_ok (s.while_do at h.left h.inner h.right x) j (record {
          formed = (f.formed, inner.formed);
          low = omega (arith, inner.low);
          settled = inner.settled;
          same = rw (f.same, inner.same) refl;
        })

    do_gives : (at : Position) (i : Words) → Gives (do_from levels names deeper at i)
        (FoundStatement (suc depth) (keyword k.Do at ∷ i))
    unfolding do_from
    do_gives at i = gives_bind (known.statement i) λ x i inner. gives_bind (do_end_gives i) λ z j f.
        gives_ok (s.do_while at x z.again z.condition.left z.condition.inner z.condition.right z.semicolon) j (record {
          formed = (inner.formed, f.formed);
          low = omega (arith, inner.low);
          settled = closed;
          same = rw (inner.same, f.same) refl;
        })

    for_gives : (at : Position) (i : Words) → Gives (for_from levels names deeper at i)
        (FoundStatement (suc depth) (keyword k.For at ∷ i))
    unfolding for_from
    for_gives at i = gives_bind (for_head_gives i) λ h i f. gives_bind (known.statement i) λ x j inner.
        gives_ok (s.for at h.left h.init h.condition h.semicolon h.step h.right x) j (record {
          formed = (f.init, f.condition, f.step, inner.formed);
          low = omega (arith, inner.low);
          settled = inner.settled;
          same = rw (f.same, inner.same) refl;
        })

    case_gives : (at : Position) (i : Words) → Gives (case_from levels names deeper at i)
        (FoundStatement (suc depth) (keyword k.Case at ∷ i))
    unfolding case_from
    case_gives at i = gives_bind (label_gives at i) λ h i f. gives_bind (known.statement i) λ x j inner.
        gives_ok (s.case h.position h.value h.colon x) j (record {
          formed = (f.binding, f.formed, inner.formed);
          low = omega (arith, inner.low);
          settled = inner.settled;
          same = f.same ∙ ap (λ i. keyword k.Case h.position ∷ expression_words h.value
              (punctuator p.Colon h.colon ∷ i)) inner.same;
        })

    default_gives : (at : Position) (i : Words) → Gives (default_from levels names deeper at i)
        (FoundStatement (suc depth) (keyword k.Default at ∷ i))
    unfolding default_from
    default_gives at i = gives_bind (expect_gives p.Colon i) λ colon i f. gives_bind (known.statement i) λ x j inner.
        gives_ok (s.default at colon x) j (record {
          formed = inner.formed;
          low = omega (arith, inner.low);
          settled =
              inner.settled;
          same = rw (f, inner.same) refl;
        })

    -- ---- blocks

    -- the words i are those of a declaration or statement of a block and then r
    record FoundBlockItem (i : Words) (x : BlockItem) (r : Words) : Type 0 where
      formed : IsBlockItem levels names x
      low : block_item_levels x < suc depth
      same : i ≡ block_item_words x r

    block_item_gives : (i : Words) → Gives (block_item_from levels names deeper i) (FoundBlockItem i)
    unfolding block_item_from
    block_item_gives i = gives_if
        (λ _. gives_bind (local_gives levels names i) λ d r f. gives_ok (s.local d) r
        (record { formed = f.formed; low = omega arith; same = f.same }))
        (λ _. gives_bind (known.statement i) λ x r f. gives_ok (s.inner x) r
        (record { formed = f.formed; low = omega (arith, f.low); same = f.same }))

    items_found : (i : Words) (z : List BlockItem) (r : Words) → FoundEach FoundBlockItem i z r
        → AreItems levels names (items_of z) × (items_levels (items_of z) < suc depth)
        × (i ≡ items_words (items_of z) r)
    items_found i [] r f = (tt, omega arith, f)
    items_found i (x ∷ z) r f =
        let m = items_found f.0 z r f.2 in
        ((f.1.formed, m.0), omega (arith, f.1.low, m.1), f.1.same ∙ ap (λ i. block_item_words x i) m.2)

    block_gives : (i : Words) → Gives (block_at levels names deeper i) (FoundBlock (suc depth) i)
    unfolding block_at
    block_gives i = gives_bind (expect_gives p.LeftBrace i) λ l j f.
        gives_bind (up_to_brace_gives FoundBlockItem (block_item_from levels names deeper) block_item_gives (length j)
        j) λ z m g.
        let found = items_found j z m g in
        gives_bind (expect_gives p.RightBrace m) λ r i last.
        gives_ok (s.block l (items_of z) r) i (record {
          formed = found.0;
          low = found.1;
          same =
              rw (f, found.2, last) refl;
        })

    -- ---- statements

    outer_gives : (x : Keyword) (at : Position) (i : Words) → Gives (outer_by levels names deeper x at i)
        (FoundStatement (suc depth) (keyword x at ∷ i))
    unfolding outer_by
    outer_gives k.If at i = if_gives at i
    outer_gives k.Switch at i = switch_gives at i
    outer_gives k.While at i = while_gives at i
    outer_gives k.Do at i = do_gives at i
    outer_gives k.For at i = for_gives at i
    outer_gives k.Case at i = case_gives at i
    outer_gives k.Default at i = default_gives at i
    outer_gives x at i = gives_err (keyword x at ∷ i)

    plain_gives : (x : Keyword) (at : Position) (i : Words) → Gives (plain_by levels names x at i)
        (FoundStatement (suc depth) (keyword x at ∷ i))
    unfolding plain_by
    plain_gives k.Break at i = gives_bind (expect_gives p.Semicolon i) λ semi r f.
        gives_ok (s.break at semi) r (record {
          formed = tt;
          low = omega arith;
          settled = closed;
          same =
              ap (λ i. keyword k.Break at ∷ i) f;
        })
    plain_gives k.Continue at i = gives_bind (expect_gives p.Semicolon i) λ semi r f.
        gives_ok (s.continue at semi) r (record {
          formed = tt;
          low = omega arith;
          settled = closed;
          same =
              ap (λ i. keyword k.Continue at ∷ i) f;
        })
    plain_gives k.Return at i = return_gives (suc depth) at i (omega arith)
    plain_gives x at i = expression_statement_gives (suc depth) (keyword x at ∷ i) (omega arith)

    by_keyword_gives : (x : Keyword) (at : Position) (i : Words)
        → Gives (keyword_by levels names deeper depth x at i) (FoundStatement (suc depth) (keyword x at ∷ i))
    unfolding keyword_by
    by_keyword_gives x at i = gives_if {b = holds_statement x}
        (λ _. gives_if {b = nat_le 1 depth} (λ _. outer_gives x at i) (λ _. gives_err (keyword x at ∷ i)))
        (λ _. plain_gives x at i)

    by_punctuator_gives : (x : Punctuator) (at : Position) (i : Words)
        → Gives (punctuator_by levels names deeper x at i) (FoundStatement (suc depth) (punctuator x at ∷ i))
    unfolding punctuator_by
    by_punctuator_gives x at i = gives_if {b = is_same p.LeftBrace x}
        (λ _. gives_bind (block_gives (punctuator x at ∷ i)) λ b r f.
        gives_ok (s.compound b) r (record { formed = f.formed; low = f.low; settled = closed; same = f.same }))
        (λ _. expression_statement_gives (suc depth) (punctuator x at ∷ i) (omega arith))

    statement_by_gives : (w : TokenKind) (at : Position) (i : Words)
        → Gives (statement_by levels names deeper depth w at i) (FoundStatement (suc depth) (word_at w at ∷ i))
    unfolding statement_by
    statement_by_gives (kinds.Keyword x) at i = by_keyword_gives x at i
    statement_by_gives (kinds.Punctuator x) at i = by_punctuator_gives x at i
    statement_by_gives w at i = expression_statement_gives (suc depth) (word_at w at ∷ i) (omega arith)

    statement_gives : (i : Words) → Gives (statement_at levels names deeper depth i) (FoundStatement (suc depth) i)
    unfolding statement_at
    statement_gives [] = gives_err []
    statement_gives (first ∷ i) = statement_by_gives first.kind first.position i

    step_sound : SoundStatements (suc depth) (statement_step levels names deeper depth)
    step_sound = record { statement = λ i. statement_gives i; block = λ i. block_gives i }

  pub sound_statements : (n : ℕ) → SoundStatements n (statements levels names n)
  unfolding statements
  sound_statements zero = record { statement = λ i. gives_err i; block = λ i. gives_err i }
  sound_statements (suc depth) = step_sound depth (statements levels names depth) (sound_statements depth)
