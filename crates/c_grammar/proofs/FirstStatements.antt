-- With which words statements and block items begin.
use Rattle.std.proofs.Common.{◌≡◌, ℕ, Bool, true, false, List, ◌∷◌, Option, Some, None, refl}
use Rattle.c_lexer.specs.Spellings.{punctuator_spelling}
use Rattle.c_lexer.specs.declared.keyword.Keyword.{Keyword}
use Rattle.c_lexer.specs.declared.keyword.Keyword.TheVariants as k
use Rattle.c_lexer.specs.declared.punctuator.Punctuator.{Punctuator}
use Rattle.c_lexer.specs.declared.punctuator.Punctuator.TheVariants as p
use Rattle.c_lexer.specs.declared.token.TokenKind.{TokenKind}
use Rattle.c_lexer.specs.declared.token.TokenKind.TheVariants as kinds
use Rattle.c_syntax.specs.declared.position.Position.{Position}
use Rattle.c_syntax.specs.Tree.{Expression}
use Rattle.c_syntax.specs.Statements.{Statement, Block, BlockItems, BlockItem}
use Rattle.c_syntax.specs.Statements as s
use Rattle.c_syntax.specs.Words.{Words, punctuator, expression_words, optional_words, statement_words, items_words}
use Rattle.c_syntax.specs.Words.{block_item_words}
use Rattle.c_syntax.specs.Formed.{with_keyword, operand_precedence, IsOptional, IsStatement, AreItems, IsBlockItem}
use Rattle.c_grammar.specs.Reader.{is_same, is_punctuator, is_else, next_is, next_is_punctuator}
use Rattle.c_grammar.specs.Readers.{is_specifier_keyword, is_specifier_word, begins_specifiers}
use Rattle.c_grammar.proofs.FirstWords.{excluded, included, is_operand_punctuator, is_sizeof, is_expression_word}
use Rattle.c_grammar.proofs.FirstWords.{expression_first, expression_no_specifier, specifiers_no_punctuator}
use Rattle.c_grammar.proofs.CompleteDeclarations.{declaration_first}

-- a keyword may begin a statement
abbrev pub is_statement_keyword : Keyword → Bool
is_statement_keyword k.If = true
is_statement_keyword k.Switch = true
is_statement_keyword k.While = true
is_statement_keyword k.Do = true
is_statement_keyword k.For = true
is_statement_keyword k.Case = true
is_statement_keyword k.Default = true
is_statement_keyword k.Break = true
is_statement_keyword k.Continue = true
is_statement_keyword k.Return = true
is_statement_keyword x = is_sizeof x

-- a punctuator may begin a statement
abbrev pub is_statement_punctuator : Punctuator → Bool
is_statement_punctuator p.LeftBrace = true
is_statement_punctuator p.Semicolon = true
is_statement_punctuator x = is_operand_punctuator x

operand_begins : (x : Punctuator) → is_operand_punctuator x ≡ true → is_statement_punctuator x ≡ true
operand_begins p.LeftBrace h = refl
operand_begins p.Semicolon h = refl
operand_begins _ h = h

sizeof_begins : (x : Keyword) → is_sizeof x ≡ true → is_statement_keyword x ≡ true
sizeof_begins k.Sizeof h = refl
sizeof_begins _ h = cc

statement_keyword_no_specifier : (x : Keyword) → is_statement_keyword x ≡ true → is_specifier_keyword x ≡ false
unfolding with_keyword
statement_keyword_no_specifier k.If h = refl
statement_keyword_no_specifier k.Switch h = refl
statement_keyword_no_specifier k.While h = refl
statement_keyword_no_specifier k.Do h = refl
statement_keyword_no_specifier k.For h = refl
statement_keyword_no_specifier k.Case h = refl
statement_keyword_no_specifier k.Default h = refl
statement_keyword_no_specifier k.Break h = refl
statement_keyword_no_specifier k.Continue h = refl
statement_keyword_no_specifier k.Return h = refl
statement_keyword_no_specifier k.Sizeof h = refl
statement_keyword_no_specifier _ h = cc

right_brace_apart : (x : Punctuator) → is_statement_punctuator x ≡ true → is_same p.RightBrace x ≡ false
unfolding is_same punctuator_spelling operand_precedence
right_brace_apart p.RightBrace h = cc
right_brace_apart _ h = refl

module _ (names : List (List ℕ)) where
  -- the word may begin a statement
  abbrev pub is_statement_word : TokenKind → Bool
  is_statement_word (kinds.Keyword x) = is_statement_keyword x
  is_statement_word (kinds.Punctuator x) = is_statement_punctuator x
  is_statement_word w = is_expression_word names w

  expression_begins : (w : TokenKind) → is_expression_word names w ≡ true → is_statement_word w ≡ true
  expression_begins (kinds.Keyword x) h = sizeof_begins x h
  expression_begins (kinds.Punctuator x) h = operand_begins x h
  expression_begins _ h = h

  statement_no_specifier : (w : TokenKind) → is_statement_word w ≡ true → is_specifier_word names w ≡ false
  statement_no_specifier (kinds.Keyword x) h = statement_keyword_no_specifier x h
  statement_no_specifier (kinds.Identifier x) h = expression_no_specifier names (kinds.Identifier x) h
  statement_no_specifier _ h = refl

  no_else : (w : TokenKind) → is_statement_word w ≡ true → is_else w ≡ false
  no_else (kinds.Keyword k.Else) h = cc
  no_else _ h = refl

  no_right_brace : (w : TokenKind) → is_statement_word w ≡ true → is_punctuator p.RightBrace w ≡ false
  no_right_brace (kinds.Punctuator x) h = right_brace_apart x h
  no_right_brace _ h = refl

  specifier_no_else : (w : TokenKind) → is_specifier_word names w ≡ true → is_else w ≡ false
  unfolding with_keyword
  specifier_no_else (kinds.Keyword k.Else) h = cc
  specifier_no_else _ h = refl

  module _ (levels : ℕ) where
    optional_begins : (e : Option Expression) (at : Position) (i : Words) → IsOptional levels names e
        → next_is is_statement_word (optional_words e (punctuator p.Semicolon at ∷ i)) ≡ true
    optional_begins None at i h = refl
    optional_begins (Some e) at i h =
        let behind : Words = punctuator p.Semicolon at ∷ i in
        included (is_expression_word names) is_statement_word expression_begins (expression_words e behind)
        (expression_first names e behind h.1)

    statement_first : (x : Statement) (i : Words) → IsStatement levels names x
        → next_is is_statement_word (statement_words x i) ≡ true
    statement_first (s.compound (s.block l m r)) i h = refl
    statement_first (s.expression e at) i h = optional_begins e at i h
    statement_first (s.if_then at l e r x) i h = refl
    statement_first (s.if_else at l e r x q y) i h = refl
    statement_first (s.switch at l e r b) i h = refl
    statement_first (s.while_do at l e r x) i h = refl
    statement_first (s.do_while at x q l e r semi) i h = refl
    statement_first (s.for at l f c semi e r x) i h = refl
    statement_first (s.case at e colon x) i h = refl
    statement_first (s.default at colon x) i h = refl
    statement_first (s.break at semi) i h = refl
    statement_first (s.continue at semi) i h = refl
    statement_first (s.return at e semi) i h = refl

    pub statement_no_specifiers : (x : Statement) (i : Words) → IsStatement levels names x
        → begins_specifiers names (statement_words x i) ≡ false
    statement_no_specifiers x i h = excluded is_statement_word (is_specifier_word names) statement_no_specifier
        (statement_words x i) (statement_first x i h)

    -- ---- items of a block

    pub item_no_brace : (x : BlockItem) (i : Words) → IsBlockItem levels names x
        → next_is_punctuator p.RightBrace (block_item_words x i) ≡ false
    item_no_brace (s.local d) i h = specifiers_no_punctuator names p.RightBrace (block_item_words (s.local d) i)
        (declaration_first levels names d i h.1)
    item_no_brace (s.inner x) i h = excluded is_statement_word (is_punctuator p.RightBrace) no_right_brace
        (statement_words x i) (statement_first x i h)

    item_no_else : (x : BlockItem) (i : Words) → IsBlockItem levels names x
        → next_is is_else (block_item_words x i) ≡ false
    item_no_else (s.local d) i h = excluded (is_specifier_word names) is_else specifier_no_else
        (block_item_words (s.local d) i) (declaration_first levels names d i h.1)
    item_no_else (s.inner x) i h = excluded is_statement_word is_else no_else (statement_words x i)
        (statement_first x i h)

    -- no item of a block begins with `else`
    pub items_no_else : (m : BlockItems) (at : Position) (i : Words) → AreItems levels names m
        → next_is is_else (items_words m (punctuator p.RightBrace at ∷ i)) ≡ false
    items_no_else s.no_items at i h = refl
    items_no_else (s.items x m) at i h = item_no_else x (items_words m (punctuator p.RightBrace at ∷ i)) h.0
