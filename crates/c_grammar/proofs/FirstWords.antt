-- With which words expressions, specifiers and declarators begin.
use Rattle.std.proofs.Common.{◌≡◌, ℕ, ◌≤◌, Bool, true, false, not, List, [], ◌∷◌, Option, Some, None, refl}
use Rattle.std.specs.Prelude.{nat_le}
use Rattle.std.proofs.lemmas.Bool.{le-leb}
use Rattle.c_lexer.specs.Spellings.{punctuator_spelling}
use Rattle.c_lexer.specs.declared.keyword.Keyword.{Keyword}
use Rattle.c_lexer.specs.declared.keyword.Keyword.TheVariants as k
use Rattle.c_lexer.specs.declared.punctuator.Punctuator.{Punctuator}
use Rattle.c_lexer.specs.declared.punctuator.Punctuator.TheVariants as p
use Rattle.c_lexer.specs.declared.token.TokenKind.{TokenKind}
use Rattle.c_lexer.specs.declared.token.TokenKind.TheVariants as kinds
use Rattle.c_syntax.specs.declared.specifiers.TypeWords.{TypeWords}
use Rattle.c_syntax.specs.Tree.{Expression, TypedDeclarator, Specifiers, Specifier, Declarator, Parameters, Members}
use Rattle.c_syntax.specs.Tree.{Member}
use Rattle.c_syntax.specs.Tree as t
use Rattle.c_syntax.specs.Words.{Words, expression_words, specifiers_words, specifier_words, declarator_words}
use Rattle.c_syntax.specs.Formed.{is_among, operand_precedence, no_type, with_keyword, with_specifier, with_structure}
use Rattle.c_syntax.specs.Formed.{names_type, names_one_type, has_name, is_unnamed, is_direct, IsExpression}
use Rattle.c_syntax.specs.Formed.{IsDeclarator, IsSpecifier, EachSpecifier}
use Rattle.c_grammar.specs.Reader.{is_same, is_punctuator, next_is, next_is_punctuator}
use Rattle.c_grammar.specs.Readers.{is_specifier_keyword, is_specifier_word, begins_specifiers}
use Rattle.c_grammar.proofs.Known.{is_quiet_punctuator, is_quiet_word, is_quiet}

-- where no word of one kind is of another, a next word of the one is none of the other
pub excluded : (a b : TokenKind → Bool) → ((w : TokenKind) → a w ≡ true → b w ≡ false) → (i : Words)
    → next_is a i ≡ true → next_is b i ≡ false
excluded a b apart [] h = refl
excluded a b apart (first ∷ i) h = apart first.kind h

-- the same where the words of the one are all of the other
pub included : (a b : TokenKind → Bool) → ((w : TokenKind) → a w ≡ true → b w ≡ true) → (i : Words) → next_is a i ≡ true
    → next_is b i ≡ true
included a b all [] h = h
included a b all (first ∷ i) h = all first.kind h

-- a punctuator may begin an expression
abbrev pub is_operand_punctuator : Punctuator → Bool
is_operand_punctuator p.LeftParenthesis = true
is_operand_punctuator x = nat_le 1 (operand_precedence x)

-- a punctuator may begin a declarator
abbrev pub is_declarator_punctuator : Punctuator → Bool
is_declarator_punctuator p.Star = true
is_declarator_punctuator p.LeftParenthesis = true
is_declarator_punctuator p.LeftBracket = true
is_declarator_punctuator _ = false

-- the keyword is `sizeof`
abbrev pub is_sizeof : Keyword → Bool
is_sizeof k.Sizeof = true
is_sizeof _ = false

-- the word is `const`
abbrev pub is_const : TokenKind → Bool
is_const (kinds.Keyword k.Const) = true
is_const _ = false

-- the word is a keyword other than `sizeof`
abbrev pub is_other_keyword : TokenKind → Bool
is_other_keyword (kinds.Keyword x) = not (is_sizeof x)
is_other_keyword _ = false

module _ (names : List (List ℕ)) where
  -- the word may begin an expression
  abbrev pub is_expression_word : TokenKind → Bool
  is_expression_word (kinds.Identifier s) = not (is_among s names)
  is_expression_word (kinds.Keyword x) = is_sizeof x
  is_expression_word (kinds.Integer s) = true
  is_expression_word (kinds.Character s) = true
  is_expression_word (kinds.StringLiteral s) = true
  is_expression_word (kinds.Wide s) = false
  is_expression_word (kinds.Punctuator x) = is_operand_punctuator x

  -- the word may begin a declarator, or what stands behind nothing in an abstract one
  abbrev pub is_declarator_word : TokenKind → Bool
  is_declarator_word (kinds.Identifier s) = not (is_among s names)
  is_declarator_word (kinds.Punctuator x) = is_declarator_punctuator x
  is_declarator_word _ = false

  operator_first : (w : Punctuator) → 1 ≤ operand_precedence w → is_operand_punctuator w ≡ true
  operator_first p.LeftParenthesis h = refl
  operator_first w h = le-leb 1 (operand_precedence w) h

  -- ---- expressions

  pub expression_first : (e : Expression) (i : Words) → IsExpression names e
      → next_is is_expression_word (expression_words e i) ≡ true
  expression_first (t.identifier x) i h = rw h refl
  expression_first (t.integer x) i h = refl
  expression_first (t.character x) i h = refl
  expression_first (t.strings x z) i h = refl
  expression_first (t.parenthesized l e r) i h = refl
  expression_first (t.subscript e l x r) i h = expression_first e _ h.1
  expression_first (t.call e l a r) i h = expression_first e _ h.1
  expression_first (t.member e w at x) i h = expression_first e _ h.2
  expression_first (t.postfix e w at) i h = expression_first e _ h.2
  expression_first (t.unary w at e) i h = operator_first w h.0
  expression_first (t.sizeof_expression at e) i h = refl
  expression_first (t.sizeof_type at l x r) i h = refl
  expression_first (t.cast l x r e) i h = refl
  expression_first (t.binary a w at b) i h = expression_first a _ h.3
  expression_first (t.conditional c q a colon b) i h = expression_first c _ h.2
  expression_first (t.assignment a w at b) i h = expression_first a _ h.3

  not_false : (b : Bool) → not b ≡ true → b ≡ false
  not_false true h = cc
  not_false false h = refl

  sizeof_no_specifier : (x : Keyword) → is_sizeof x ≡ true → is_specifier_keyword x ≡ false
  unfolding with_keyword
  sizeof_no_specifier k.Sizeof h = refl
  sizeof_no_specifier _ h = cc

  pub expression_no_specifier : (w : TokenKind) → is_expression_word w ≡ true → is_specifier_word names w ≡ false
  expression_no_specifier (kinds.Identifier s) h = not_false (is_among s names) h
  expression_no_specifier (kinds.Keyword x) h = sizeof_no_specifier x h
  expression_no_specifier _ h = refl

  pub expression_no_specifiers : (e : Expression) (i : Words) → IsExpression names e
      → begins_specifiers names (expression_words e i) ≡ false
  expression_no_specifiers e i h = excluded is_expression_word (is_specifier_word names) expression_no_specifier
      (expression_words e i) (expression_first e i h)

  no_other_keyword : (w : TokenKind) → is_expression_word w ≡ true → is_other_keyword w ≡ false
  no_other_keyword (kinds.Keyword x) h = rw h refl
  no_other_keyword _ h = refl

  -- `sizeof` is the only keyword that an expression begins with
  pub expression_no_keyword : (e : Expression) (i : Words) → IsExpression names e
      → next_is is_other_keyword (expression_words e i) ≡ false
  expression_no_keyword e i h = excluded is_expression_word is_other_keyword no_other_keyword (expression_words e i)
      (expression_first e i h)

  -- a punctuator that begins no expression is no first word of one
  begins_with : (a : Punctuator) → ((x : Punctuator) → is_operand_punctuator x ≡ true → is_same a x ≡ false)
      → (w : TokenKind) → is_expression_word w ≡ true → is_punctuator a w ≡ false
  begins_with a apart (kinds.Punctuator x) h = apart x h
  begins_with a apart _ h = refl

  first_apart : (a : Punctuator) → ((x : Punctuator) → is_operand_punctuator x ≡ true → is_same a x ≡ false)
      → (e : Expression) (i : Words) → IsExpression names e → next_is_punctuator a (expression_words e i) ≡ false
  first_apart a apart e i h = excluded is_expression_word (is_punctuator a) (begins_with a apart) (expression_words e i)
      (expression_first e i h)

  parenthesis_apart : (x : Punctuator) → is_operand_punctuator x ≡ true → is_same p.RightParenthesis x ≡ false
  unfolding is_same punctuator_spelling operand_precedence
  parenthesis_apart p.RightParenthesis h = cc
  parenthesis_apart _ h = refl

  bracket_apart : (x : Punctuator) → is_operand_punctuator x ≡ true → is_same p.RightBracket x ≡ false
  unfolding is_same punctuator_spelling operand_precedence
  bracket_apart p.RightBracket h = cc
  bracket_apart _ h = refl

  left_bracket_apart : (x : Punctuator) → is_operand_punctuator x ≡ true → is_same p.LeftBracket x ≡ false
  unfolding is_same punctuator_spelling operand_precedence
  left_bracket_apart p.LeftBracket h = cc
  left_bracket_apart _ h = refl

  brace_apart : (x : Punctuator) → is_operand_punctuator x ≡ true → is_same p.LeftBrace x ≡ false
  unfolding is_same punctuator_spelling operand_precedence
  brace_apart p.LeftBrace h = cc
  brace_apart _ h = refl

  right_brace_apart : (x : Punctuator) → is_operand_punctuator x ≡ true → is_same p.RightBrace x ≡ false
  unfolding is_same punctuator_spelling operand_precedence
  right_brace_apart p.RightBrace h = cc
  right_brace_apart _ h = refl

  semicolon_apart : (x : Punctuator) → is_operand_punctuator x ≡ true → is_same p.Semicolon x ≡ false
  unfolding is_same punctuator_spelling operand_precedence
  semicolon_apart p.Semicolon h = cc
  semicolon_apart _ h = refl

  dot_apart : (x : Punctuator) → is_operand_punctuator x ≡ true → is_same p.Dot x ≡ false
  unfolding is_same punctuator_spelling operand_precedence
  dot_apart p.Dot h = cc
  dot_apart _ h = refl

  pub expression_no_parenthesis : (e : Expression) (i : Words) → IsExpression names e
      → next_is_punctuator p.RightParenthesis (expression_words e i) ≡ false
  expression_no_parenthesis = first_apart p.RightParenthesis parenthesis_apart

  pub expression_no_bracket : (e : Expression) (i : Words) → IsExpression names e
      → next_is_punctuator p.RightBracket (expression_words e i) ≡ false
  expression_no_bracket = first_apart p.RightBracket bracket_apart

  pub expression_no_left_bracket : (e : Expression) (i : Words) → IsExpression names e
      → next_is_punctuator p.LeftBracket (expression_words e i) ≡ false
  expression_no_left_bracket = first_apart p.LeftBracket left_bracket_apart

  pub expression_no_brace : (e : Expression) (i : Words) → IsExpression names e
      → next_is_punctuator p.LeftBrace (expression_words e i) ≡ false
  expression_no_brace = first_apart p.LeftBrace brace_apart

  pub expression_no_right_brace : (e : Expression) (i : Words) → IsExpression names e
      → next_is_punctuator p.RightBrace (expression_words e i) ≡ false
  expression_no_right_brace = first_apart p.RightBrace right_brace_apart

  pub expression_no_semicolon : (e : Expression) (i : Words) → IsExpression names e
      → next_is_punctuator p.Semicolon (expression_words e i) ≡ false
  expression_no_semicolon = first_apart p.Semicolon semicolon_apart

  pub expression_no_dot : (e : Expression) (i : Words) → IsExpression names e
      → next_is_punctuator p.Dot (expression_words e i) ≡ false
  expression_no_dot = first_apart p.Dot dot_apart

  -- ---- specifiers

  -- what may begin a type may begin specifiers
  keyword_first : (x : Keyword) (v : TypeWords) → with_keyword x no_type ≡ Some v → is_specifier_keyword x ≡ true
  keyword_first k.Enum v h = refl
  keyword_first k.Struct v h = refl
  keyword_first k.Union v h = refl
  keyword_first _ v h = rw h refl

  structure_first : (x : Keyword) (v : TypeWords) → with_structure x no_type ≡ Some v → is_specifier_keyword x ≡ true
  structure_first k.Struct v h = refl
  structure_first k.Union v h = refl
  structure_first _ v h = cc

  pub specifier_first : (x : Specifier) (i : Words) (v : TypeWords) → with_specifier x no_type ≡ Some v
      → IsSpecifier names x → begins_specifiers names (specifier_words x i) ≡ true
  unfolding with_specifier
  specifier_first (t.keyword x at) i v s h = keyword_first x v s
  specifier_first (t.typedef_name x) i v s h = h
  specifier_first (t.structure x at tag) i v s h = structure_first x v s
  specifier_first (t.structure_body x at tag l m r) i v s h = structure_first x v s
  specifier_first (t.enumeration at tag) i v s h = refl
  specifier_first (t.enumeration_body at tag l e m c r) i v s h = refl

  -- specifiers complete no words that are no type's
  pub no_type_ends : (z : Specifiers) → names_type None z ≡ false
  no_type_ends t.no_specifiers = refl
  no_type_ends (t.specifiers x z) = no_type_ends z

  -- each specifier leaves words of a type
  pub specifier_leaves : (w : Option TypeWords) (z : Specifiers) → names_type w z ≡ true
      → (v : TypeWords) × (w ≡ Some v)
  specifier_leaves None z h = let ends = no_type_ends z in absurd cc
  specifier_leaves (Some v) z h = (v, refl)

  pub specifiers_first : (z : Specifiers) (i : Words) → names_one_type z ≡ true → EachSpecifier names z
      → begins_specifiers names (specifiers_words z i) ≡ true
  specifiers_first t.no_specifiers i s h = cc
  specifiers_first (t.specifiers x z) i s h = let left = specifier_leaves (with_specifier x no_type) z s in
      specifier_first x (specifiers_words z i) left.0 left.1 h.0

  -- a word that may begin specifiers is no punctuator
  pub specifier_no_punctuator : (a : Punctuator) (w : TokenKind) → is_specifier_word names w ≡ true
      → is_punctuator a w ≡ false
  specifier_no_punctuator a (kinds.Punctuator x) h = cc
  specifier_no_punctuator a _ h = refl

  pub specifiers_no_punctuator : (a : Punctuator) (i : Words) → begins_specifiers names i ≡ true
      → next_is_punctuator a i ≡ false
  specifiers_no_punctuator a i h = excluded (is_specifier_word names) (is_punctuator a) (specifier_no_punctuator a) i h

  -- ---- declarators

  -- a declarator begins as a declarator, or as what follows it
  pub declarator_next : (is : TokenKind → Bool) (b : Bool) → ((w : TokenKind) → is_declarator_word w ≡ true → is w ≡ b)
      → (e : Declarator) (i : Words) → IsDeclarator names e → next_is is i ≡ b → next_is is (declarator_words e i) ≡ b
  declarator_next is b all (t.named x) i h s = all (kinds.Identifier x.spelling) (rw h refl)
  declarator_next is b all t.unnamed i h s = s
  declarator_next is b all (t.pointer at z e) i h s = all (kinds.Punctuator p.Star) refl
  declarator_next is b all (t.grouped l e r) i h s = all (kinds.Punctuator p.LeftParenthesis) refl
  declarator_next is b all (t.open_array e l r) i h s = declarator_next is b all e _ h.1
      (all (kinds.Punctuator p.LeftBracket) refl)
  declarator_next is b all (t.array e l x r) i h s = declarator_next is b all e _ h.2
      (all (kinds.Punctuator p.LeftBracket) refl)
  declarator_next is b all (t.function e l a r) i h s = declarator_next is b all e _ h.1
      (all (kinds.Punctuator p.LeftParenthesis) refl)

  pub declarator_first : (e : Declarator) (i : Words) → IsDeclarator names e → is_unnamed e ≡ false
      → next_is is_declarator_word (declarator_words e i) ≡ true
  declarator_first (t.named x) i h s = rw h refl
  declarator_first t.unnamed i h s = cc
  declarator_first (t.pointer at z e) i h s = refl
  declarator_first (t.grouped l e r) i h s = refl
  declarator_first (t.open_array e l r) i h s = declarator_next is_declarator_word true (λ w g. g) e _ h.1 refl
  declarator_first (t.array e l x r) i h s = declarator_next is_declarator_word true (λ w g. g) e _ h.2 refl
  declarator_first (t.function e l a r) i h s = declarator_next is_declarator_word true (λ w g. g) e _ h.1 refl

  pub named_not_unnamed : (e : Declarator) → has_name e ≡ true → is_unnamed e ≡ false
  named_not_unnamed t.unnamed s = cc
  named_not_unnamed _ s = refl

  pub declarator_no_specifier : (w : TokenKind) → is_declarator_word w ≡ true → is_specifier_word names w ≡ false
  declarator_no_specifier (kinds.Identifier s) h = not_false (is_among s names) h
  declarator_no_specifier (kinds.Punctuator x) h = refl
  declarator_no_specifier (kinds.Keyword x) h = cc
  declarator_no_specifier (kinds.Integer x) h = refl
  declarator_no_specifier (kinds.Character x) h = refl
  declarator_no_specifier (kinds.StringLiteral x) h = refl
  declarator_no_specifier (kinds.Wide x) h = refl

  pub declarator_no_const : (w : TokenKind) → is_declarator_word w ≡ true → is_const w ≡ false
  declarator_no_const (kinds.Keyword x) h = cc
  declarator_no_const _ h = refl

  -- a punctuator that begins no declarator is no first word of one
  pub declarator_begins_with : (a : Punctuator) → ((x : Punctuator) → is_declarator_punctuator x ≡ true
      → is_same a x ≡ false) → (w : TokenKind) → is_declarator_word w ≡ true → is_punctuator a w ≡ false
  declarator_begins_with a apart (kinds.Punctuator x) h = apart x h
  declarator_begins_with a apart _ h = refl

  pub declarator_parenthesis_apart : (x : Punctuator) → is_declarator_punctuator x ≡ true
      → is_same p.RightParenthesis x ≡ false
  unfolding is_same punctuator_spelling
  declarator_parenthesis_apart p.RightParenthesis h = cc
  declarator_parenthesis_apart _ h = refl

  pub declarator_brace_apart : (x : Punctuator) → is_declarator_punctuator x ≡ true → is_same p.LeftBrace x ≡ false
  unfolding is_same punctuator_spelling
  declarator_brace_apart p.LeftBrace h = cc
  declarator_brace_apart _ h = refl

  pub declarator_semicolon_apart : (x : Punctuator) → is_declarator_punctuator x ≡ true → is_same p.Semicolon x ≡ false
  unfolding is_same punctuator_spelling
  declarator_semicolon_apart p.Semicolon h = cc
  declarator_semicolon_apart _ h = refl

  -- a named declarator begins no specifiers
  pub named_no_specifiers : (e : Declarator) (i : Words) → IsDeclarator names e → has_name e ≡ true
      → begins_specifiers names (declarator_words e i) ≡ false
  named_no_specifiers e i h s = excluded is_declarator_word (is_specifier_word names) declarator_no_specifier
      (declarator_words e i) (declarator_first e i h (named_not_unnamed e s))

  pub named_no_brace : (e : Declarator) (i : Words) → IsDeclarator names e → has_name e ≡ true
      → next_is_punctuator p.LeftBrace (declarator_words e i) ≡ false
  named_no_brace e i h s = excluded is_declarator_word (is_punctuator p.LeftBrace)
      (declarator_begins_with p.LeftBrace declarator_brace_apart) (declarator_words e i)
      (declarator_first e i h (named_not_unnamed e s))

  pub named_no_semicolon : (e : Declarator) (i : Words) → IsDeclarator names e → has_name e ≡ true
      → next_is_punctuator p.Semicolon (declarator_words e i) ≡ false
  named_no_semicolon e i h s = excluded is_declarator_word (is_punctuator p.Semicolon)
      (declarator_begins_with p.Semicolon declarator_semicolon_apart) (declarator_words e i)
      (declarator_first e i h (named_not_unnamed e s))

  -- what is directly a declarator begins with `*` only where what follows it does
  pub direct_no_star : (e : Declarator) (i : Words) → IsDeclarator names e → is_direct e ≡ true
      → next_is_punctuator p.Star i ≡ false → next_is_punctuator p.Star (declarator_words e i) ≡ false
  unfolding is_same punctuator_spelling
  direct_no_star (t.named x) i h o s = refl
  direct_no_star t.unnamed i h o s = s
  direct_no_star (t.pointer at z e) i h o s = cc
  direct_no_star (t.grouped l e r) i h o s = refl
  direct_no_star (t.open_array e l r) i h o s = direct_no_star e _ h.1 h.0 refl
  direct_no_star (t.array e l x r) i h o s = direct_no_star e _ h.2 h.0 refl
  direct_no_star (t.function e l a r) i h o s = direct_no_star e _ h.1 h.0 refl

  -- ---- what stands behind a declarator

  quiet_no_specifier : (w : TokenKind) → is_quiet_word w ≡ true → is_specifier_word names w ≡ false
  quiet_no_specifier (kinds.Punctuator x) h = refl
  quiet_no_specifier _ h = cc

  pub quiet_no_specifiers : (i : Words) → is_quiet i ≡ true → begins_specifiers names i ≡ false
  quiet_no_specifiers [] h = refl
  quiet_no_specifiers (first ∷ i) h = quiet_no_specifier first.kind h

  quiet_no_const_word : (w : TokenKind) → is_quiet_word w ≡ true → is_const w ≡ false
  quiet_no_const_word (kinds.Punctuator x) h = refl
  quiet_no_const_word _ h = cc

  pub quiet_no_const : (i : Words) → is_quiet i ≡ true → next_is is_const i ≡ false
  quiet_no_const [] h = refl
  quiet_no_const (first ∷ i) h = quiet_no_const_word first.kind h

  quiet_no_star_punctuator : (x : Punctuator) → is_quiet_punctuator x ≡ true → is_same p.Star x ≡ false
  unfolding is_same punctuator_spelling
  quiet_no_star_punctuator p.Star h = cc
  quiet_no_star_punctuator _ h = refl

  quiet_no_star_word : (w : TokenKind) → is_quiet_word w ≡ true → is_punctuator p.Star w ≡ false
  quiet_no_star_word (kinds.Punctuator x) h = quiet_no_star_punctuator x h
  quiet_no_star_word _ h = refl

  pub quiet_no_star : (i : Words) → is_quiet i ≡ true → next_is_punctuator p.Star i ≡ false
  quiet_no_star [] h = refl
  quiet_no_star (first ∷ i) h = quiet_no_star_word first.kind h
