-- What is known of readers: they read what is well formed, and what they read is well formed.
use Rattle.std.proofs.Common.{◌≡◌, ℕ, ◌<◌, ◌≤◌, Bool, true, false, List, [], ◌∷◌, Ok, Option, Some, None}
use Rattle.c_lexer.specs.declared.punctuator.Punctuator.{Punctuator}
use Rattle.c_lexer.specs.declared.punctuator.Punctuator.TheVariants as p
use Rattle.c_lexer.specs.declared.token.TokenKind.{TokenKind}
use Rattle.c_lexer.specs.declared.token.TokenKind.TheVariants as kinds
use Rattle.c_syntax.specs.declared.position.Position.{Position}
use Rattle.c_syntax.specs.Tree.{Expression, Specifiers, Declarator}
use Rattle.c_syntax.specs.Levels.{expression_levels, specifiers_levels, declarator_levels}
use Rattle.c_syntax.specs.Words.{Words, punctuator, expression_words, specifiers_words, declarator_words}
use Rattle.c_syntax.specs.Formed.{precedence, names_one_type, has_typedef, has_name, IsExpression, EachSpecifier}
use Rattle.c_syntax.specs.Formed.{IsDeclarator}
use Rattle.c_grammar.specs.Readers.{Readers, may_have_name, must_have_name, begins_specifiers}
use Rattle.c_grammar.specs.Reader.{next_is_punctuator}
use Rattle.c_grammar.specs.ExpressionReader.{binds}
use Rattle.c_grammar.specs.declared.declarator_kind.DeclaratorKind.{DeclaratorKind}

-- how tightly a word binds an expression before it; a string literal goes on with one that ends with a string literal
abbrev pub word_binds : TokenKind → ℕ
word_binds (kinds.StringLiteral s) = 18
word_binds w = binds w

-- the same of the next word
abbrev pub next_binds : Words → ℕ
next_binds [] = 0
next_binds (first ∷ i) = word_binds first.kind

-- what may stand behind a declarator
abbrev pub is_quiet_punctuator : Punctuator → Bool
is_quiet_punctuator p.RightParenthesis = true
is_quiet_punctuator p.Comma = true
is_quiet_punctuator p.Semicolon = true
is_quiet_punctuator p.Assign = true
is_quiet_punctuator p.LeftBrace = true
is_quiet_punctuator _ = false

abbrev pub is_quiet_word : TokenKind → Bool
is_quiet_word (kinds.Punctuator x) = is_quiet_punctuator x
is_quiet_word _ = false

-- the next word may stand behind a declarator
abbrev pub is_quiet : Words → Bool
is_quiet [] = false
is_quiet (first ∷ i) = is_quiet_word first.kind

-- the declarator has a name where it must, and none where it may not
abbrev pub NameFits : DeclaratorKind → Declarator → Type 0
NameFits d e = (may_have_name d ≡ false → has_name e ≡ false) × (must_have_name d ≡ true → has_name e ≡ true)

-- what is well formed and has fewer levels than n is read from its words
pub record CompleteReaders (names : List (List ℕ)) (n : ℕ) (deeper : Readers) : Type 0 where
  pub expressions : (m : ℕ) (e : Expression) (r : Words) → IsExpression names e → expression_levels e < n → m < 16
      → m ≤ precedence e → next_binds r < m
      → deeper.expression None m (expression_words e r) ≡ Ok (e, r)
  -- it makes no difference who takes the first `(`
  pub opened : (l : Position) (m : ℕ) (x : Words) (e : Expression) (r : Words) → begins_specifiers names x ≡ false
      → deeper.expression None m (punctuator p.LeftParenthesis l ∷ x) ≡ Ok (e, r)
      → deeper.expression (Some l) m x ≡ Ok (e, r)
  -- behind a tag `{` would begin a body
  pub specifiers : (allowed : Bool) (z : Specifiers) (r : Words) → names_one_type z ≡ true → EachSpecifier names z
      → (allowed ≡ false → has_typedef z ≡ false)
      → specifiers_levels z < n → begins_specifiers names r ≡ false → next_is_punctuator p.LeftBrace r ≡ false
      → deeper.specifiers allowed (specifiers_words z r) ≡ Ok (z, r)
  pub declarators : (d : DeclaratorKind) (e : Declarator) (r : Words) → IsDeclarator names e → declarator_levels e < n
      → NameFits d e → is_quiet r ≡ true
      → deeper.declarator d (declarator_words e r) ≡ Ok (e, r)

-- the words with the `(` that was taken
abbrev pub with_opened : Option Position → Words → Words
with_opened None i = i
with_opened (Some l) i = punctuator p.LeftParenthesis l ∷ i

-- the words i are those of a well-formed expression and then r
pub record FoundExpression (names : List (List ℕ)) (n m : ℕ) (i : Words) (e : Expression) (r : Words) : Type 0 where
  pub formed : IsExpression names e
  pub low : expression_levels e < n
  pub binding : m ≤ precedence e
  pub same : i ≡ expression_words e r

pub record FoundSpecifiers (names : List (List ℕ)) (n : ℕ) (allowed : Bool) (i : Words) (z : Specifiers) (r : Words) :
    Type 0 where
  pub one_type : names_one_type z ≡ true
  pub each : EachSpecifier names z
  pub no_typedef : allowed ≡ false → has_typedef z ≡ false
  pub low : specifiers_levels z < n
  pub same : i ≡ specifiers_words z r

pub record FoundDeclarator (names : List (List ℕ)) (n : ℕ) (d : DeclaratorKind) (i : Words) (e : Declarator)
    (r : Words) : Type 0 where
  pub formed : IsDeclarator names e
  pub fits : NameFits d e
  pub low : declarator_levels e < n
  pub same : i ≡ declarator_words e r

-- what is read is well formed and has fewer levels than n
pub record SoundReaders (names : List (List ℕ)) (n : ℕ) (deeper : Readers) : Type 0 where
  pub expressions : (opened : Option Position) (m : ℕ) (i : Words) (e : Expression) (r : Words) → m < 16
      → deeper.expression opened m i ≡ Ok (e, r)
      → FoundExpression names n m (with_opened opened i) e r
  pub specifiers : (allowed : Bool) (i : Words) (z : Specifiers) (r : Words) → deeper.specifiers allowed i ≡ Ok (z, r)
      → FoundSpecifiers names n allowed i z r
  pub declarators : (d : DeclaratorKind) (i : Words) (e : Declarator) (r : Words) → deeper.declarator d i ≡ Ok (e, r)
      → FoundDeclarator names n d i e r
