-- The readers that expressions, declarators and specifiers have in common.
use Rattle.std.specs.Prelude.{ℕ, Bool, true, false, ◌||◌, if◌then◌else◌, List, Ok, Err, Option, is_some, length}
use Rattle.c_lexer.specs.declared.keyword.Keyword.{Keyword}
use Rattle.c_lexer.specs.declared.keyword.Keyword.TheVariants as k
use Rattle.c_lexer.specs.declared.punctuator.Punctuator.TheVariants as p
use Rattle.c_lexer.specs.declared.token.TokenKind.{TokenKind}
use Rattle.c_lexer.specs.declared.token.TokenKind.TheVariants as kinds
use Rattle.c_syntax.specs.declared.position.Position.{Position}
use Rattle.c_syntax.specs.Tree.{Expression, Specifiers, Declarator, TypedDeclarator, Parameters, MoreParameters}
use Rattle.c_syntax.specs.Tree as t
use Rattle.c_syntax.specs.View.{more_parameters_of}
use Rattle.c_syntax.specs.Words.{Words}
use Rattle.c_syntax.specs.Formed.{is_among, with_keyword, is_structure_keyword, no_type}
use Rattle.c_grammar.specs.Reader.{Outcome, ◌>>=◌, next_is, next_is_punctuator, behind_commas}
use Rattle.c_grammar.specs.declared.declarator_kind.DeclaratorKind.{DeclaratorKind}
use Rattle.c_grammar.specs.declared.declarator_kind.DeclaratorKind.TheVariants as kind

-- a declarator of this kind may have a name
abbrev pub may_have_name : DeclaratorKind → Bool
may_have_name kind.Abstract = false
may_have_name _ = true

-- a declarator of this kind has a name
abbrev pub must_have_name : DeclaratorKind → Bool
must_have_name kind.Named = true
must_have_name _ = false

-- the readers of what has fewer levels than a number
pub record Readers : Type 0 where
  -- an expression of at least this precedence; a position is that of the `(` before, which is its first word and was
  -- taken
  pub expression : Option Position → ℕ → Words → Outcome Expression
  -- specifiers, `typedef` among them or not
  pub specifiers : Bool → Words → Outcome Specifiers
  pub declarator : DeclaratorKind → Words → Outcome Declarator

-- nothing has fewer levels than 0
abbrev pub refusing : Readers
refusing = record { expression = λ opened m i. Err i; specifiers = λ allowed i. Err i; declarator = λ d i. Err i }

-- the keyword may begin specifiers (C99 6.7.1 to 6.7.4)
abbrev pub is_specifier_keyword : Keyword → Bool
is_specifier_keyword k.Enum = true
is_specifier_keyword x = is_structure_keyword x || is_some (with_keyword x no_type)

module _ (names : List (List ℕ)) where
  -- the word may begin specifiers (C99 6.7.1 to 6.7.4)
  abbrev pub is_specifier_word : TokenKind → Bool
  is_specifier_word (kinds.Keyword x) = is_specifier_keyword x
  is_specifier_word (kinds.Identifier s) = is_among s names
  is_specifier_word _ = false

  -- the next word may begin specifiers
  abbrev pub begins_specifiers : Words → Bool
  begins_specifiers i = next_is is_specifier_word i

-- the word `void` alone is the empty list
abbrev pub parameters_of : TypedDeclarator → MoreParameters → Parameters
parameters_of (t.typed (t.specifiers (t.keyword k.Void at) t.no_specifiers) t.unnamed) t.end_of_parameters =
    t.void_parameters at
parameters_of x m = t.parameters x m

module _ (deeper : Readers) where
  -- specifiers and a declarator: a type name (C99 6.7.6) or a parameter (6.7.5)
  unfoldable pub typed_from : DeclaratorKind → Words → Outcome TypedDeclarator
  typed_from d i = deeper.specifiers false i >>= λ z i. deeper.declarator d i >>= λ e i. Ok (t.typed z e, i)

  -- what stands between the parentheses of a function declarator (C99 6.7.5.3)
  unfoldable pub parameters_from : Words → Outcome Parameters
  parameters_from i =
      if next_is_punctuator p.RightParenthesis i
      then Ok (t.no_parameters, i)
      else (typed_from kind.Either i >>= λ x i. behind_commas (typed_from kind.Either) (length i) i
      >>= λ z i. Ok (parameters_of x (more_parameters_of z), i))
