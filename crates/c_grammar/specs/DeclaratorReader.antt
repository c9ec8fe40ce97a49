-- Reading declarators (C99 6.7.5, 6.7.6).
use Rattle.std.specs.Prelude.{ℕ, zero, suc, nat_le, nat_lt, Bool, not, ◌&&◌, ◌||◌, if◌then◌else◌, List, [], ◌∷◌, Ok}
use Rattle.std.specs.Prelude.{Err, None}
use Rattle.c_lexer.specs.declared.punctuator.Punctuator.TheVariants as p
use Rattle.c_lexer.specs.declared.token.TokenKind.{TokenKind}
use Rattle.c_lexer.specs.declared.token.TokenKind.TheVariants as kinds
use Rattle.c_syntax.specs.declared.position.Position.{Position}
use Rattle.c_syntax.specs.Tree.{Declarator}
use Rattle.c_syntax.specs.Tree as t
use Rattle.c_syntax.specs.Levels.{declarator_levels}
use Rattle.c_syntax.specs.Words.{Words, word_at}
use Rattle.c_syntax.specs.Formed.{is_among}
use Rattle.c_grammar.specs.Reader.{Outcome, ◌>>=◌, is_punctuator, next_is_punctuator, expect, consts_from}
use Rattle.c_grammar.specs.Readers.{Readers, may_have_name, must_have_name, begins_specifiers, parameters_from}
use Rattle.c_grammar.specs.declared.declarator_kind.DeclaratorKind.{DeclaratorKind}
use Rattle.c_grammar.specs.LeastPrecedence as least

-- no word of a declarator
abbrev pub unnamed_at : DeclaratorKind → Words → Outcome Declarator
unnamed_at d i = if must_have_name d then Err i else Ok (t.unnamed, i)

-- `(` or `[`
abbrev pub begins_suffix : TokenKind → Bool
begins_suffix w = is_punctuator p.LeftParenthesis w || is_punctuator p.LeftBracket w

module _ (names : List (List ℕ)) (deeper : Readers) (levels : ℕ) where
  -- behind the `(` of parameters (C99 6.7.5.3)
  abbrev pub function_from : Declarator → Position → Words → Outcome Declarator
  function_from e at i = parameters_from deeper i >>= λ a i. expect p.RightParenthesis i
      >>= λ r i. Ok (t.function e at a r, i)

  -- behind a first `(`: parameters of a function without a name, or a declarator in parentheses (C99 6.7.6)
  unfoldable pub parenthesis_from : DeclaratorKind → Position → Words → Outcome Declarator
  parenthesis_from d at i =
      if not (must_have_name d) && (next_is_punctuator p.RightParenthesis i || begins_specifiers names i)
      then function_from t.unnamed at i
      else (deeper.declarator d i >>= λ e i. expect p.RightParenthesis i >>= λ r i. Ok (t.grouped at e r, i))

  -- what is no pointer, by its first word
  abbrev pub direct_by : DeclaratorKind → TokenKind → Position → Words → Outcome Declarator
  direct_by d (kinds.Identifier s) at i =
      if may_have_name d && not (is_among s names)
      then Ok (t.named (record { spelling = s; position = at }), i)
      else unnamed_at d (word_at (kinds.Identifier s) at ∷ i)
  direct_by d w at i =
      if is_punctuator p.LeftParenthesis w && nat_le 1 levels
      then parenthesis_from d at i
      else unnamed_at d (word_at w at ∷ i)

  -- what is no pointer, without its suffixes
  unfoldable pub direct_from : DeclaratorKind → Words → Outcome Declarator
  direct_from d [] = unnamed_at d []
  direct_from d (first ∷ i) = direct_by d first.kind first.position i

  -- behind `[` (C99 6.7.5.2)
  unfoldable pub array_from : Declarator → Position → Words → Outcome Declarator
  array_from e at i =
      if next_is_punctuator p.RightBracket i
      then (expect p.RightBracket i >>= λ r i. Ok (t.open_array e at r, i))
      else (deeper.expression None least.conditional i >>= λ x i. expect p.RightBracket i
      >>= λ r i. Ok (t.array e at x r, i))

  -- a declarator and a suffix that begins with this word
  abbrev pub suffix_from : Declarator → TokenKind → Position → Words → Outcome Declarator
  suffix_from e w at i = if is_punctuator p.LeftBracket w then array_from e at i else function_from e at i

  -- a declarator and its suffixes; the number bounds how many
  unfoldable pub suffixes_from : ℕ → Declarator → Words → Outcome Declarator
  suffixes_from zero e i = Ok (e, i)
  suffixes_from (suc n) e [] = Ok (e, [])
  suffixes_from (suc n) e (first ∷ i) =
      if begins_suffix first.kind && nat_lt (declarator_levels e) levels
      then (suffix_from e first.kind first.position i >>= λ e i. suffixes_from n e i)
      else Ok (e, first ∷ i)

  -- what is no pointer
  unfoldable pub suffixed_from : DeclaratorKind → Words → Outcome Declarator
  suffixed_from d i = direct_from d i >>= λ e i. suffixes_from levels e i

  -- behind `*` (C99 6.7.5.1)
  unfoldable pub pointer_from : DeclaratorKind → Position → Words → Outcome Declarator
  pointer_from d at i = consts_from i >>= λ z i. deeper.declarator d i >>= λ e i. Ok (t.pointer at z e, i)

  -- a declarator with at most this number of levels
  unfoldable pub declarator_at : DeclaratorKind → Words → Outcome Declarator
  declarator_at d [] = suffixed_from d []
  declarator_at d (first ∷ i) = if is_punctuator p.Star first.kind && nat_le 1 levels then pointer_from d first.position
      i else suffixed_from d (first ∷ i)
