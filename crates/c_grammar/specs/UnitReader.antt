-- Reading files (C99 6.9).
use Rattle.std.specs.Prelude.{ℕ, zero, suc, true, if◌then◌else◌, List, [], ◌∷◌, Ok, Err, length}
use Rattle.c_lexer.specs.declared.punctuator.Punctuator.TheVariants as p
use Rattle.c_syntax.specs.Tree.{Specifiers, Declarator}
use Rattle.c_syntax.specs.Statements.{External, Unit}
use Rattle.c_syntax.specs.Statements as s
use Rattle.c_syntax.specs.Words.{Words}
use Rattle.c_syntax.specs.Formed.{has_typedef, names_after, names_after_external, defines_function, SIZE_T}
use Rattle.c_grammar.specs.Reader.{Outcome, ◌>>=◌, next_is_punctuator}
use Rattle.c_grammar.specs.Nested.{readers}
use Rattle.c_grammar.specs.DeclarationReader.{bare_declaration_from, declaration_behind}
use Rattle.c_grammar.specs.StatementReader.{statements}
use Rattle.c_grammar.specs.declared.declarator_kind.DeclaratorKind.TheVariants as kind

-- how many levels there may be
module _ (levels : ℕ) where
  -- the block of a function (C99 6.9.1)
  unfoldable pub definition_from : List (List ℕ) → Specifiers → Declarator → Words → Outcome External
  definition_from names z d i =
      if defines_function d
      then ((statements levels (names_after (has_typedef z) d names) (suc levels)).block i
      >>= λ b i. Ok (s.definition z d b, i))
      else Err i

  -- what stands behind specifiers and a declarator
  unfoldable pub external_behind : List (List ℕ) → Specifiers → Declarator → Words → Outcome External
  external_behind names z d i =
      if next_is_punctuator p.LeftBrace i
      then definition_from names z d i
      else (declaration_behind levels names z d i >>= λ x i. Ok (s.declaration x, i))

  -- a function definition or declaration (C99 6.9)
  unfoldable pub external_from : List (List ℕ) → Words → Outcome External
  external_from names i =
      (readers names (suc levels)).specifiers true i >>= λ z i.
      (if next_is_punctuator p.Semicolon i
      then (bare_declaration_from levels z i >>= λ x i. Ok (s.declaration x, i))
      else ((readers names (suc levels)).declarator kind.Named i >>= λ d i. external_behind names z d i))

  -- function definitions and declarations to the end; the number bounds how many
  unfoldable pub externals_from : ℕ → List (List ℕ) → Words → Outcome (List External)
  externals_from n names [] = Ok ([], [])
  externals_from zero names (first ∷ i) = Err (first ∷ i)
  externals_from (suc n) names (first ∷ i) =
      external_from names (first ∷ i) >>= λ x i. externals_from n (names_after_external x names) i
      >>= λ z i. Ok (x ∷ z, i)

-- at least one (C99 6.9)
abbrev pub externals_at : Words → Outcome (List External)
externals_at [] = Err []
externals_at (first ∷ i) = externals_from 200 (length (first ∷ i)) (SIZE_T ∷ []) (first ∷ i)

-- a file, with at most 200 levels in each of its parts
unfoldable pub unit_from : Words → Outcome Unit
unit_from i = externals_at i >>= λ z i. Ok (record { externals = z }, i)
