-- The readers of expressions, specifiers and declarators, by the number of levels that there may be.
use Rattle.std.specs.Prelude.{ℕ, zero, suc, List}
use Rattle.c_grammar.specs.Readers.{Readers, refusing}
use Rattle.c_grammar.specs.ExpressionReader.{expression_at}
use Rattle.c_grammar.specs.SpecifierReader.{specifiers_at}
use Rattle.c_grammar.specs.DeclaratorReader.{declarator_at}

-- the readers of what has at most this number of levels, from those of what has fewer
abbrev pub step : List (List ℕ) → Readers → ℕ → Readers
step names deeper levels = record {
  expression = λ opened m i. expression_at names deeper levels opened m i;
  specifiers = λ allowed i. specifiers_at names deeper levels allowed i;
  declarator = λ d i. declarator_at names deeper levels d i;
}

-- the readers of what has fewer levels than a number
unfoldable pub readers : List (List ℕ) → ℕ → Readers
readers names zero = refusing
readers names (suc levels) = step names (readers names levels) levels
