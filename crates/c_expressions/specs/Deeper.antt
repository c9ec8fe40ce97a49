-- The reader of what has fewer levels than the rules of the grammar.
use Rattle.std.specs.Prelude.{ℕ}
use Rattle.c_expressions.specs.declared.grammar.Grammar.{Grammar}
use Rattle.c_expressions.specs.LeveledReads.{IsSize}

-- it may be asked for what has fewer levels than the rules' number
pub record Deeper {R : Type 0} (reads : R → ℕ → Type 0) (rules : Grammar R) : Type 0 where
  pub fits : IsSize rules.levels
  pub may_read : reads rules.deeper rules.levels
