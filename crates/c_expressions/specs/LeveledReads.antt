-- What a function that reads with levels ensures: what the reader gives, and how many levels that has, or that memory
-- failed.
use Rattle.std.specs.Prelude.{◌≡◌, ℕ, ◌+◌, ◌<◌, Result, Ok, Err}
use Rattle.c_syntax.specs.declared.tree.Expression.{Expression}
use Rattle.c_syntax.specs.declared.tree.Declarator.{Declarator}
use Rattle.c_syntax.specs.Tree as t
use Rattle.c_syntax.specs.View.{expression_of, declarator_of}
use Rattle.c_syntax.specs.Levels.{expression_levels, declarator_levels}
use Rattle.c_syntax.specs.Words.{Words}
use Rattle.c_grammar.specs.declared.cursor.Fault.{Fault}
use Rattle.c_grammar.specs.declared.cursor.Fault.TheVariants.{Memory}
use Rattle.c_grammar.specs.Reader.{Outcome}
use Rattle.c_grammar.specs.Reads.{Fails}
use Rattle.c_expressions.specs.declared.leveled.Leveled.{Leveled}

-- the number of levels that is said is the real one, and below n
pub record Below (levels : ℕ) (said real : ℕ) : Type 0 where
  pub said_levels : said ≡ real
  pub low : said < levels

-- the same of a value with its levels, which are fewer than n
abbrev pub ReadsLeveled : {A B : Type 0} → (A → B) → (B → ℕ) → ℕ → Outcome B → Result (Leveled A) Fault → Words → Type 0
ReadsLeveled view levels n o (Ok a) new = (o ≡ Ok (view a.tree, new)) × Below n a.levels (levels (view a.tree))
ReadsLeveled view levels n o (Err e) new = Fails o e new

-- this tree, one level above this number of levels, or the answer that there is no memory for it
abbrev pub IsAbove : {A : Type 0} → A → ℕ → Result (Leveled A) Fault → Type 0
IsAbove t l (Ok a) = (a.tree ≡ t) × (l < 18446744073709551615 → a.levels ≡ l + 1)
IsAbove t l (Err e) = e ≡ Memory

-- this tree, without levels, or the answer that there is no memory for it
abbrev pub IsAlone : {A : Type 0} → A → Result (Leveled A) Fault → Type 0
IsAlone t (Ok a) = (a.tree ≡ t) × (a.levels ≡ 0)
IsAlone t (Err e) = e ≡ Memory

-- a number of levels that a `usize` can be
abbrev pub IsSize : ℕ → Type 0
IsSize n = n < 18446744073709551616

-- a reader of the code with its levels, for expressions and for declarators
abbrev pub ReadsExpression : ℕ → Outcome t.Expression → Result (Leveled Expression) Fault → Words → Type 0
ReadsExpression n o r i = ReadsLeveled expression_of expression_levels n o r i

abbrev pub ReadsDeclarator : ℕ → Outcome t.Declarator → Result (Leveled Declarator) Fault → Words → Type 0
ReadsDeclarator n o r i = ReadsLeveled declarator_of declarator_levels n o r i

-- the levels of an expression or declarator are the real ones, and below n
abbrev pub BelowExpression : ℕ → Leveled Expression → Type 0
BelowExpression n e = Below n e.levels (expression_levels (expression_of e.tree))

abbrev pub BelowDeclarator : ℕ → Leveled Declarator → Type 0
BelowDeclarator n d = Below n d.levels (declarator_levels (declarator_of d.tree))
