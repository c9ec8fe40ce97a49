-- Functions that read what has fewer levels than a number.
use Rattle.std.specs.Prelude.{ℕ, Bool, Result, List, Option}
use Rattle.std.specs.Fn.{Once}
use Rattle.std.specs.declared.alloc.Global.{Global}
use denote.Ref.{MutBor, Bor}
use Rattle.c_syntax.specs.declared.position.Position.{Position}
use Rattle.c_syntax.specs.declared.tree.Declarator.{Declarator}
use Rattle.c_syntax.specs.declared.tree.Expression.{Expression}
use Rattle.c_syntax.specs.declared.tree.Specifier.{Specifier}
use Rattle.c_syntax.specs.View.{declarator_of, expression_of, specifiers_in}
use Rattle.c_syntax.specs.Levels.{declarator_levels, expression_levels, specifiers_levels}
use Rattle.c_grammar.specs.declared.cursor.Cursor.{Cursor}
use Rattle.c_grammar.specs.declared.cursor.Fault.{Fault}
use Rattle.c_grammar.specs.declared.declarator_kind.DeclaratorKind.{DeclaratorKind}
use Rattle.c_grammar.specs.Nested.{readers}
use Rattle.c_expressions.specs.declared.deeper.Functions.{Functions}
use Rattle.c_expressions.specs.declared.leveled.Leveled.{Leveled}
use Rattle.c_expressions.specs.LeveledReads.{ReadsLeveled}

-- what a function value is given, with what it is asked for, and what it gives, with the cursor behind
abbrev pub Given : Type 0 → Type 0
Given A = Global × (Bor (List (List ℕ)) × (MutBor Cursor × (ℕ × A)))

abbrev pub Gives : Type 0 → Type 0
Gives A = Result (Leveled A) Fault × (MutBor Cursor × Unit {0})

-- the functions may be called with this number of levels, and read what has fewer
pub record Read {E S D : Type 0} (functions : Functions E S D) (levels : ℕ)
    (for_expressions : Once E (Given (Option Position × (ℕ × Unit {0}))) (Gives Expression))
    (for_specifiers : Once S (Given (Bool × Unit {0})) (Gives (List Specifier)))
    (for_declarators : Once D (Given (DeclaratorKind × Unit {0})) (Gives Declarator)) : Type 0 where
  pub reads_expression : (alloc : Global) (names : Bor (List (List ℕ))) (old : MutBor Cursor) (opened : Option Position)
      (m : ℕ) → for_expressions.pre functions.expression (alloc, (names, (old, (levels, (opened, (m, tt))))))
  pub expressions : (alloc : Global) (names : Bor (List (List ℕ))) (old new : MutBor Cursor) (opened : Option Position)
      (m : ℕ) (r : Result (Leveled Expression) Fault)
      → for_expressions.post functions.expression (alloc, (names, (old, (levels, (opened, (m, tt)))))) (r, (new, tt))
      → ReadsLeveled expression_of expression_levels levels
      ((readers names.now levels).expression opened m old.now.rest.now) r new.now.rest.now
  pub reads_specifiers : (alloc : Global) (names : Bor (List (List ℕ))) (old : MutBor Cursor) (allowed : Bool)
      → for_specifiers.pre functions.specifiers (alloc, (names, (old, (levels, (allowed, tt)))))
  pub specifiers : (alloc : Global) (names : Bor (List (List ℕ))) (old new : MutBor Cursor) (allowed : Bool)
      (r : Result (Leveled (List Specifier)) Fault)
      → for_specifiers.post functions.specifiers (alloc, (names, (old, (levels, (allowed, tt))))) (r, (new, tt))
      → ReadsLeveled specifiers_in specifiers_levels levels
      ((readers names.now levels).specifiers allowed old.now.rest.now) r new.now.rest.now
  pub reads_declarator : (alloc : Global) (names : Bor (List (List ℕ))) (old : MutBor Cursor) (d : DeclaratorKind)
      → for_declarators.pre functions.declarator (alloc, (names, (old, (levels, (d, tt)))))
  pub declarators : (alloc : Global) (names : Bor (List (List ℕ))) (old new : MutBor Cursor) (d : DeclaratorKind)
      (r : Result (Leveled Declarator) Fault)
      → for_declarators.post functions.declarator (alloc, (names, (old, (levels, (d, tt))))) (r, (new, tt))
      → ReadsLeveled declarator_of declarator_levels levels
      ((readers names.now levels).declarator d old.now.rest.now) r new.now.rest.now
