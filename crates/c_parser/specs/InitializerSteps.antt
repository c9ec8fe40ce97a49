-- Function values and lists as the code has them, for the contracts of functions that read initializers.
use Rattle.std.specs.Prelude.{ℕ, List, map, Result, Option}
use Rattle.std.specs.Fn.{Once}
use Rattle.std.specs.declared.alloc.Global.{Global}
use denote.Ref.{MutBor, Bor}
use Rattle.c_syntax.specs.declared.position.Position.{Position}
use Rattle.c_syntax.specs.declared.declaration.Initializer.{Initializer}
use Rattle.c_syntax.specs.declared.declaration.InitializerItem as rj
use Rattle.c_syntax.specs.Tree as t
use Rattle.c_syntax.specs.View.{behind_comma}
use Rattle.c_syntax.specs.StatementsView.{initializer_of, item_of}
use Rattle.c_grammar.specs.InitializerReader.{initializers}
use Rattle.c_grammar.specs.Reads.{Reads}
use Rattle.c_grammar.specs.declared.cursor.Cursor.{Cursor}
use Rattle.c_grammar.specs.declared.cursor.Fault.{Fault}
use Rattle.c_parser.specs.declared.initializer.Initializers.{Initializers}

-- the function value of these rules reads initializers with fewer levels than the rules' number
pub record DeeperInitializers {I : Type 0} (rules : Initializers I)
    (for_initializers : Once I (Global × (Bor (List (List ℕ)) × (MutBor Cursor × (ℕ × Unit {0}))))
    (Result Initializer Fault × (MutBor Cursor × Unit {0}))) : Type 0 where
  pub callable : (alloc : Global) (names : Bor (List (List ℕ))) (old : MutBor Cursor)
      → for_initializers.pre rules.initializer (alloc, (names, (old, (rules.levels, tt))))
  pub reads : (alloc : Global) (names : Bor (List (List ℕ))) (old new : MutBor Cursor) (r : Result Initializer Fault)
      → for_initializers.post rules.initializer (alloc, (names, (old, (rules.levels, tt)))) (r, (new, tt))
      → Reads initializer_of (initializers names.now rules.levels old.now.rest.now) r new.now.rest.now

-- items behind commas, and the last comma (C99 6.7.8)
abbrev pub items_to_brace : List (Position × rj.InitializerItem) × Option Position
    → List (Position × t.InitializerItem) × Option Position
items_to_brace x = (map (behind_comma item_of) x.0, x.1)
