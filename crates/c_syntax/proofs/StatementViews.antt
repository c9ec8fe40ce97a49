-- The views of initializers in lists, lists in braces and blocks, by their parts.
use Rattle.std.proofs.Common.{rules, arith, ◌≡◌, ◌≤◌, false, List, [], ◌∷◌, length, Option}
use mathlib.Core.Path.{refl}
use Rattle.c_syntax.specs.declared.position.Position.{Position}
use Rattle.c_syntax.specs.declared.declaration.Designator as rg
use Rattle.c_syntax.specs.declared.declaration.Initializer.TheViews as views
use Rattle.c_syntax.specs.declared.declaration.Initializer as ri
use Rattle.c_syntax.specs.declared.declaration.InitializerItem as rj
use Rattle.c_syntax.specs.declared.statement.Block as rb
use Rattle.c_syntax.specs.declared.statement.BlockItem as rk
use Rattle.c_syntax.specs.Tree as t
use Rattle.c_syntax.specs.Statements as s
use Rattle.c_syntax.specs.Formed.{is_empty}
use Rattle.c_syntax.specs.StatementsView.{initializer_of, item_of, more_items_in, designation_of, designators_in}
use Rattle.c_syntax.specs.StatementsView.{block_of, items_in}

pub braced_view : (l : Position) (x : rj.InitializerItem) (z : List (Position × rj.InitializerItem))
    (c : Option Position) (r : Position) →
    initializer_of (views.Braced l x z c r) ≡ t.braced l (item_of x) (more_items_in z) c r
braced_view l x z c r = first_of (search (rules, ri.the_lemmas), grind (arith, ri.the_lemmas))

pub item_view : (x : rj.InitializerItem) → item_of x ≡ t.item (designation_of x.designation)
    (initializer_of x.initializer)
item_view x = first_of (search (rules, ri.the_lemmas), grind (arith, ri.the_lemmas))

pub some_designators : (z : List rg.Designator) → 1 ≤ length z → is_empty (designators_in z) ≡ false
some_designators [] e = first_of (search rules, grind arith)
some_designators (x ∷ z) e = refl

pub block_view : (b : rb.Block) → block_of b ≡ s.block b.left (items_in b.items) b.right
block_view b = first_of (search (rules, rk.the_lemmas), grind (arith, rk.the_lemmas))
