-- Switches: where one goes on whose labels are all different from its value, and the code of its items and of its tests
-- apart (C99 6.8.4.2).
use Rattle.std.specs.Prelude.{◌≡◌, ℕ, Bool, true, not, ◌&&◌, ◌||◌, if◌then◌else◌, List, [], ◌∷◌}
use Rattle.c_tree.specs.Statements.{Statement, expression_statement, empty, declaration, block, if_then, if_else}
use Rattle.c_tree.specs.Statements.{while_do, do_while, for, switch, break, continue, return, Statements, no_statements}
use Rattle.c_tree.specs.Statements.{statements, SwitchItems, no_items, items}
use Rattle.c_lower.specs.Placed.{Placed}
use Rattle.c_lower.specs.Statements.{Exits, LowersStatement, LowersLabels, any_default, has_default}

-- at most one of its items has a default label
abbrev pub has_one_default : SwitchItems → Bool
has_one_default no_items = true
has_one_default (items labels s is) = (not (any_default labels) || not (has_default is)) && has_one_default is

-- and so has each switch in a statement
abbrev mutual
  pub are_decided : Statement → Bool
  are_decided (expression_statement e) = true
  are_decided empty = true
  are_decided (declaration ds) = true
  are_decided (block line body) = each_decided body
  are_decided (if_then e s) = are_decided s
  are_decided (if_else e s other) = are_decided s && are_decided other
  are_decided (while_do e s) = are_decided s
  are_decided (do_while s e) = are_decided s
  are_decided (for line first condition step s) = are_decided s
  are_decided (switch e line is) = has_one_default is && items_decided is
  are_decided break = true
  are_decided continue = true
  are_decided (return e) = true

  pub each_decided : Statements → Bool
  each_decided no_statements = true
  each_decided (statements s ss) = are_decided s && each_decided ss

  pub items_decided : SwitchItems → Bool
  items_decided no_items = true
  items_decided (items labels s is) = are_decided s && items_decided is

-- the node where the first item with a default label begins, else the end; `starts` are those of all items
abbrev pub default_start : SwitchItems → (starts : List ℕ) → (end : ℕ) → ℕ
default_start no_items starts end = end
default_start (items labels s is) [] end = end
default_start (items labels s is) (b ∷ bs) end = if any_default labels then b else default_start is bs end

-- the items, which begin at these nodes
abbrev pub LowersBodies : Placed → SwitchItems → (starts : List ℕ) → (n0 : ℕ) → Exits → Type 0
LowersBodies c no_items starts n0 x = n0 ≡ x.next
LowersBodies c (items labels s is) [] n0 x = ⊥
LowersBodies c (items labels s is) (b ∷ bs) n0 x =
    (b ≡ n0) × (n1 : ℕ) × LowersStatement c s n0 (record x { next = n1 }) × LowersBodies c is bs n1 x

-- and the tests of their labels
abbrev pub LowersTests : Placed → SwitchItems → (starts : List ℕ) → (other t0 : ℕ) → Type 0
LowersTests c no_items starts other t0 = t0 ≡ other
LowersTests c (items labels s is) [] other t0 = ⊥
LowersTests c (items labels s is) (b ∷ bs) other t0 =
    (t1 : ℕ) × LowersLabels c labels b other t0 t1 × LowersTests c is bs other t1

-- each item with a default label begins at a node
abbrev pub DefaultsBegin : SwitchItems → (starts : List ℕ) → (other : ℕ) → Type 0
DefaultsBegin no_items starts other = Unit {0}
DefaultsBegin (items labels s is) [] other = Unit {0}
DefaultsBegin (items labels s is) (b ∷ bs) other = (any_default labels ≡ true → b ≡ other) × DefaultsBegin is bs other
