-- Initializers keep what each step of typing keeps (C99 6.7.8).
use Rattle.std.proofs.Common.{ℕ, Bool, true, false, List, [], ◌∷◌, Option, Some, None, if◌then◌else◌}
use Rattle.c_syntax.specs.Tree.{Designation, Designator, Expression, Initializer, InitializerItem, MoreItems}
use Rattle.c_syntax.specs.Tree as t
use Rattle.c_initializer_rules.specs.Initializing.{Initializing, closed, designation_begun, opened, with_index}
use Rattle.c_initializer_rules.specs.Initializing.{with_name, with_value}
use Rattle.c_scope.specs.Names.{Name}
use Rattle.c_operand_typing.specs.Primaries.{spelled_bytes}
use Rattle.c_typing_state.specs.State.{State, done, extents}
use Rattle.c_expression_typing.specs.Constructs.{literal_alone}
use Rattle.c_expression_typing.specs.Lines.{name_of}
use Rattle.c_expression_typing.specs.Typed.{typed}
use Rattle.c_unit_typing.specs.Initializers.{by_literal_or, by_value, designated, designated_by, designated_once}
use Rattle.c_unit_typing.specs.Initializers.{filled, index_in, initialized, member_lists, with_item, with_items}
use Rattle.c_unit_typing.specs.Lines.{expression_line}
use Rattle.typing_laws.proofs.Walks.States.{StateWalk, Walking, done_walks, judged_walks, then_walks}
use Rattle.typing_laws.proofs.Walks.Recursion.{typed_walks}
use Rattle.typing_laws.proofs.Walks.Steps.{valued_walks}

module _ {holds : ℕ → State → State → Type 0} (walk : StateWalk holds) where
  by_value_walks : (e : Expression) (i : Initializing) (s : State) → Walking walk 0 s (by_value e i s)
  by_value_walks e i s =
      then_walks (valued_walks (typed true e) s (typed_walks walk true e s)) (λ v.
      judged_walks v.0 (with_value (extents v.0) (member_lists v.0) (expression_line e) v.1 i))

  unless_by : (e : Expression) (i : Initializing) (b : Bool) (s : State)
      → Walking walk 0 s ((if b then done i else by_value e i) s)
  unless_by e i true s = done_walks
  unless_by e i false s = by_value_walks e i s

  literal_or_walks : (names : Option (List Name)) (e : Expression) (i : Initializing) (s : State)
      → Walking walk 0 s (by_literal_or names e i s)
  literal_or_walks None e i s = by_value_walks e i s
  literal_or_walks (Some names) e i s =
      then_walks (judged_walks s (filled (spelled_bytes names) (expression_line e) i s)) (λ r.
      unless_by e r.1.0 r.1.1 r.0)

  once_walks : (d : Designator) (i : Initializing) (s : State) → Walking walk 0 s (designated_once d i s)
  once_walks (t.element l e r) i s =
      then_walks (valued_walks (typed false e) s (typed_walks walk false e s)) (λ v.
      judged_walks v.0 (with_index (extents v.0) (member_lists v.0) l.line (index_in v.1) i))
  once_walks (t.member_named at x) i s = judged_walks s (with_name (extents s) (member_lists s) at.line (name_of x) i)

  designated_walks : (ds : List Designator) (i : Initializing) (s : State) → Walking walk 0 s (designated ds i s)
  designated_walks [] i s = done_walks
  designated_walks (d ∷ ds) i s = then_walks (once_walks d i s) (λ r. designated_walks ds r.1 r.0)

  designation_walks : (d : Option Designation) (i : Initializing) (s : State) → Walking walk 0 s (designated_by d i s)
  designation_walks None i s = done_walks
  designation_walks (Some d) i s = designated_walks d.designators (designation_begun i) s

  mutual
    pub initialized_walks : (x : Initializer) (i : Initializing) (s : State) → Walking walk 0 s (initialized x i s)
    initialized_walks (t.value e) i s = literal_or_walks (literal_alone e) e i s
    initialized_walks (t.braced l x more comma r) i s =
        then_walks (item_walks x (opened (extents s) (member_lists s) i) s) (λ i.
        then_walks (items_walk more i.1 i.0) (λ i.
        judged_walks i.0 (closed (extents i.0) (member_lists i.0) l.line i.1)))

    item_walks : (x : InitializerItem) (i : Initializing) (s : State) → Walking walk 0 s (with_item x i s)
    item_walks (t.item designation x) i s =
        then_walks (designation_walks designation i s) (λ r. initialized_walks x r.1 r.0)

    items_walk : (more : MoreItems) (i : Initializing) (s : State) → Walking walk 0 s (with_items more i s)
    items_walk t.end_of_items i s = done_walks
    items_walk (t.more_items at x more) i s = then_walks (item_walks x i s) (λ r. items_walk more r.1 r.0)
