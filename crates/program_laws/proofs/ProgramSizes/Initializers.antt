-- What initializers are typed to has at most 3 nodes for each of their words (C99 6.7.8).
use Rattle.std.proofs.Common.{◌≡◌, ℕ, ◌+◌, ◌*◌, ◌≤◌, Bool, true, false, not, cond, refl, List, [], ◌∷◌, Option, Some}
use Rattle.std.proofs.Common.{None, arith, if◌then◌else◌, length}
use Rattle.std.specs.Prelude.{Ok}
use Rattle.c_syntax.specs.Tree.{Designation, Designator, Expression, Initializer, InitializerItem, MoreItems}
use Rattle.c_syntax.specs.Tree as t
use Rattle.c_tree.specs.Extents.{TypeExtent}
use Rattle.c_tree.specs.Statements.{Content, literal_content, value_content}
use Rattle.c_faults.specs.declared.fault.Rule.TheVariants.{MisplacedItem}
use Rattle.c_faults.specs.Answer.{Answer, violates, ◌>>=◌}
use Rattle.c_rules.specs.Values.{Value}
use Rattle.c_current_object.specs.declared.current.CurrentObject.{CurrentObject}
use Rattle.c_current_object.specs.declared.filler.Filler.TheVariants as filler
use Rattle.c_current_object.specs.declared.subobject.Step.{Step}
use Rattle.c_current_object.specs.declared.subobject.Subobject.{Subobject}
use Rattle.c_current_object.specs.CurrentObject.{by_index, by_name}
use Rattle.c_current_object.specs.Members.{MemberLists}
use Rattle.c_current_object.specs.Types.{filler_of, is_character_array}
use Rattle.c_initializer_rules.specs.declared.initializing.Next.{Next}
use Rattle.c_initializer_rules.specs.declared.initializing.Standing.TheVariants.{Whole}
use Rattle.c_initializer_rules.specs.Initializing.{Initializing, at_object, closed, closed_list, designated_in}
use Rattle.c_initializer_rules.specs.Initializing.{designation_begun, has_misplaced, literal_at, literal_next, opened}
use Rattle.c_initializer_rules.specs.Initializing.{opened_for, place_of, stored_at, value_at, value_next, with_literal}
use Rattle.c_initializer_rules.specs.Initializing.{with_value}
use Rattle.c_initializer_rules.specs.Literals.{filling, is_too_long}
use Rattle.c_initializer_rules.specs.Placed.{PlacedPart, overrides, parts_in, placed, with_part, without}
use Rattle.c_scope.specs.Names.{Name}
use Rattle.c_operand_typing.specs.Primaries.{spelled_bytes}
use Rattle.c_typing_state.specs.State.{State, done, extents, judged}
use Rattle.c_expression_typing.specs.Constructs.{literal_alone}
use Rattle.c_expression_typing.specs.Lines.{name_of}
use Rattle.c_unit_typing.specs.Initializers.{by_literal_or, by_value, designated, designated_by, designated_once}
use Rattle.c_unit_typing.specs.Initializers.{filled, index_in, initialized, member_lists, with_item, with_items}
use Rattle.c_unit_typing.specs.Lines.{expression_line}
use Rattle.program_laws.specs.TreeSizes.AtMost.{AtMost, in_state_size, value_size}
use Rattle.program_laws.specs.TreeSizes.Nodes.{content_nodes, part_nodes, parts_nodes}
use Rattle.program_laws.specs.TreeSizes.WordCounts.{words_in, words_in_designation, words_in_designator}
use Rattle.program_laws.specs.TreeSizes.WordCounts.{words_in_designators}
use Rattle.program_laws.specs.TreeSizes.WordCounts.{words_in_initializer, words_in_item, words_in_items}
use Rattle.program_laws.proofs.TreeSizes.Bounded.{anything, gives, more, refuses, then_gives}
use Rattle.program_laws.proofs.TreeSizes.Operators.{assigned_nodes}
use Rattle.program_laws.proofs.TreeSizes.Recursion.{value_sizes}
use Rattle.program_laws.proofs.TreeSizes.Steps.{judged_gives}
use Rattle.program_laws.specs.ProgramSizes.Sizes.{initializing_nodes, placed_nodes}
use Rattle.program_laws.proofs.ProgramSizes.Numbers.{sum_added}

-- parts

kept_by : (b : Bool) (p : PlacedPart) (kept all : List PlacedPart) → placed_nodes kept ≤ placed_nodes all
    → placed_nodes (cond b (p ∷ kept) kept) ≤ placed_nodes (p ∷ all)
kept_by true p kept all h = omega arith
kept_by false p kept all h = omega arith

without_nodes : (path : List Step) (ps : List PlacedPart) → placed_nodes (without path ps) ≤ placed_nodes ps
unfolding without
without_nodes path [] = omega arith
without_nodes path (p ∷ ps) = kept_by (not (overrides path p.path)) p _ ps (without_nodes path ps)

with_part_nodes : (o : Subobject) (content : Content) (ps : List PlacedPart)
    → placed_nodes (with_part o content ps) ≤ placed_nodes ps + (1 + content_nodes content)
with_part_nodes o content ps =
    omega (arith, sum_added (λ p. part_nodes p.part) (without o.path ps) (placed o content), without_nodes o.path ps)

pub parts_in_nodes : (ps : List PlacedPart) → parts_nodes (parts_in ps) ≡ placed_nodes ps
parts_in_nodes [] = refl
parts_in_nodes (p ∷ ps) = omega (arith, parts_in_nodes ps)

-- designators, which store nothing

choosing_nodes : (line : ℕ) (choose : CurrentObject → Answer CurrentObject) (i : Initializing)
    → AtMost initializing_nodes (initializing_nodes i)
    (designated_in line choose i.next >>= λ next. Ok (record i { next = next }))
choosing_nodes line choose i = then_gives (anything (designated_in line choose i.next)) (λ next h. gives (omega arith))

-- values and literals

stored_nodes : (es : List (Option TypeExtent)) (ms : MemberLists) (content : Content) (c : CurrentObject)
    (i : Initializing)
    → initializing_nodes (stored_at es ms content c i) ≤ initializing_nodes i + (1 + content_nodes content)
stored_nodes es ms content c i = with_part_nodes c.object content i.parts

value_at_nodes : (es : List (Option TypeExtent)) (ms : MemberLists) (line : ℕ) (v : Value) (c : CurrentObject)
    (i : Initializing)
    → AtMost initializing_nodes (initializing_nodes i + (2 + value_size v)) (value_at es ms line v c i)
value_at_nodes es ms line v c i =
    then_gives (assigned_nodes es line c.object.c_type v)
    (λ e h. gives (omega (arith, stored_nodes es ms (value_content e) c i)))

value_next_nodes : (es : List (Option TypeExtent)) (ms : MemberLists) (line : ℕ) (v : Value) (i : Initializing)
    (next : Option Next) → AtMost initializing_nodes (initializing_nodes i + (2 + value_size v))
    (value_next es ms line v i next)
value_next_nodes es ms line v i None = gives (omega arith)
value_next_nodes es ms line v i (Some n) =
    value_at_nodes es ms line v (place_of es ms i (filler_of v.type) n) i

with_value_nodes : (es : List (Option TypeExtent)) (ms : MemberLists) (line : ℕ) (v : Value) (i : Initializing)
    → AtMost initializing_nodes (initializing_nodes i + (2 + value_size v)) (with_value es ms line v i)
unfolding with_value
with_value_nodes es ms line v i = value_next_nodes es ms line v i i.next

-- where a literal did not fill an array, its value is stored
abbrev not_filled : Bool → ℕ
not_filled true = 0
not_filled false = 1

abbrev filled_nodes : Initializing × Bool → ℕ
filled_nodes r = initializing_nodes r.0 + not_filled r.1

literal_by : (b : Bool) (es : List (Option TypeExtent)) (ms : MemberLists) (line : ℕ) (bytes : List ℕ)
    (c : CurrentObject) (i : Initializing)
    → AtMost filled_nodes (initializing_nodes i + 1) (if b then violates MisplacedItem line
    else Ok (stored_at es ms (literal_content bytes) c i, true))
literal_by true es ms line bytes c i = refuses
literal_by false es ms line bytes c i = gives (omega (arith, stored_nodes es ms (literal_content bytes) c i))

placed_by : (b : Bool) (es : List (Option TypeExtent)) (ms : MemberLists) (line : ℕ) (spelled : List ℕ)
    (c : CurrentObject) (i : Initializing)
    → AtMost filled_nodes (initializing_nodes i + 1) (if b then literal_at es ms line spelled c i
    else Ok (record i { next = Some (at_object c Whole) }, false))
placed_by true es ms line spelled c i =
    literal_by (is_too_long c.object.c_type spelled) es ms line (filling c.object.c_type spelled) c i
placed_by false es ms line spelled c i = gives (omega arith)

literal_next_nodes : (es : List (Option TypeExtent)) (ms : MemberLists) (line : ℕ) (spelled : List ℕ)
    (i : Initializing) (next : Option Next)
    → AtMost filled_nodes (initializing_nodes i + 1) (literal_next es ms line spelled i next)
literal_next_nodes es ms line spelled i None = gives (omega arith)
literal_next_nodes es ms line spelled i (Some n) =
    let c = place_of es ms i filler.Literal n in
    placed_by (is_character_array c.object.c_type) es ms line spelled c i

with_literal_nodes : (es : List (Option TypeExtent)) (ms : MemberLists) (line : ℕ) (spelled : List ℕ)
    (i : Initializing) → AtMost filled_nodes (initializing_nodes i + 1) (with_literal es ms line spelled i)
unfolding with_literal
with_literal_nodes es ms line spelled i = literal_next_nodes es ms line spelled i i.next

-- lists in braces

opened_by : (es : List (Option TypeExtent)) (ms : MemberLists) (i : Initializing) (next : Option Next)
    → initializing_nodes (opened_for es ms i next) ≤ initializing_nodes i
opened_by es ms i None = omega arith
opened_by es ms i (Some n) = without_nodes n.current.object.path i.parts

opened_nodes : (es : List (Option TypeExtent)) (ms : MemberLists) (i : Initializing)
    → initializing_nodes (opened es ms i) ≤ initializing_nodes i
unfolding opened
opened_nodes es ms i = opened_by es ms i i.next

closed_by : (b : Bool) (es : List (Option TypeExtent)) (ms : MemberLists) (line : ℕ) (i : Initializing)
    → AtMost initializing_nodes (initializing_nodes i)
    (if b then violates MisplacedItem line else Ok (closed_list es ms i))
closed_by true es ms line i = refuses
closed_by false es ms line i = gives (omega arith)

closed_nodes : (es : List (Option TypeExtent)) (ms : MemberLists) (line : ℕ) (i : Initializing)
    → AtMost initializing_nodes (initializing_nodes i) (closed es ms line i)
unfolding closed
closed_nodes es ms line i = closed_by (has_misplaced i.list) es ms line i

-- initializers

by_value_nodes : (e : Expression) (i : Initializing) (s : State)
    → AtMost (in_state_size initializing_nodes) (length s.literals + initializing_nodes i + (2 + 3 * words_in e))
    (by_value e i s)
by_value_nodes e i s =
    then_gives (value_sizes true e s) (λ v h.
    judged_gives v.0 (with_value_nodes (extents v.0) (member_lists v.0) (expression_line e) v.1 i) (omega arith))

filling_nodes : (spelled : List ℕ) (line : ℕ) (i : Initializing) (s : State)
    → AtMost (in_state_size filled_nodes) (length s.literals + initializing_nodes i + 1)
    (judged (filled spelled line i) s)
filling_nodes spelled line i s =
    judged_gives s (with_literal_nodes (extents s) (member_lists s) line spelled i) (omega arith)

unless_by : (b : Bool) (e : Expression) (i : Initializing) (s : State) (n : ℕ)
    → in_state_size filled_nodes (s, (i, b)) ≤ n + 1
    → AtMost (in_state_size initializing_nodes) (n + (2 + 3 * words_in e)) ((if b then done i else by_value e i) s)
unless_by true e i s n low = gives (omega arith)
unless_by false e i s n low = more (omega arith) (by_value_nodes e i s)

literal_or_nodes : (names : Option (List Name)) (e : Expression) (i : Initializing) (s : State)
    → AtMost (in_state_size initializing_nodes) (length s.literals + initializing_nodes i + (2 + 3 * words_in e))
    (by_literal_or names e i s)
literal_or_nodes None e i s = by_value_nodes e i s
literal_or_nodes (Some names) e i s =
    then_gives (filling_nodes (spelled_bytes names) (expression_line e) i s)
    (λ r h. unless_by r.1.1 e r.1.0 r.0 (length s.literals + initializing_nodes i) h)

designated_once_nodes : (d : Designator) (i : Initializing) (s : State)
    → AtMost (in_state_size initializing_nodes)
    (length s.literals + initializing_nodes i + 3 * words_in_designator d) (designated_once d i s)
designated_once_nodes (t.element l e r) i s =
    then_gives (value_sizes false e s) (λ v h.
    judged_gives v.0
    (choosing_nodes l.line (by_index (extents v.0) (member_lists v.0) l.line (index_in v.1)) i) (omega arith))
designated_once_nodes (t.member_named at x) i s =
    judged_gives s (choosing_nodes at.line (by_name (extents s) (member_lists s) at.line (name_of x)) i) (omega arith)

designated_nodes : (ds : List Designator) (i : Initializing) (s : State)
    → AtMost (in_state_size initializing_nodes)
    (length s.literals + initializing_nodes i + 3 * words_in_designators ds) (designated ds i s)
designated_nodes [] i s = gives (omega arith)
designated_nodes (d ∷ ds) i s =
    then_gives (designated_once_nodes d i s) (λ r h. more (omega arith) (designated_nodes ds r.1 r.0))

designation_nodes : (d : Option Designation) (i : Initializing) (s : State)
    → AtMost (in_state_size initializing_nodes)
    (length s.literals + initializing_nodes i + 3 * words_in_designation d) (designated_by d i s)
designation_nodes None i s = gives (omega arith)
designation_nodes (Some d) i s = more (omega arith) (designated_nodes d.designators (designation_begun i) s)

mutual
  pub initialized_nodes : (x : Initializer) (i : Initializing) (s : State)
      → AtMost (in_state_size initializing_nodes)
      (length s.literals + initializing_nodes i + (2 + 3 * words_in_initializer x)) (initialized x i s)
  initialized_nodes (t.value e) i s = literal_or_nodes (literal_alone e) e i s
  initialized_nodes (t.braced l x z comma r) i s =
      then_gives (item_nodes x (opened (extents s) (member_lists s) i) s) (λ j h.
      then_gives (items_nodes z j.1 j.0) (λ k g.
      judged_gives k.0 (closed_nodes (extents k.0) (member_lists k.0) l.line k.1)
      (omega (arith, opened_nodes (extents s) (member_lists s) i))))

  item_nodes : (x : InitializerItem) (i : Initializing) (s : State)
      → AtMost (in_state_size initializing_nodes)
      (length s.literals + initializing_nodes i + (2 + 3 * words_in_item x)) (with_item x i s)
  item_nodes (t.item designation x) i s =
      then_gives (designation_nodes designation i s) (λ r h. more (omega arith) (initialized_nodes x r.1 r.0))

  items_nodes : (x : MoreItems) (i : Initializing) (s : State)
      → AtMost (in_state_size initializing_nodes)
      (length s.literals + initializing_nodes i + 3 * words_in_items x) (with_items x i s)
  items_nodes t.end_of_items i s = gives (omega arith)
  items_nodes (t.more_items at x z) i s =
      then_gives (item_nodes x i s) (λ r h. more (omega arith) (items_nodes z r.1 r.0))
