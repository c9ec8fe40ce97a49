-- The typing of initializers (C99 6.7.8), in the order of the tokens.
use Rattle.std.specs.Prelude.{ℕ, ◌^◌, Bool, true, false, not, ◌||◌, nat_lt, if◌then◌else◌, List, [], ◌∷◌, Option, Some}
use Rattle.std.specs.Prelude.{None, Ok}
use Rattle.c_syntax.specs.Tree.{Designation, Designator, Expression, Initializer, InitializerItem, MoreItems}
use Rattle.c_syntax.specs.Tree as t
use Rattle.c_tree.specs.Extents.{TypeExtent}
use Rattle.c_faults.specs.Answer.{Answer}
use Rattle.c_rules.specs.Values.{Value}
use Rattle.c_scope.specs.Names.{Name}
use Rattle.c_current_object.specs.Members.{MemberLists, lists_in}
use Rattle.c_initializer_rules.specs.Initializing.{Initializing, closed, designation_begun, opened, with_index}
use Rattle.c_initializer_rules.specs.Initializing.{with_literal, with_name, with_value}
use Rattle.c_operand_typing.specs.Primaries.{spelled_bytes}
use Rattle.c_declarator_typing.specs.Sizes.{constant_where}
use Rattle.c_typing_state.specs.State.{State, Typing, done, extents, judged, ◌>>>◌}
use Rattle.c_expression_typing.specs.Constructs.{literal_alone, valued}
use Rattle.c_expression_typing.specs.Lines.{name_of}
use Rattle.c_expression_typing.specs.Typed.{typed}
use Rattle.c_unit_typing.specs.Lines.{expression_line}

abbrev pub member_lists : State → MemberLists
member_lists s = lists_in s.environment.structures

-- a step among the structures and unions so far
abbrev pub stepped : (List (Option TypeExtent) → MemberLists → Initializing → Answer Initializing) → Initializing
    → Typing Initializing
stepped step i = judged (λ s. step (extents s) (member_lists s) i)

-- Designators (paragraphs 6 and 7): the value of the constant expression of `[ ]` is not negative.

abbrev pub is_index : (has_sign : Bool) → (word : ℕ) → Bool
is_index has_sign w = not has_sign || nat_lt w (2 ^ 63)

abbrev pub index_in : Value → Option ℕ
index_in v = constant_where is_index v.tree

abbrev pub by_index : (line : ℕ) → Initializing → Value → Typing Initializing
by_index line i v = stepped (λ es ms. with_index es ms line (index_in v)) i

abbrev pub by_name : (line : ℕ) → Name → Initializing → Typing Initializing
by_name line name i = stepped (λ es ms. with_name es ms line name) i

abbrev pub designated_once : Designator → Initializing → Typing Initializing
designated_once (t.element l e r) i = valued (typed false e) >>> λ v. by_index l.line i v
designated_once (t.member_named at x) i = by_name at.line (name_of x) i

abbrev pub designated : List Designator → Initializing → Typing Initializing
designated [] i = done i
designated (d ∷ ds) i = designated_once d i >>> λ i. designated ds i

abbrev pub designated_by : Option Designation → Initializing → Typing Initializing
designated_by None i = done i
designated_by (Some d) i = designated d.designators (designation_begun i)

-- An initializer without braces is judged at its first token. A string literal that fills an array of character type is
-- no object (paragraph 14).

abbrev pub by_value : Expression → Initializing → Typing Initializing
by_value e i = valued (typed true e) >>> λ v. stepped (λ es ms. with_value es ms (expression_line e) v) i

abbrev pub unless_filled : Expression → Initializing × Bool → Typing Initializing
unless_filled e r = if r.1 then done r.0 else by_value e r.0

abbrev pub filled : (spelled : List ℕ) → (line : ℕ) → Initializing → State → Answer (Initializing × Bool)
filled spelled line i s = with_literal (extents s) (member_lists s) line spelled i

abbrev pub by_literal_or : (literal : Option (List Name)) → Expression → Initializing → Typing Initializing
by_literal_or None e i = by_value e i
by_literal_or (Some names) e i = judged (filled (spelled_bytes names) (expression_line e) i) >>> unless_filled e

abbrev pub by_expression : Expression → Initializing → Typing Initializing
by_expression e i = by_literal_or (literal_alone e) e i

abbrev pub list_opened : Initializing → Typing Initializing
list_opened i = judged (λ s. Ok (opened (extents s) (member_lists s) i))

abbrev pub list_closed : (line : ℕ) → Initializing → Typing Initializing
list_closed line i = stepped (λ es ms. closed es ms line) i

abbrev mutual
  pub initialized : Initializer → Initializing → Typing Initializing
  initialized (t.value e) i = by_expression e i
  initialized (t.braced l x more comma r) i =
      list_opened i >>> λ i. with_item x i >>> λ i. with_items more i >>> λ i. list_closed l.line i

  pub with_item : InitializerItem → Initializing → Typing Initializing
  with_item (t.item designation x) i = designated_by designation i >>> λ i. initialized x i

  pub with_items : MoreItems → Initializing → Typing Initializing
  with_items t.end_of_items i = done i
  with_items (t.more_items at x more) i = with_item x i >>> λ i. with_items more i
