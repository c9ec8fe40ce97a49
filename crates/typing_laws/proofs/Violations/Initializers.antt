-- The first violation in an initializer is what typing answers.
use Rattle.std.proofs.Common.{Bool, true, false, refl, ◌∙◌, subst, List, [], ◌∷◌}
use Rattle.std.proofs.Common.{Option, Some, None, if◌then◌else◌}
use Rattle.c_syntax.specs.Tree.{Designation, Designator, Expression, Initializer, InitializerItem, MoreItems}
use Rattle.c_syntax.specs.Tree as t
use Rattle.c_faults.specs.Answer.{◌>>=◌}
use Rattle.c_scope.specs.Names.{Name}
use Rattle.c_initializer_rules.specs.Initializing.{Initializing, designation_begun, with_value}
use Rattle.c_operand_typing.specs.Primaries.{spelled_bytes}
use Rattle.c_typing_state.specs.State.{State, done, judged}
use Rattle.c_expression_typing.specs.Constructs.{literal_alone}
use Rattle.c_expression_typing.specs.Lines.{name_of}
use Rattle.c_unit_typing.specs.Initializers as typing
use Rattle.c_unit_typing.specs.Initializers.{by_index, by_name, filled, list_closed, list_opened, stepped}
use Rattle.c_unit_typing.specs.Lines.{expression_line}
use Rattle.typing_laws.specs.Violations.Agreeing.{Agrees}
use Rattle.typing_laws.specs.Violations.Expressions.{token_of}
use Rattle.typing_laws.specs.Violations.Initializers.{first_of_expression, by_literal_or, by_value, designation}
use Rattle.typing_laws.specs.Violations.Initializers.{designator}
use Rattle.typing_laws.specs.Violations.Initializers.{designators, initializer}
use Rattle.typing_laws.specs.Violations.Initializers.{item, items, unless_filled}
use Rattle.typing_laws.specs.Violations.Judgements.{gives}
use Rattle.typing_laws.proofs.Violations.Agreeing.{answer_agrees, followed_agrees, given_ruled, in_turn, ruled_agrees}
use Rattle.typing_laws.proofs.Violations.Expressions.{operand_agrees, value_agrees}

designator_agrees : (d : Designator) (i : Initializing) (s : State)
    → Agrees (designator d (Some i) s) (typing.designated_once d i s)
designator_agrees (t.element l e r) i s =
    given_ruled i l.at (λ v. by_index l.line v.0 v.1) (value_agrees (token_of e) (operand_agrees false e s))
designator_agrees (t.member_named at x) i s = answer_agrees at.at s (by_name at.line (name_of x) i s)

designators_agree : (ds : List Designator) (i : Initializing) (s : State)
    → Agrees (designators ds (Some i) s) (typing.designated ds i s)
designators_agree [] i s = record { by = refl }
designators_agree (d ∷ ds) i s =
    followed_agrees (designators ds) (typing.designated ds) (designator_agrees d i s)
    (λ i u. designators_agree ds i u)

designation_agrees : (d : Option Designation) (i : Initializing) (s : State)
    → Agrees (designation d (Some i) s) (typing.designated_by d i s)
designation_agrees None i s = record { by = refl }
designation_agrees (Some d) i s = designators_agree d.designators (designation_begun i) s

value_stored : (e : Expression) (i : Initializing) (s : State)
    → Agrees (by_value e (Some i) s) (typing.by_value e i s)
value_stored e i s =
    given_ruled i (first_of_expression e) (λ v. stepped (λ es ms. with_value es ms (expression_line e) v.1) v.0)
    (value_agrees (token_of e) (operand_agrees true e s))

filled_if : (b : Bool) (e : Expression) (i : Initializing) (s : State)
    → Agrees ((if b then gives i else by_value e (Some i)) s) ((if b then done i else typing.by_value e i) s)
filled_if true e i s = record { by = refl }
filled_if false e i s = value_stored e i s

literal_agrees : (names : Option (List Name)) (e : Expression) (i : Initializing) (s : State)
    → Agrees (by_literal_or names e (Some i) s) (typing.by_literal_or names e i s)
literal_agrees None e i s = value_stored e i s
literal_agrees (Some names) e i s =
    followed_agrees (unless_filled e) (typing.unless_filled e)
    (answer_agrees (first_of_expression e) s (judged (filled (spelled_bytes names) (expression_line e) i) s))
    (λ r u. filled_if r.1 e r.0 u)

mutual
  pub initializer_agrees : (x : Initializer) (i : Initializing) (s : State)
      → Agrees (initializer x (Some i) s) (typing.initialized x i s)
  initializer_agrees (t.value e) i s = literal_agrees (literal_alone e) e i s
  initializer_agrees (t.braced l x more comma r) i s =
      subst (Agrees (initializer (t.braced l x more comma r) (Some i) s))
      (in_turn (list_opened i s >>= λ r. typing.with_item x r.1 r.0) (λ r. typing.with_items more r.1 r.0)
      (λ r. list_closed l.line r.1 r.0)
      ∙ in_turn (list_opened i s) (λ r. typing.with_item x r.1 r.0)
      (λ r. (typing.with_items more r.1 r.0 >>= λ q. list_closed l.line q.1 q.0)))
      (ruled_agrees l.at (list_closed l.line)
      (followed_agrees (items more) (typing.with_items more)
      (followed_agrees (item x) (typing.with_item x) (answer_agrees l.at s (list_opened i s))
      (λ i u. item_agrees x i u)) (λ i u. items_agree more i u)))

  item_agrees : (x : InitializerItem) (i : Initializing) (s : State)
      → Agrees (item x (Some i) s) (typing.with_item x i s)
  item_agrees (t.item d x) i s =
      followed_agrees (initializer x) (typing.initialized x) (designation_agrees d i s)
      (λ i u. initializer_agrees x i u)

  items_agree : (x : MoreItems) (i : Initializing) (s : State)
      → Agrees (items x (Some i) s) (typing.with_items x i s)
  items_agree t.end_of_items i s = record { by = refl }
  items_agree (t.more_items at x more) i s =
      followed_agrees (items more) (typing.with_items more) (item_agrees x i s) (λ i u. items_agree more i u)
