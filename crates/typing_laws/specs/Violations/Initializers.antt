-- All violations of typing rules in initializers (C99 6.7.8), in the order of the tokens. Where an item violates a rule
-- it is not known what those behind it initialize, and of these only the expressions are judged.
use Rattle.std.specs.Prelude.{ℕ, Bool, true, false, List, [], ◌∷◌, Option, Some, None, option_map}
use Rattle.std.specs.Prelude.{if◌then◌else◌}
use Rattle.c_syntax.specs.Tree.{Designation, Designator, Expression, Initializer, InitializerItem, MoreItems}
use Rattle.c_syntax.specs.Tree as t
use Rattle.c_scope.specs.Names.{Name}
use Rattle.c_initializer_rules.specs.Initializing.{Initializing, designation_begun, with_value}
use Rattle.c_operand_typing.specs.Primaries.{spelled_bytes}
use Rattle.c_typing_state.specs.State.{State, judged}
use Rattle.c_expression_typing.specs.Constructs.{literal_alone}
use Rattle.c_expression_typing.specs.Lines.{name_of}
use Rattle.c_unit_typing.specs.Initializers.{by_index, by_name, filled, list_closed, list_opened, stepped}
use Rattle.c_unit_typing.specs.Lines.{expression_line}
use Rattle.typing_laws.specs.Violations.Expressions.{operand, token_of, valued}
use Rattle.typing_laws.specs.Violations.Judgements.{Judging, given, gives, ◌beside◌, ◌knowing◌, ◌ruled_by◌}
use Rattle.typing_laws.specs.Violations.Judgements.{rule_at}

-- the first token of an expression
abbrev pub first_of_expression : Expression → ℕ
first_of_expression (t.identifier x) = x.position.at
first_of_expression (t.integer x) = x.position.at
first_of_expression (t.character x) = x.position.at
first_of_expression (t.strings x more) = x.position.at
first_of_expression (t.parenthesized l e r) = l.at
first_of_expression (t.subscript a l b r) = first_of_expression a
first_of_expression (t.call f l args r) = first_of_expression f
first_of_expression (t.member e w at x) = first_of_expression e
first_of_expression (t.postfix e w at) = first_of_expression e
first_of_expression (t.unary w at e) = at.at
first_of_expression (t.sizeof_expression at e) = at.at
first_of_expression (t.sizeof_type at l x r) = at.at
first_of_expression (t.cast l x r e) = l.at
first_of_expression (t.binary a w at b) = first_of_expression a
first_of_expression (t.conditional c q a colon b) = first_of_expression c
first_of_expression (t.assignment a w at b) = first_of_expression a

-- designators

abbrev pub designator : Designator → Option Initializing → Judging State Initializing
designator (t.element l e r) i =
    given i beside valued (token_of e) (operand false e) ruled_by rule_at l.at λ v. by_index l.line v.0 v.1
designator (t.member_named at x) i = given i ruled_by rule_at at.at (by_name at.line (name_of x))

abbrev pub designators : List Designator → Option Initializing → Judging State Initializing
designators [] i = given i
designators (d ∷ ds) i = designator d i knowing designators ds

abbrev pub designation : Option Designation → Option Initializing → Judging State Initializing
designation None i = given i
designation (Some d) i = designators d.designators (option_map designation_begun i)

-- an initializer without braces

abbrev pub by_value : Expression → Option Initializing → Judging State Initializing
by_value e i =
    given i beside valued (token_of e) (operand true e) ruled_by rule_at (first_of_expression e) λ v.
    stepped (λ es ms. with_value es ms (expression_line e) v.1) v.0

abbrev pub unless_filled : Expression → Option (Initializing × Bool) → Judging State Initializing
unless_filled e None = given None
unless_filled e (Some r) = if r.1 then gives r.0 else by_value e (Some r.0)

-- a string literal may fill an array of character type
abbrev pub by_literal_or : (literal : Option (List Name)) → Expression → Option Initializing
    → Judging State Initializing
by_literal_or None e i = by_value e i
by_literal_or (Some names) e i =
    given i ruled_by rule_at (first_of_expression e) (λ i.
    judged (filled (spelled_bytes names) (expression_line e) i)) knowing unless_filled e

abbrev mutual
  pub initializer : Initializer → Option Initializing → Judging State Initializing
  initializer (t.value e) i = by_literal_or (literal_alone e) e i
  initializer (t.braced l x more comma r) i =
      given i ruled_by rule_at l.at list_opened knowing item x knowing items more ruled_by
      rule_at l.at (list_closed l.line)

  pub item : InitializerItem → Option Initializing → Judging State Initializing
  item (t.item d x) i = designation d i knowing initializer x

  pub items : MoreItems → Option Initializing → Judging State Initializing
  items t.end_of_items i = given i
  items (t.more_items at x more) i = item x i knowing items more
