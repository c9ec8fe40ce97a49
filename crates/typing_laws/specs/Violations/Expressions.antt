-- All violations of typing rules in expressions, type names, declarators and specifiers (C99 6.5, 6.7), which contain
-- each other, in the order of the tokens.
use Rattle.std.specs.Prelude.{ℕ, Bool, false, ◌&&◌, if◌then◌else◌, List, [], ◌∷◌, ◌++◌, Option, Some, None}
use Rattle.std.specs.Prelude.{option_map}
use Rattle.c_syntax.specs.declared.position.Position.{Position}
use Rattle.c_syntax.specs.declared.position.Spelled.{Spelled}
use Rattle.c_syntax.specs.Tree.{Expression, Arguments, MoreArguments, TypedDeclarator, Declarator, Parameters}
use Rattle.c_syntax.specs.Tree.{MoreParameters, Specifiers, Specifier, Members, Member, MoreDeclarators, Enumerator}
use Rattle.c_syntax.specs.Tree.{MoreEnumerators}
use Rattle.c_syntax.specs.Tree as t
use Rattle.c_syntax.specs.Formed.{is_plain_name}
use Rattle.c_tree.specs.declared.c_type.TypeWord.{TypeWord}
use Rattle.c_tree.specs.declared.expression.Fixity.TheVariants as fixity
use Rattle.c_rules.specs.Values.{Value}
use Rattle.c_call_rules.specs.Printing.{Format, a_literal, another}
use Rattle.c_place_rules.specs.Operands.{Operand, a_value, enclosed}
use Rattle.c_place_rules.specs.Places.{type_in}
use Rattle.c_declarators.specs.Derivations.{to_array, to_open_array, to_pointer}
use Rattle.c_scope.specs.declared.meaning.Tag.{Tag}
use Rattle.c_scope.specs.declared.tags.TagKind.TheVariants as kind
use Rattle.c_scope.specs.Environment.{with_block}
use Rattle.c_scope.specs.Names.{Name}
use Rattle.c_scope.specs.Parameters.{ParameterScope, parameters_in, without_parameters}
use Rattle.c_operand_typing.specs.Calls.{Called, applied, name_called, pointer_called, printed}
use Rattle.c_declarator_typing.specs.Declarators.{Shape, parameter, plain_shape, type_named, with_derivation}
use Rattle.c_declarator_typing.specs.Declarators.{with_function}
use Rattle.c_declarator_typing.specs.Members.{Entries, member_added, member_specified, no_entries, tag_completed}
use Rattle.c_operand_typing.specs.Operators.{as_value, assigned_by, assignment_form_of, binary_form_of, combined}
use Rattle.c_operand_typing.specs.Operators.{indexed}
use Rattle.c_operand_typing.specs.Operators.{prefix_form_of, step_form, stepped_by}
use Rattle.c_operand_typing.specs.Primaries.{character_constant, integer_constant, literal, literal_bytes, named}
use Rattle.c_operand_typing.specs.Primaries.{spelled_bytes}
use Rattle.c_declarator_typing.specs.Sizes.{count_in, enumeration_value}
use Rattle.c_declarator_typing.specs.Specifications.{Gathered, Specification, nothing_gathered, specified, tag_kind}
use Rattle.c_declarator_typing.specs.Specifications.{tag_type}
use Rattle.c_declarator_typing.specs.Specifications.{typedef_type, with_keyword, with_named}
use Rattle.c_typing_state.specs.State.{State, judged}
use Rattle.c_expression_typing.specs.Constructs.{Printing, accessed, begun_as, cast_to, chosen, enumerated_as}
use Rattle.c_expression_typing.specs.Constructs.{has_words, is_printf, literal_alone, plain_name, prefixed, sized}
use Rattle.c_expression_typing.specs.Constructs.{tagged_as}
use Rattle.c_expression_typing.specs.Lines.{first_line, name_of, spellings, tag_name}
use Rattle.typing_laws.specs.Violations.Judgements.{Judgement, Judging, adding_at, adds_by, along, beginning, by_rule}
use Rattle.typing_laws.specs.Violations.Judgements.{given}
use Rattle.typing_laws.specs.Violations.Judgements.{gives, rule_at, ◌adding◌, ◌adding_by◌, ◌beside◌, ◌giving◌}
use Rattle.typing_laws.specs.Violations.Judgements.{◌knowing◌}
use Rattle.typing_laws.specs.Violations.Judgements.{◌onward◌, ◌ruled_by◌}

-- the token at which an expression is judged
abbrev pub token_of : Expression → ℕ
token_of (t.identifier x) = x.position.at
token_of (t.integer x) = x.position.at
token_of (t.character x) = x.position.at
token_of (t.strings x more) = x.position.at
token_of (t.parenthesized l e r) = l.at
token_of (t.subscript a l b r) = l.at
token_of (t.call f l args r) = l.at
token_of (t.member e w at x) = at.at
token_of (t.postfix e w at) = at.at
token_of (t.unary w at e) = at.at
token_of (t.sizeof_expression at e) = at.at
token_of (t.sizeof_type at l x r) = at.at
token_of (t.cast l x r e) = l.at
token_of (t.binary a w at b) = at.at
token_of (t.conditional c q a colon b) = q.at
token_of (t.assignment a w at b) = at.at

abbrev pub specifier_token : Specifier → ℕ
specifier_token (t.keyword w at) = at.at
specifier_token (t.typedef_name x) = x.position.at
specifier_token (t.structure w at x) = at.at
specifier_token (t.structure_body w at x l ms r) = at.at
specifier_token (t.enumeration at x) = at.at
specifier_token (t.enumeration_body at x l e more comma r) = at.at

-- the first token of specifiers, of which there is one at least
abbrev pub first_token : Specifiers → ℕ
first_token t.no_specifiers = 0
first_token (t.specifiers x more) = specifier_token x

-- the name of a declarator, or another token where it has none
abbrev pub name_token : (other : ℕ) → Declarator → ℕ
name_token n (t.named x) = x.position.at
name_token n t.unnamed = n
name_token n (t.pointer at consts d) = name_token n d
name_token n (t.grouped l d r) = name_token n d
name_token n (t.open_array d l r) = name_token n d
name_token n (t.array d l e r) = name_token n d
name_token n (t.function d l ps r) = name_token n d

-- an operand whose value is used
abbrev pub valued : (token : ℕ) → Judging State Operand → Judging State Value
valued n operand = operand ruled_by rule_at n as_value

-- what stands before the `(` of a call: a plain name, or an operand
abbrev pub callee : (is_evaluated : Bool) → (name : Option Spelled) → (token : ℕ) → (operand : Judging State Operand)
    → Judging State Called
callee is (Some x) n operand = by_rule n (name_called is (name_of x) x.position.line)
callee is None n operand = operand ruled_by rule_at n λ o. judged (pointer_called o)

-- The arguments of a call, and its rule. They are those of a `printf` where this is called; where what is called
-- violates a rule they are judged by themselves.
abbrev pub applied_to : Position → (values : Judging State (List Value)) → (printing : Judging State Printing)
    → Option Called → Judging State Operand
applied_to l values printing None = values knowing λ vs. given None
applied_to l values printing (Some c) =
    if is_printf c then printing ruled_by rule_at l.at (λ p. judged (printed l.line p.format p.values))
    else values ruled_by rule_at l.at (applied l.line c)

-- the first argument of a `printf`: a string literal alone, or a value
abbrev pub format : (literal : Option (List Name)) → (token : ℕ) → (operand : Judging State Operand)
    → Judging State Format
format (Some names) n operand = gives (a_literal (spelled_bytes names))
format None n operand = valued n operand giving another

abbrev pub printing_with : Format × List Value → Printing
printing_with v = record { format = Some v.0; values = v.1 }

-- what stands behind others in a list
abbrev pub at_end : {A : Type 0} → A → List A → List A
at_end x xs = xs ++ x ∷ []

-- The scope of a parameter list is left where it ends, also where a parameter violates a rule.

abbrev pub in_scope : State → State
in_scope s = record s { environment = with_block s.environment }

abbrev pub with_scope : {A : Type 0} → (variables : ℕ) → Judgement State A → Judgement State (A × ParameterScope)
with_scope n j = record {
  violations = j.violations;
  state = record j.state { environment = without_parameters n j.state.environment };
  known = option_map (λ x. (x, parameters_in j.state.environment)) j.known;
}

abbrev pub scoped : {A : Type 0} → Judging State A → Judging State (A × ParameterScope)
scoped parameters s = with_scope s.environment.variables (parameters (in_scope s))

abbrev pub function_shape : Shape × (List (List TypeWord) × ParameterScope) → Shape
function_shape v = with_function v.1.0 v.1.1 v.0

abbrev pub array_shape : Shape × Value → Shape
array_shape v = with_derivation (to_array (count_in v.1)) v.0

abbrev pub with_tag : Tag → Gathered → Gathered
with_tag tag g = with_named (tag_type tag) g

abbrev pub specified_by : Specifiers → Judging (State × Gathered) (Unit {0}) → Judging State Specification
specified_by specs said = beginning nothing_gathered said giving specified (first_line specs)

-- a member, whose type is not known where the specifiers violate a rule
abbrev pub member : (token : ℕ) → Option Specification → Judging State Shape → Judging (State × Entries) (Unit {0})
member n spec shape = given spec beside shape adding_by adding_at n λ v es. judged (member_added v.0 v.1 es)

abbrev mutual
  -- an expression
  pub operand : (is_evaluated : Bool) → Expression → Judging State Operand
  operand is (t.identifier x) = by_rule x.position.at (named is (name_of x) x.position.line)
  operand is (t.integer x) = gives (a_value (integer_constant x.spelling x.position.line))
  operand is (t.character x) = gives (a_value (character_constant x.spelling x.position.line))
  operand is (t.strings x more) =
      by_rule x.position.at (literal is (literal_bytes (spellings x more)) x.position.line)
  operand is (t.parenthesized l e r) = operand is e ruled_by rule_at l.at λ o. judged (λ s. enclosed l.line o)
  operand is (t.subscript a l b r) =
      valued (token_of a) (operand is a) beside valued (token_of b) (operand is b) ruled_by rule_at l.at λ v.
      judged (indexed l.line v.0 v.1)
  operand is (t.call f l args r) =
      callee is (plain_name f) (token_of f) (operand is f) knowing
      applied_to l (argument_values is args) (printed_values is args)
  operand is (t.member e w at x) = operand is e ruled_by rule_at at.at (accessed w at.line (name_of x))
  operand is (t.postfix e w at) =
      operand is e ruled_by rule_at at.at λ o. judged (stepped_by (step_form w) fixity.Postfix at.line o)
  operand is (t.unary w at e) = operand is e ruled_by rule_at at.at (prefixed is (prefix_form_of w) at.line)
  operand is (t.sizeof_expression at e) =
      operand false e ruled_by rule_at at.at λ o. judged (sized at.line (type_in o))
  operand is (t.sizeof_type at l x r) = type_name x ruled_by rule_at at.at λ type. judged (sized at.line type)
  operand is (t.cast l x r e) =
      type_name x beside valued (token_of e) (operand is e) ruled_by rule_at l.at λ v.
      judged (cast_to l.line v.0 v.1)
  operand is (t.binary a w at b) =
      valued (token_of a) (operand is a) beside valued (token_of b) (operand is b) ruled_by rule_at at.at λ v.
      judged (combined (binary_form_of w) at.line v.0 v.1)
  operand is (t.conditional c q a colon b) =
      valued (token_of c) (operand is c) beside valued (token_of a) (operand is a) beside
      valued (token_of b) (operand is b) ruled_by rule_at q.at λ v.
      judged (chosen q.line v.0.0 v.0.1 v.1)
  operand is (t.assignment a w at b) =
      operand is a beside valued (token_of b) (operand is b) ruled_by rule_at at.at λ v.
      judged (assigned_by (assignment_form_of w) at.line v.0 v.1)

  pub argument_values : (is_evaluated : Bool) → Arguments → Judging State (List Value)
  argument_values is t.no_arguments = gives []
  argument_values is (t.arguments e more) =
      beginning [] (valued (token_of e) (operand is e) adding at_end onward more_values is more)

  pub more_values : (is_evaluated : Bool) → MoreArguments → Judging (State × List Value) (Unit {0})
  more_values is t.end_of_arguments = gives tt
  more_values is (t.more_arguments at e more) =
      valued (token_of e) (operand is e) adding at_end onward more_values is more

  pub printed_values : (is_evaluated : Bool) → Arguments → Judging State Printing
  printed_values is t.no_arguments = gives (record { format = None; values = [] })
  printed_values is (t.arguments e more) =
      format (literal_alone e) (token_of e) (operand is e) beside
      beginning [] (more_values is more) giving printing_with

  -- a type name (6.7.6)
  pub type_name : TypedDeclarator → Judging State (List TypeWord)
  type_name (t.typed specs d) =
      specified_by specs (gathered false (first_line specs) specs) beside shape false d ruled_by
      rule_at (name_token (first_token specs) d) λ v. judged (type_named v.0 v.1)

  -- a declarator
  pub shape : (in_definition : Bool) → Declarator → Judging State Shape
  shape in_definition (t.named x) = gives (plain_shape (Some (name_of x, x.position.line)))
  shape in_definition t.unnamed = gives (plain_shape None)
  shape in_definition (t.pointer at consts d) =
      shape in_definition d giving with_derivation (to_pointer (has_words consts))
  shape in_definition (t.grouped l d r) = shape in_definition d
  shape in_definition (t.open_array d l r) = shape in_definition d giving with_derivation to_open_array
  shape in_definition (t.array d l e r) =
      shape in_definition d beside valued (token_of e) (operand false e) giving array_shape
  shape in_definition (t.function d l ps r) =
      shape in_definition d beside scoped (parameter_types (in_definition && is_plain_name d) ps) giving function_shape

  -- 6.7.5.3
  pub parameter_types : (in_definition : Bool) → Parameters → Judging State (List (List TypeWord))
  parameter_types in_definition t.no_parameters = gives []
  parameter_types in_definition (t.void_parameters at) = gives []
  parameter_types in_definition (t.parameters x more) =
      beginning [] (parameter_type in_definition x adding at_end onward more_types in_definition more)

  pub more_types : (in_definition : Bool) → MoreParameters → Judging (State × List (List TypeWord)) (Unit {0})
  more_types in_definition t.end_of_parameters = gives tt
  more_types in_definition (t.more_parameters at x more) =
      parameter_type in_definition x adding at_end onward more_types in_definition more

  pub parameter_type : (in_definition : Bool) → TypedDeclarator → Judging State (List TypeWord)
  parameter_type in_definition (t.typed specs d) =
      specified_by specs (gathered false (first_line specs) specs) beside shape false d ruled_by
      rule_at (name_token (first_token specs) d) λ v. parameter in_definition v.0 v.1

  -- Specifiers. Where the rules on tags and on large types are violated, the line is that of the first of them.
  pub gathered : (is_alone : Bool) → (line : ℕ) → Specifiers → Judging (State × Gathered) (Unit {0})
  gathered is_alone line t.no_specifiers = gives tt
  gathered is_alone line (t.specifiers x more) = specifier is_alone line x onward gathered is_alone line more

  pub specifier : (is_alone : Bool) → (line : ℕ) → Specifier → Judging (State × Gathered) (Unit {0})
  specifier is_alone line (t.keyword w at) = gives w adding with_keyword
  specifier is_alone line (t.typedef_name x) =
      by_rule x.position.at (judged (typedef_type (name_of x) x.position.line)) adding with_named
  specifier is_alone line (t.structure w at x) =
      by_rule at.at (tagged_as is_alone (tag_kind w) (name_of x) line) adding with_tag
  specifier is_alone line (t.structure_body w at x l ms r) =
      by_rule at.at (begun_as (tag_kind w) (tag_name x) line) beside beginning no_entries (members ms) ruled_by
      rule_at at.at (λ v. tag_completed line v.0 v.1) adding with_tag
  specifier is_alone line (t.enumeration at x) =
      by_rule at.at (tagged_as is_alone kind.Enumeration (name_of x) line) adding with_tag
  specifier is_alone line (t.enumeration_body at x l e more comma r) =
      by_rule at.at (begun_as kind.Enumeration (tag_name x) line) beside
      beginning (Some 0) (enumerator e onward more_enumerators more) adding λ v. with_tag v.0

  -- 6.7.2.1
  pub members : Members → Judging (State × Entries) (Unit {0})
  members t.no_members = gives tt
  members (t.members m more) = declared_members m onward members more

  pub declared_members : Member → Judging (State × Entries) (Unit {0})
  declared_members (t.member_declaration specs d more at) =
      along (specified_by specs (gathered false (first_line specs) specs) ruled_by
      rule_at (first_token specs) λ spec. judged (λ s. member_specified spec)) knowing λ spec.
      member (name_token (first_token specs) d) spec (shape false d) onward more_members spec more

  pub more_members : Option Specification → MoreDeclarators → Judging (State × Entries) (Unit {0})
  more_members spec t.end_of_declarators = gives tt
  more_members spec (t.more_declarators at d more) =
      member (name_token at.at d) spec (shape false d) onward more_members spec more

  -- 6.7.2.2: an enumerator, behind one whose value decides that of the next
  pub enumerator : Enumerator → Judging (State × Option ℕ) (Unit {0})
  enumerator (t.plain x) = adds_by x.position.at (enumerated_as (name_of x) x.position.line)
  enumerator (t.valued x at e) =
      valued (token_of e) (operand false e) adding_by adding_at x.position.at λ v next.
      enumerated_as (name_of x) x.position.line (enumeration_value v)

  pub more_enumerators : MoreEnumerators → Judging (State × Option ℕ) (Unit {0})
  more_enumerators t.end_of_enumerators = gives tt
  more_enumerators (t.more_enumerators at x more) = enumerator x onward more_enumerators more

-- what specifiers say
abbrev pub specification : (is_alone : Bool) → Specifiers → Judging State Specification
specification is_alone specs = specified_by specs (gathered is_alone (first_line specs) specs)
