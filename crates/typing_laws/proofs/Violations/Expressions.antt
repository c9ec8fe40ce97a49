-- The first violation in an expression, type name, declarator or list of specifiers is what typing answers.
use Rattle.std.proofs.Common.{ℕ, Bool, true, false, refl, ap, ◌∙◌, subst, List, [], ◌∷◌, ◌++◌}
use Rattle.std.proofs.Common.{Option, Some, None, if◌then◌else◌}
use Rattle.std.specs.Prelude.{option_map, Ok, Err, ◌&&◌}
use Rattle.c_syntax.specs.declared.position.Position.{Position}
use Rattle.c_syntax.specs.declared.position.Spelled.{Spelled}
use Rattle.c_syntax.specs.Tree.{Expression, Arguments, MoreArguments, TypedDeclarator, Declarator, Parameters}
use Rattle.c_syntax.specs.Tree.{MoreParameters, Specifiers, Specifier, Members, Member, MoreDeclarators, Enumerator}
use Rattle.c_syntax.specs.Tree.{MoreEnumerators}
use Rattle.c_syntax.specs.Tree as t
use Rattle.c_syntax.specs.Formed.{is_plain_name}
use Rattle.c_tree.specs.declared.c_type.TypeWord.{TypeWord}
use Rattle.c_tree.specs.declared.expression.Fixity.TheVariants as fixity
use Rattle.c_faults.specs.Answer.{Answer, ◌>>=◌}
use Rattle.c_rules.specs.Values.{Value}
use Rattle.c_call_rules.specs.Printing.{another}
use Rattle.c_place_rules.specs.Operands.{Operand, enclosed}
use Rattle.c_place_rules.specs.Places.{type_in}
use Rattle.c_declarators.specs.Derivations.{to_open_array, to_pointer}
use Rattle.c_scope.specs.declared.meaning.Tag.{Tag}
use Rattle.c_scope.specs.declared.tags.TagKind.TheVariants as kind
use Rattle.c_scope.specs.Names.{Name}
use Rattle.c_scope.specs.Parameters.{ParameterScope, parameters_in, without_parameters}
use Rattle.c_operand_typing.specs.Calls.{Called, applied, name_called, pointer_called, printed}
use Rattle.c_declarator_typing.specs.Declarators.{Shape, parameter, type_named, with_derivation}
use Rattle.c_declarator_typing.specs.Members.{Entries, member_added, member_specified, no_entries, tag_completed}
use Rattle.c_operand_typing.specs.Operators.{as_value, assigned_by, assignment_form_of, binary_form_of, combined}
use Rattle.c_operand_typing.specs.Operators.{indexed}
use Rattle.c_operand_typing.specs.Operators.{prefix_form_of, step_form, stepped_by}
use Rattle.c_operand_typing.specs.Primaries.{literal, literal_bytes, named}
use Rattle.c_declarator_typing.specs.Sizes.{enumeration_value}
use Rattle.c_declarator_typing.specs.Specifications.{Gathered, Specification, nothing_gathered, specified, tag_kind}
use Rattle.c_declarator_typing.specs.Specifications.{typedef_type}
use Rattle.c_declarator_typing.specs.Specifications.{with_named}
use Rattle.c_typing_state.specs.State.{State, Typing, judged, ◌>>>◌}
use Rattle.c_expression_typing.specs.Constructs as c
use Rattle.c_expression_typing.specs.Constructs.{Printing, accessed, begun_as, cast_to, chosen, enumerated_as}
use Rattle.c_expression_typing.specs.Constructs.{has_words, is_printf, literal_alone, plain_name, prefixed, sized}
use Rattle.c_expression_typing.specs.Constructs.{tagged_as}
use Rattle.c_expression_typing.specs.Lines.{first_line, name_of, spellings, tag_name}
use Rattle.c_expression_typing.specs.Typed as typing
use Rattle.typing_laws.specs.Violations.Agreeing.{Agree, Agrees}
use Rattle.typing_laws.specs.Violations.Expressions.{applied_to, argument_values, array_shape, at_end, callee}
use Rattle.typing_laws.specs.Violations.Expressions.{declared_members}
use Rattle.typing_laws.specs.Violations.Expressions.{enumerator, format, function_shape, gathered, in_scope, member}
use Rattle.typing_laws.specs.Violations.Expressions.{members}
use Rattle.typing_laws.specs.Violations.Expressions.{more_enumerators, more_members, more_types, more_values, operand}
use Rattle.typing_laws.specs.Violations.Expressions.{parameter_type, parameter_types, printed_values, printing_with}
use Rattle.typing_laws.specs.Violations.Expressions.{scoped}
use Rattle.typing_laws.specs.Violations.Expressions.{first_token, name_token, token_of}
use Rattle.typing_laws.specs.Violations.Expressions.{shape, specification, specifier, type_name, with_scope, with_tag}
use Rattle.typing_laws.specs.Violations.Judgements.{Judgement, Judging, added, along_with, followed}
use Rattle.typing_laws.specs.Violations.Judgements.{made, rule_at, with_added, with_second, ◌onward◌, ◌ruled_by◌}
use Rattle.typing_laws.proofs.Violations.Agreeing.{answer_agrees, followed_agrees, in_turn, made_agrees, pair_agrees}
use Rattle.typing_laws.proofs.Violations.Agreeing.{pair_first}
use Rattle.typing_laws.proofs.Violations.Agreeing.{ruled_agrees, three_ruled, two_made, two_ruled, under}
use Rattle.typing_laws.proofs.Violations.Lists.{Adds, adding_agrees, adding_by_agrees, along_then, list_agrees}
use Rattle.typing_laws.proofs.Violations.Lists.{onward_agrees}

pub value_agrees : {j : Judgement State Operand} {x : Answer (State × Operand)} (n : ℕ) → Agrees j x
    → Agrees (followed j (rule_at n as_value)) (x >>= λ r. as_value r.1 r.0)
value_agrees n e = ruled_agrees n as_value e

-- calls

callee_agrees : (is : Bool) (name : Option Spelled) (n : ℕ) (operand : Judging State Operand) (typed : Typing Operand)
    (s : State) → Agrees (operand s) (typed s) → Agrees (callee is name n operand s) (c.called_by is name typed s)
callee_agrees is (Some x) n operand typed s e = answer_agrees n s (name_called is (name_of x) x.position.line s)
callee_agrees is None n operand typed s e = ruled_agrees n (λ o. judged (pointer_called o)) e

module _ (l : Position) (values : Judging State (List Value)) (typed_values : Typing (List Value))
    (printing : Judging State Printing) (typed_printing : Typing Printing)
    (h : (s : State) → Agrees (values s) (typed_values s)) (g : (s : State) → Agrees (printing s) (typed_printing s))
  where
    abbrev print : Printing → Typing Operand
    print p = judged (printed l.line p.format p.values)

    applied_if : (b : Bool) (x : Called) (s : State)
        → Agrees ((if b then (printing ruled_by rule_at l.at print) else (values ruled_by rule_at l.at
        (applied l.line x))) s)
        ((if b then (typed_printing >>> print) else (typed_values >>> applied l.line x)) s)
    applied_if true x s = ruled_agrees l.at print (g s)
    applied_if false x s = ruled_agrees l.at (applied l.line x) (h s)

    applied_agrees : (x : Called) (s : State)
        → Agrees (applied_to l values printing (Some x) s) (c.applied_to l.line typed_values typed_printing x s)
    applied_agrees x s = applied_if (is_printf x) x s

format_agrees : (literal : Option (List Name)) (n : ℕ) (operand : Judging State Operand) (typed : Typing Operand)
    (s : State) → Agrees (operand s) (typed s) → Agrees (format literal n operand s) (c.format_by literal typed s)
format_agrees (Some names) n operand typed s e = record { by = refl }
format_agrees None n operand typed s e = made_agrees another (value_agrees n e)

-- declarators

scope_by : {A : Type 0} (n : ℕ) (j : Judgement State A) (x : Answer (State × A)) → Agree j x
    → Agrees (with_scope n j) (x >>= λ r. Ok (
      record r.0 { environment = without_parameters n r.0.environment },
      (r.1, parameters_in r.0.environment),
    ))
scope_by n j (Ok r) e = record { by = ap (with_scope n) e }
scope_by n j (Err f) e = record {
  by = (e.0, ap (option_map (λ x. (x, parameters_in j.state.environment))) e.1);
}

abbrev left_scope : {A : Type 0} → (variables : ℕ) → State × A → Answer (State × (A × ParameterScope))
left_scope n r = Ok (
  record r.0 { environment = without_parameters n r.0.environment },
  (r.1, parameters_in r.0.environment),
)

abbrev typed_scope : {A : Type 0} → Typing A → Typing (A × ParameterScope)
typed_scope typed s = typed (in_scope s) >>= left_scope s.environment.variables

abbrev function_made : State × Shape → State × (List (List TypeWord) × ParameterScope) → Answer (State × Shape)
function_made r q = Ok (q.0, function_shape (r.1, q.1))

function_agrees : (d : Judging State Shape) (typed : Typing Shape) (ps : Judging State (List (List TypeWord)))
    (typed_ps : Typing (List (List TypeWord))) (s : State) → Agrees (d s) (typed s)
    → ((s : State) → Agrees (ps s) (typed_ps s))
    → Agrees (made function_shape (with_second (d s) (scoped ps)))
    (typed s >>= λ r. (typed_ps (in_scope r.0) >>= λ q. (left_scope r.0.environment.variables q >>= function_made r)))
function_agrees d typed ps typed_ps s e h =
    subst (Agrees (made function_shape (with_second (d s) (scoped ps))))
    (under (typed s) (λ r. in_turn (typed_ps (in_scope r.0)) (left_scope r.0.environment.variables) (function_made r)))
    (two_made {y = typed_scope typed_ps} function_shape e
    (λ s. scope_by s.environment.variables (ps (in_scope s)) (typed_ps (in_scope s)) (h (in_scope s)).by))

-- specifiers

abbrev tag_rule : (line : ℕ) → Tag × Entries → Typing Tag
tag_rule line v = tag_completed line v.0 v.1

abbrev tagged_with : Gathered → State × Tag → Answer (State × Gathered)
tagged_with g p = Ok (p.0, with_tag p.1 g)

structure_agrees : (g : Gathered) (line n : ℕ) (j : Judgement State Tag) (x : Answer (State × Tag))
    (ms : Judging State Entries) (typed : Typing Entries) → Agrees j x → ((s : State) → Agrees (ms s) (typed s))
    → Adds (with_added with_tag g (followed (with_second j ms) (rule_at n (tag_rule line))))
    (x >>= λ r. (typed r.0 >>= λ q. (tag_completed line r.1 q.1 q.0 >>= tagged_with g)))
structure_agrees g line n j x ms typed e h =
    subst (Adds (with_added with_tag g (followed (with_second j ms) (rule_at n (tag_rule line)))))
    (in_turn x (λ r. (typed r.0 >>= λ q. tag_rule line (r.1, q.1) q.0)) (tagged_with g)
    ∙ under x (λ r. in_turn (typed r.0) (λ q. tag_rule line (r.1, q.1) q.0) (tagged_with g)))
    (adding_agrees with_tag g (two_ruled n (tag_rule line) e h))

abbrev add_enumeration : Tag × Option ℕ → Gathered → Gathered
add_enumeration v = with_tag v.0

enumeration_agrees : (g : Gathered) (j : Judgement State Tag) (x : Answer (State × Tag))
    (es : Judging State (Option ℕ)) (first : Typing (Option ℕ)) (more : Option ℕ → Typing (Option ℕ)) → Agrees j x
    → ((s : State) → Agrees (es s) (first s >>= λ r. more r.1 r.0))
    → Adds (with_added add_enumeration g (with_second j es))
    (x >>= λ r. (first r.0 >>= λ q. (more q.1 q.0 >>= λ p. Ok (p.0, with_tag r.1 g))))
enumeration_agrees g j x es first more e h =
    subst (Adds (with_added add_enumeration g (with_second j es)))
    (pair_first x (λ s. first s >>= λ r. more r.1 r.0) (λ v s. Ok (s, add_enumeration v g))
    ∙ under x (λ r. in_turn (first r.0) (λ q. more q.1 q.0) (λ p. Ok (p.0, with_tag r.1 g))))
    (adding_agrees add_enumeration g (pair_agrees e h))

-- members

abbrev member_rule : Specification × Shape → Entries → State → Answer (State × Entries)
member_rule v es = judged (member_added v.0 v.1 es)

member_agrees : (n : ℕ) (spec : Specification) (es : Entries) (s : State) (j : Judging State Shape)
    (typed : Typing Shape)
    → Agrees (j s) (typed s) → Adds (member n (Some spec) j (s, es)) (c.with_shape spec es typed s)
member_agrees n spec es s j typed e =
    subst (Adds (member n (Some spec) j (s, es)))
    (in_turn (typed s) (λ r. Ok (r.0, (spec, r.1))) (λ r. member_rule r.1 es r.0))
    (adding_by_agrees n member_rule es (made_agrees (λ sh. (spec, sh)) e))

abbrev member_specifiers : Specification → Typing Specification
member_specifiers spec = judged (λ s. member_specified spec)

declared_agree : (n : ℕ) (es : Entries) (j : Judgement State Specification) (x : Answer (State × Specification))
    (next : Option Specification → Judging (State × Entries) (Unit {0}))
    (typed : Specification → Entries → Typing Entries) → Agrees j x
    → ((spec : Specification) (es : Entries) (s : State) → Adds (next (Some spec) (s, es)) (typed spec es s))
    → Adds (followed (along_with es (followed j (rule_at n member_specifiers))) next)
    (x >>= λ r. (member_specifiers r.1 r.0 >>= λ q. typed q.1 es q.0))
declared_agree n es j x next typed e h =
    subst (Adds (followed (along_with es (followed j (rule_at n member_specifiers))) next))
    (in_turn x (λ r. member_specifiers r.1 r.0) (λ q. typed q.1 es q.0))
    (along_then next typed es (ruled_agrees n member_specifiers e) h)

-- lists of values and of types

item_agrees : {A : Type 0} (j : Judgement State A) (x : Answer (State × A)) (before : List A)
    (more : Judging (State × List A) (Unit {0})) (typed : List A → Typing (List A)) → Agrees j x
    → ((before : List A) (s : State) → Adds (more (s, before)) (typed before s))
    → Adds (followed (with_added at_end before j) (λ done. more))
    (x >>= λ r. typed (before ++ r.1 ∷ []) r.0)
item_agrees j x before more typed e h =
    subst (Adds (followed (with_added at_end before j) (λ done. more)))
    (in_turn x (λ r. Ok (r.0, before ++ r.1 ∷ [])) (λ q. typed q.1 q.0))
    (onward_agrees more typed (adding_agrees at_end before e) h)

nothing_added : {X : Type 0} (s : State) (x : X)
    → Adds (record { violations = []; state = (s, x); known = Some tt }) (Ok (s, x))
nothing_added s x = record { by = record { by = refl } }

mutual
  pub operand_agrees : (is : Bool) (e : Expression) (s : State) → Agrees (operand is e s) (typing.typed is e s)
  operand_agrees is (t.identifier x) s = answer_agrees x.position.at s (named is (name_of x) x.position.line s)
  operand_agrees is (t.integer x) s = record { by = refl }
  operand_agrees is (t.character x) s = record { by = refl }
  operand_agrees is (t.strings x more) s =
      answer_agrees x.position.at s (literal is (literal_bytes (spellings x more)) x.position.line s)
  operand_agrees is (t.parenthesized l e r) s =
      ruled_agrees l.at (λ o. judged (λ s. enclosed l.line o)) (operand_agrees is e s)
  operand_agrees is (t.subscript a l b r) s =
      two_ruled l.at (λ v. judged (indexed l.line v.0 v.1)) (value_agrees (token_of a) (operand_agrees is a s))
      (λ u. value_agrees (token_of b) (operand_agrees is b u))
  operand_agrees is (t.call f l args r) s =
      followed_agrees (applied_to l (argument_values is args) (printed_values is args))
      (c.applied_to l.line (typing.argument_values is args) (typing.printed_values is args))
      (callee_agrees is (plain_name f) (token_of f) (operand is f) (typing.typed is f) s (operand_agrees is f s))
      (λ x u. applied_agrees l (argument_values is args) (typing.argument_values is args)
      (printed_values is args) (typing.printed_values is args) (λ v. arguments_agree is args v)
      (λ v. printed_agree is args v) x u)
  operand_agrees is (t.member e w at x) s =
      ruled_agrees at.at (accessed w at.line (name_of x)) (operand_agrees is e s)
  operand_agrees is (t.postfix e w at) s =
      ruled_agrees at.at (λ o. judged (stepped_by (step_form w) fixity.Postfix at.line o)) (operand_agrees is e s)
  operand_agrees is (t.unary w at e) s =
      ruled_agrees at.at (prefixed is (prefix_form_of w) at.line) (operand_agrees is e s)
  operand_agrees is (t.sizeof_expression at e) s =
      ruled_agrees at.at (λ o. judged (sized at.line (type_in o))) (operand_agrees false e s)
  operand_agrees is (t.sizeof_type at l x r) s =
      ruled_agrees at.at (λ type. judged (sized at.line type)) (type_name_agrees x s)
  operand_agrees is (t.cast l x r e) s =
      two_ruled l.at (λ v. judged (cast_to l.line v.0 v.1)) (type_name_agrees x s)
      (λ u. value_agrees (token_of e) (operand_agrees is e u))
  operand_agrees is (t.binary a w at b) s =
      two_ruled at.at (λ v. judged (combined (binary_form_of w) at.line v.0 v.1)) (value_agrees (token_of a)
      (operand_agrees is a s))
      (λ u. value_agrees (token_of b) (operand_agrees is b u))
  operand_agrees is (t.conditional x q a colon b) s =
      three_ruled q.at (λ v. judged (chosen q.line v.0.0 v.0.1 v.1)) (value_agrees (token_of x) (operand_agrees is x s))
      (λ u. value_agrees (token_of a) (operand_agrees is a u)) (λ u. value_agrees (token_of b) (operand_agrees is b u))
  operand_agrees is (t.assignment a w at b) s =
      two_ruled at.at (λ v. judged (assigned_by (assignment_form_of w) at.line v.0 v.1)) (operand_agrees is a s)
      (λ u. value_agrees (token_of b) (operand_agrees is b u))

  arguments_agree : (is : Bool) (x : Arguments) (s : State)
      → Agrees (argument_values is x s) (typing.argument_values is x s)
  arguments_agree is t.no_arguments s = record { by = refl }
  arguments_agree is (t.arguments e more) s =
      list_agrees (item_agrees _ _ [] (more_values is more) (typing.more_values is more)
      (value_agrees (token_of e) (operand_agrees is e s)) (λ vs u. more_values_agree is more vs u))

  more_values_agree : (is : Bool) (x : MoreArguments) (vs : List Value) (s : State)
      → Adds (more_values is x (s, vs)) (typing.more_values is x vs s)
  more_values_agree is t.end_of_arguments vs s = nothing_added s vs
  more_values_agree is (t.more_arguments at e more) vs s =
      item_agrees _ _ vs (more_values is more) (typing.more_values is more) (value_agrees (token_of e)
      (operand_agrees is e s))
      (λ vs u. more_values_agree is more vs u)

  printed_agree : (is : Bool) (x : Arguments) (s : State)
      → Agrees (printed_values is x s) (typing.printed_values is x s)
  printed_agree is t.no_arguments s = record { by = refl }
  printed_agree is (t.arguments e more) s =
      two_made printing_with
      (format_agrees (literal_alone e) (token_of e) (operand is e) (typing.typed is e) s (operand_agrees is e s))
      (λ u. list_agrees (more_values_agree is more [] u))

  pub type_name_agrees : (x : TypedDeclarator) (s : State) → Agrees (type_name x s) (typing.type_name x s)
  type_name_agrees (t.typed specs d) s =
      two_ruled (name_token (first_token specs) d) (λ v. judged (type_named v.0 v.1))
      (made_agrees (specified (first_line specs))
      (list_agrees (gathered_agrees false (first_line specs) specs nothing_gathered s)))
      (λ u. shape_agrees false d u)

  pub shape_agrees : (is : Bool) (d : Declarator) (s : State) → Agrees (shape is d s) (typing.shape is d s)
  shape_agrees is (t.named x) s = record { by = refl }
  shape_agrees is t.unnamed s = record { by = refl }
  shape_agrees is (t.pointer at consts d) s =
      made_agrees (with_derivation (to_pointer (has_words consts))) (shape_agrees is d s)
  shape_agrees is (t.grouped l d r) s = shape_agrees is d s
  shape_agrees is (t.open_array d l r) s = made_agrees (with_derivation to_open_array) (shape_agrees is d s)
  shape_agrees is (t.array d l e r) s =
      two_made array_shape (shape_agrees is d s) (λ u. value_agrees (token_of e) (operand_agrees false e u))
  shape_agrees is (t.function d l ps r) s =
      function_agrees (shape is d) (typing.shape is d) (parameter_types (is && is_plain_name d) ps)
      (typing.parameter_types (is && is_plain_name d) ps) s (shape_agrees is d s)
      (λ u. parameters_agree (is && is_plain_name d) ps u)

  parameters_agree : (is : Bool) (x : Parameters) (s : State)
      → Agrees (parameter_types is x s) (typing.parameter_types is x s)
  parameters_agree is t.no_parameters s = record { by = refl }
  parameters_agree is (t.void_parameters at) s = record { by = refl }
  parameters_agree is (t.parameters x more) s =
      list_agrees (item_agrees _ _ [] (more_types is more) (typing.more_types is more) (parameter_agrees is x s)
      (λ ts u. more_types_agree is more ts u))

  more_types_agree : (is : Bool) (x : MoreParameters) (ts : List (List TypeWord)) (s : State)
      → Adds (more_types is x (s, ts)) (typing.more_types is x ts s)
  more_types_agree is t.end_of_parameters ts s = nothing_added s ts
  more_types_agree is (t.more_parameters at x more) ts s =
      item_agrees _ _ ts (more_types is more) (typing.more_types is more) (parameter_agrees is x s)
      (λ ts u. more_types_agree is more ts u)

  parameter_agrees : (is : Bool) (x : TypedDeclarator) (s : State)
      → Agrees (parameter_type is x s) (typing.parameter_type is x s)
  parameter_agrees is (t.typed specs d) s =
      two_ruled (name_token (first_token specs) d) (λ v. parameter is v.0 v.1)
      (made_agrees (specified (first_line specs))
      (list_agrees (gathered_agrees false (first_line specs) specs nothing_gathered s)))
      (λ u. shape_agrees false d u)

  pub gathered_agrees : (is : Bool) (line : ℕ) (x : Specifiers) (g : Gathered) (s : State)
      → Adds (gathered is line x (s, g)) (typing.gathered is line x g s)
  gathered_agrees is line t.no_specifiers g s = nothing_added s g
  gathered_agrees is line (t.specifiers x more) g s =
      onward_agrees (gathered is line more) (typing.gathered is line more) (specifier_agrees is line x g s)
      (λ g u. gathered_agrees is line more g u)

  specifier_agrees : (is : Bool) (line : ℕ) (x : Specifier) (g : Gathered) (s : State)
      → Adds (specifier is line x (s, g)) (typing.with_specifier is line x g s)
  specifier_agrees is line (t.keyword w at) g s = record { by = record { by = refl } }
  specifier_agrees is line (t.typedef_name x) g s =
      adding_agrees with_named g
      (answer_agrees x.position.at s (judged (typedef_type (name_of x) x.position.line) s))
  specifier_agrees is line (t.structure w at x) g s =
      adding_agrees with_tag g (answer_agrees at.at s (tagged_as is (tag_kind w) (name_of x) line s))
  specifier_agrees is line (t.structure_body w at x l ms r) g s =
      structure_agrees g line at.at _ _ _ (typing.with_members ms no_entries)
      (answer_agrees at.at s (begun_as (tag_kind w) (tag_name x) line s))
      (λ u. list_agrees (members_agree ms no_entries u))
  specifier_agrees is line (t.enumeration at x) g s =
      adding_agrees with_tag g (answer_agrees at.at s (tagged_as is kind.Enumeration (name_of x) line s))
  specifier_agrees is line (t.enumeration_body at x l e more comma r) g s =
      enumeration_agrees g _ _ _ (typing.enumerator (Some 0) e) (typing.more_enumerators more)
      (answer_agrees at.at s (begun_as kind.Enumeration (tag_name x) line s))
      (λ u. list_agrees (onward_agrees (more_enumerators more) (typing.more_enumerators more)
      (enumerator_agrees e (Some 0) u) (λ n v. enumerators_agree more n v)))

  members_agree : (x : Members) (es : Entries) (s : State)
      → Adds (members x (s, es)) (typing.with_members x es s)
  members_agree t.no_members es s = nothing_added s es
  members_agree (t.members m more) es s =
      onward_agrees (members more) (typing.with_members more) (declared_members_agree m es s)
      (λ es u. members_agree more es u)

  declared_members_agree : (x : Member) (es : Entries) (s : State)
      → Adds (declared_members x (s, es)) (typing.with_member x es s)
  declared_members_agree (t.member_declaration specs d more at) es s =
      declared_agree (first_token specs) es _ _
      (λ spec. member (name_token (first_token specs) d) spec (shape false d) onward more_members spec more)
      (λ spec es. c.with_shape spec es (typing.shape false d) >>> λ es. typing.with_more_declared spec more es)
      (made_agrees (specified (first_line specs))
      (list_agrees (gathered_agrees false (first_line specs) specs nothing_gathered s)))
      (λ spec es u. onward_agrees (more_members (Some spec) more) (typing.with_more_declared spec more)
      (member_agrees (name_token (first_token specs) d) spec es u (shape false d) (typing.shape false d)
      (shape_agrees false d u))
      (λ es v. more_members_agree spec more es v))

  more_members_agree : (spec : Specification) (x : MoreDeclarators) (es : Entries) (s : State)
      → Adds (more_members (Some spec) x (s, es)) (typing.with_more_declared spec x es s)
  more_members_agree spec t.end_of_declarators es s = nothing_added s es
  more_members_agree spec (t.more_declarators at d more) es s =
      onward_agrees (more_members (Some spec) more) (typing.with_more_declared spec more)
      (member_agrees (name_token at.at d) spec es s (shape false d) (typing.shape false d) (shape_agrees false d s))
      (λ es u. more_members_agree spec more es u)

  enumerator_agrees : (x : Enumerator) (next : Option ℕ) (s : State)
      → Adds (enumerator x (s, next)) (typing.enumerator next x s)
  enumerator_agrees (t.plain x) next s =
      record { by = answer_agrees x.position.at (s, next) (added (enumerated_as (name_of x) x.position.line next s)) }
  enumerator_agrees (t.valued x at e) next s =
      adding_by_agrees x.position.at (λ v next. enumerated_as (name_of x) x.position.line (enumeration_value v)) next
      (value_agrees (token_of e) (operand_agrees false e s))

  enumerators_agree : (x : MoreEnumerators) (next : Option ℕ) (s : State)
      → Adds (more_enumerators x (s, next)) (typing.more_enumerators x next s)
  enumerators_agree t.end_of_enumerators next s = nothing_added s next
  enumerators_agree (t.more_enumerators at x more) next s =
      onward_agrees (more_enumerators more) (typing.more_enumerators more) (enumerator_agrees x next s)
      (λ n u. enumerators_agree more n u)

pub specification_agrees : (is : Bool) (specs : Specifiers) (s : State)
    → Agrees (specification is specs s) (typing.specification is specs s)
specification_agrees is specs s =
    made_agrees (specified (first_line specs))
    (list_agrees (gathered_agrees is (first_line specs) specs nothing_gathered s))
