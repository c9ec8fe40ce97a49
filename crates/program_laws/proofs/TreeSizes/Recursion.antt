-- What expressions are typed to has at most 3 nodes for each of their words, and declarators and specifiers make none
-- but for their words (C99 6.5, 6.7).
use Rattle.std.proofs.Common.{◌≡◌, ℕ, ◌+◌, ◌*◌, ◌≤◌, Bool, true, false, ◌&&◌, List, [], ◌∷◌, ◌++◌, Option, Some, None}
use Rattle.std.proofs.Common.{arith, if◌then◌else◌, length}
use Rattle.std.specs.Prelude.{Ok}
use Rattle.c_syntax.specs.Formed.{is_plain_name}
use Rattle.c_syntax.specs.Tree.{Arguments, Declarator, Enumerator, Expression, Member, Members, MoreArguments}
use Rattle.c_syntax.specs.Tree.{MoreDeclarators, MoreEnumerators, MoreParameters, Parameters, Specifier, Specifiers}
use Rattle.c_syntax.specs.Tree.{TypedDeclarator}
use Rattle.c_syntax.specs.Tree as t
use Rattle.c_tree.specs.declared.c_type.TypeWord.{TypeWord}
use Rattle.c_tree.specs.declared.expression.Fixity.TheVariants as fixity
use Rattle.c_faults.specs.declared.fault.Rule.TheVariants.{LargeType, MisplacedStorage}
use Rattle.c_faults.specs.Answer.{Answer, violates, ◌>>=◌}
use Rattle.c_rules.specs.Types.{unqualified}
use Rattle.c_rules.specs.Values.{Value}
use Rattle.c_place_rules.specs.Places.{type_in}
use Rattle.c_scope.specs.declared.meaning.Tag.{Tag}
use Rattle.c_scope.specs.declared.meaning.Tag.TheVariants as tag
use Rattle.c_scope.specs.declared.tags.TagKind.TheVariants as kind
use Rattle.c_scope.specs.Enumerators.{enumerated}
use Rattle.c_scope.specs.Environment.{declared_in, with_block}
use Rattle.c_scope.specs.Names.{Name}
use Rattle.c_scope.specs.Tags.{begins, tagged}
use Rattle.c_declarators.specs.Adjusted.{adjusted}
use Rattle.c_declarators.specs.Derivations.{BuiltType}
use Rattle.c_scope.specs.Declaring.{Declaration}
use Rattle.c_scope.specs.declared.tags.TagKind.{TagKind}
use Rattle.c_declarator_typing.specs.Declarators.{Shape, built_in, declaring, is_misplaced, nameless_parameter}
use Rattle.c_declarator_typing.specs.Declarators.{parameter}
use Rattle.c_declarator_typing.specs.Declarators.{parameter_built, parameter_declaration, type_named}
use Rattle.c_declarator_typing.specs.Members.{Entries, Entry, member_added, member_specified, no_entries}
use Rattle.c_declarator_typing.specs.Members.{structure_completed}
use Rattle.c_declarator_typing.specs.Members.{tag_completed, with_structure}
use Rattle.c_operand_typing.specs.Operators.{assignment_form_of, binary_form_of, prefix_form_of, step_form}
use Rattle.c_operand_typing.specs.Primaries.{literal_bytes}
use Rattle.c_declarator_typing.specs.Sizes.{enumeration_value}
use Rattle.c_declarator_typing.specs.Specifications.{Gathered, Specification, nothing_gathered, tag_kind, typedef_type}
use Rattle.c_typing_state.specs.State.{State, Typing}
use Rattle.c_expression_typing.specs.Constructs.{begun_as, enumerated_as, literal_alone, plain_name, specified_by}
use Rattle.c_expression_typing.specs.Constructs.{tagged_as, valued, with_shape}
use Rattle.c_expression_typing.specs.Lines.{first_line, name_of, spellings, tag_name}
use Rattle.c_expression_typing.specs.Typed.{argument_values, enumerator, gathered, more_enumerators, more_types}
use Rattle.c_expression_typing.specs.Typed.{more_values, parameter_type, parameter_types, printed_values, shape}
use Rattle.c_expression_typing.specs.Typed.{specification, type_name, typed, with_member, with_members}
use Rattle.c_expression_typing.specs.Typed.{with_more_declared, with_specifier}
use Rattle.program_laws.specs.TreeSizes.AtMost.{AtMost, in_state_size, no_size, operand_size, value_size, values_size}
use Rattle.program_laws.specs.TreeSizes.Nodes.{nodes}
use Rattle.program_laws.specs.TreeSizes.WordCounts.{words_in, words_in_arguments, words_in_declarator}
use Rattle.program_laws.specs.TreeSizes.WordCounts.{words_in_enumerator}
use Rattle.program_laws.specs.TreeSizes.WordCounts.{words_in_member, words_in_members, words_in_more_arguments}
use Rattle.program_laws.specs.TreeSizes.WordCounts.{words_in_more_declarators, words_in_more_enumerators}
use Rattle.program_laws.specs.TreeSizes.WordCounts.{words_in_more_parameters, words_in_parameters, words_in_specifier}
use Rattle.program_laws.specs.TreeSizes.WordCounts.{words_in_specifiers, words_in_typed}
use Rattle.program_laws.proofs.TreeSizes.Bounded.{anything, gives, more, refuses, then_gives}
use Rattle.program_laws.proofs.TreeSizes.Operators.{enclosed_nodes}
use Rattle.program_laws.proofs.TreeSizes.Steps.{accessed_nodes, applied_to_nodes, assigned_by_nodes, called_by_nodes}
use Rattle.program_laws.proofs.TreeSizes.Steps.{cast_to_nodes, chosen_nodes, combined_nodes, format_nodes}
use Rattle.program_laws.proofs.TreeSizes.Steps.{indexed_by_nodes}
use Rattle.program_laws.proofs.TreeSizes.Steps.{integer_nodes, judged_gives, literal_nodes, named_nodes, prefixed_nodes}
use Rattle.program_laws.proofs.TreeSizes.Steps.{printing_size, sized_nodes, stepped_by_nodes, valued_nodes}

pub positive : (e : Expression) → 1 ≤ words_in e
positive (t.identifier x) = omega arith
positive (t.integer x) = omega arith
positive (t.character x) = omega arith
positive (t.strings x more) = omega arith
positive (t.parenthesized l e r) = omega arith
positive (t.subscript a l b r) = omega arith
positive (t.call f l args r) = omega arith
positive (t.member e w at x) = omega arith
positive (t.postfix e w at) = omega arith
positive (t.unary w at e) = omega arith
positive (t.sizeof_expression at e) = omega arith
positive (t.sizeof_type at l x r) = omega arith
positive (t.cast l x r e) = omega arith
positive (t.binary a w at b) = omega arith
positive (t.conditional c q a colon b) = omega arith
positive (t.assignment a w at b) = omega arith

values_added : (vs : List Value) (v : Value) → values_size (vs ++ v ∷ []) ≡ values_size vs + (1 + value_size v)
values_added [] v = omega arith
values_added (x ∷ vs) v = omega (arith, values_added vs v)

-- steps that make no nodes

pub judged_nothing : {A : Type 0} (s : State) (a : Answer A)
    → AtMost (in_state_size no_size) (length s.literals) (a >>= λ x. Ok (s, x))
judged_nothing s a = judged_gives s (anything a) (omega arith)

specified_nodes : {n : ℕ} (specs : Specifiers) (gathering : Typing Gathered) (s : State)
    → AtMost (in_state_size no_size) n (gathering s) → AtMost (in_state_size no_size) n (specified_by specs gathering s)
specified_nodes specs gathering s h = then_gives h (λ r g. gives g)

tagged_nodes : (is_alone : Bool) (k : TagKind) (name : Name) (line : ℕ) (s : State)
    → AtMost (in_state_size no_size) (length s.literals) (tagged_as is_alone k name line s)
tagged_nodes is_alone k name line s =
    then_gives (anything (tagged is_alone k name line s.environment)) (λ r h. gives (omega arith))

begun_nodes : (k : TagKind) (name : Option Name) (line : ℕ) (s : State)
    → AtMost (in_state_size no_size) (length s.literals) (begun_as k name line s)
begun_nodes k name line s = then_gives (anything (begins k name line s.environment)) (λ r h. gives (omega arith))

enumerated_nodes : (name : Name) (line : ℕ) (value : Option ℕ) (s : State)
    → AtMost (in_state_size no_size) (length s.literals) (enumerated_as name line value s)
enumerated_nodes name line value s =
    then_gives (anything (enumerated name line value s.environment)) (λ r h. gives (omega arith))

abbrev literals_of : State → ℕ
literals_of s = length s.literals

structure_by : (b is_union : Bool) (line n : ℕ) (es : List Entry) (s : State)
    → AtMost literals_of (length s.literals)
    (if b then violates LargeType line else Ok (with_structure is_union n es s))
structure_by true is_union line n es s = refuses
structure_by false is_union line n es s = gives (omega arith)

structure_nodes : (is_union : Bool) (line n : ℕ) (es : List Entry) (s : State)
    → AtMost literals_of (length s.literals) (structure_completed is_union line n es s)
structure_nodes is_union line n es s = structure_by _ is_union line n es s

completed_nodes : (line : ℕ) (x : Tag) (es : Entries) (s : State)
    → AtMost (in_state_size no_size) (length s.literals) (tag_completed line x es s)
completed_nodes line (tag.Structure n) es s =
    then_gives (structure_nodes false line n es.entries s) (λ r h. gives (omega arith))
completed_nodes line (tag.Union n) es s =
    then_gives (structure_nodes true line n es.entries s) (λ r h. gives (omega arith))
completed_nodes line (tag.Enumeration n) es s = gives (omega arith)

with_shape_nodes : {n : ℕ} (spec : Specification) (es : Entries) (shaping : Typing Shape) (s : State)
    → AtMost (in_state_size no_size) n (shaping s) → AtMost (in_state_size no_size) n (with_shape spec es shaping s)
with_shape_nodes spec es shaping s h =
    then_gives h (λ r g. more (omega arith) (judged_nothing r.0 (member_added spec r.1 es r.0)))

pub declaring_nodes : {A : Type 0} (x : A) (d : Declaration) (s : State)
    → AtMost (in_state_size no_size) (length s.literals) (declaring x d s)
declaring_nodes x d s = then_gives (anything (declared_in s.environment d)) (λ r h. gives (omega arith))

named_by : (b in_definition : Bool) (spec : Specification) (x : BuiltType) (name : Name × ℕ) (s : State)
    → AtMost (in_state_size no_size) (length s.literals) (if b then violates MisplacedStorage spec.line
    else declaring (unqualified (adjusted x.type)) (parameter_declaration in_definition spec x name) s)
named_by true in_definition spec x name s = refuses
named_by false in_definition spec x name s =
    declaring_nodes (unqualified (adjusted x.type)) (parameter_declaration in_definition spec x name) s

parameter_by : (in_definition : Bool) (spec : Specification) (b : BuiltType) (name : Option (Name × ℕ)) (s : State)
    → AtMost (in_state_size no_size) (length s.literals) (parameter_built in_definition spec b name s)
parameter_by in_definition spec b None s = judged_nothing s (nameless_parameter spec b)
parameter_by in_definition spec b (Some name) s = named_by (is_misplaced spec) in_definition spec b name s

parameter_nodes : (in_definition : Bool) (spec : Specification) (sh : Shape) (s : State)
    → AtMost (in_state_size no_size) (length s.literals) (parameter in_definition spec sh s)
parameter_nodes in_definition spec sh s = parameter_by in_definition spec (built_in s spec sh) sh.name s

-- in the scope of a parameter list
abbrev inside : State → State
inside s = record s { environment = with_block s.environment }

mutual
  pub typed_nodes : (is : Bool) (e : Expression) (s : State)
      → AtMost (in_state_size operand_size) (length s.literals + 3 * words_in e) (typed is e s)
  typed_nodes is (t.identifier x) s = more (omega arith) (named_nodes is (name_of x) x.position.line s)
  typed_nodes is (t.integer x) s = gives (omega (arith, integer_nodes x.spelling x.position.line))
  typed_nodes is (t.character x) s = gives (omega arith)
  typed_nodes is (t.strings x z) s =
      more (omega arith) (literal_nodes is (literal_bytes (spellings x z)) x.position.line s)
  typed_nodes is (t.parenthesized l e r) s =
      then_gives (typed_nodes is e s) (λ o h. judged_gives o.0 (enclosed_nodes l.line o.1) (omega arith))
  typed_nodes is (t.subscript a l b r) s =
      then_gives (valued_nodes (typed is a) s (typed_nodes is a s)) (λ x h.
      then_gives (valued_nodes (typed is b) x.0 (typed_nodes is b x.0)) (λ y g.
      judged_gives y.0 (indexed_by_nodes l.line x.1 y.1 y.0) (omega arith)))
  typed_nodes is (t.call f l args r) s =
      then_gives (called_by_nodes is (plain_name f) (typed is f) (words_in f) (positive f) s (typed_nodes is f s))
      (λ c h.
      more (omega arith) (applied_to_nodes l.line (argument_values is args) (printed_values is args) c.1 c.0
      (length c.0.literals + (1 + 3 * words_in_arguments args)) (arguments_nodes is args c.0)
      (printed_nodes is args c.0)))
  typed_nodes is (t.member e w at x) s =
      then_gives (typed_nodes is e s) (λ o h. more (omega arith) (accessed_nodes w at.line (name_of x) o.1 o.0))
  typed_nodes is (t.postfix e w at) s =
      then_gives (typed_nodes is e s) (λ o h.
      judged_gives o.0 (stepped_by_nodes (step_form w) fixity.Postfix at.line o.1 o.0) (omega arith))
  typed_nodes is (t.unary w at e) s =
      then_gives (typed_nodes is e s) (λ o h.
      more (omega arith) (prefixed_nodes is (prefix_form_of w) at.line o.1 o.0))
  typed_nodes is (t.sizeof_expression at e) s =
      then_gives (typed_nodes false e s) (λ o h.
      judged_gives o.0 (sized_nodes at.line (type_in o.1) o.0) (omega arith))
  typed_nodes is (t.sizeof_type at l x r) s =
      then_gives (type_name_nodes x s) (λ type h. judged_gives type.0 (sized_nodes at.line type.1 type.0) (omega arith))
  typed_nodes is (t.cast l x r e) s =
      then_gives (type_name_nodes x s) (λ type h.
      then_gives (valued_nodes (typed is e) type.0 (typed_nodes is e type.0)) (λ v g.
      judged_gives v.0 (cast_to_nodes l.line type.1 v.1 v.0) (omega arith)))
  typed_nodes is (t.binary a w at b) s =
      then_gives (valued_nodes (typed is a) s (typed_nodes is a s)) (λ x h.
      then_gives (valued_nodes (typed is b) x.0 (typed_nodes is b x.0)) (λ y g.
      judged_gives y.0 (combined_nodes (binary_form_of w) at.line x.1 y.1 y.0) (omega arith)))
  typed_nodes is (t.conditional c q a colon b) s =
      then_gives (valued_nodes (typed is c) s (typed_nodes is c s)) (λ x h.
      then_gives (valued_nodes (typed is a) x.0 (typed_nodes is a x.0)) (λ y g.
      then_gives (valued_nodes (typed is b) y.0 (typed_nodes is b y.0)) (λ z k.
      judged_gives z.0 (chosen_nodes q.line x.1 y.1 z.1 z.0) (omega arith))))
  typed_nodes is (t.assignment a w at b) s =
      then_gives (typed_nodes is a s) (λ o h.
      then_gives (valued_nodes (typed is b) o.0 (typed_nodes is b o.0)) (λ v g.
      judged_gives v.0 (assigned_by_nodes (assignment_form_of w) at.line o.1 v.1 v.0) (omega arith)))

  arguments_nodes : (is : Bool) (x : Arguments) (s : State)
      → AtMost (in_state_size values_size) (length s.literals + (1 + 3 * words_in_arguments x)) (argument_values is x s)
  arguments_nodes is t.no_arguments s = gives (omega arith)
  arguments_nodes is (t.arguments e z) s =
      then_gives (valued_nodes (typed is e) s (typed_nodes is e s)) (λ v h.
      more (omega arith) (more_values_nodes is z (v.1 ∷ []) v.0))

  more_values_nodes : (is : Bool) (x : MoreArguments) (vs : List Value) (s : State)
      → AtMost (in_state_size values_size) (length s.literals + values_size vs + 3 * words_in_more_arguments x)
      (more_values is x vs s)
  more_values_nodes is t.end_of_arguments vs s = gives (omega arith)
  more_values_nodes is (t.more_arguments at e z) vs s =
      then_gives (valued_nodes (typed is e) s (typed_nodes is e s)) (λ v h.
      more (omega (arith, values_added vs v.1)) (more_values_nodes is z (vs ++ v.1 ∷ []) v.0))

  printed_nodes : (is : Bool) (x : Arguments) (s : State)
      → AtMost (in_state_size printing_size) (length s.literals + (1 + 3 * words_in_arguments x))
      (printed_values is x s)
  printed_nodes is t.no_arguments s = gives (omega arith)
  printed_nodes is (t.arguments e z) s =
      then_gives (format_nodes (literal_alone e) (typed is e) s (omega arith) (typed_nodes is e s)) (λ f h.
      then_gives (more_values_nodes is z [] f.0) (λ vs g. gives (omega arith)))

  pub type_name_nodes : (x : TypedDeclarator) (s : State)
      → AtMost (in_state_size no_size) (length s.literals + 3 * words_in_typed x) (type_name x s)
  type_name_nodes (t.typed specs d) s =
      then_gives (specified_nodes specs (gathered false (first_line specs) specs nothing_gathered) s
      (gathered_nodes false (first_line specs) specs nothing_gathered s)) (λ spec h.
      then_gives (shape_nodes false d spec.0) (λ sh g.
      more (omega arith) (judged_nothing sh.0 (type_named spec.1 sh.1 sh.0))))

  pub shape_nodes : (in_definition : Bool) (d : Declarator) (s : State)
      → AtMost (in_state_size no_size) (length s.literals + 3 * words_in_declarator d) (shape in_definition d s)
  shape_nodes in_definition (t.named x) s = gives (omega arith)
  shape_nodes in_definition t.unnamed s = gives (omega arith)
  shape_nodes in_definition (t.pointer at consts d) s =
      then_gives (shape_nodes in_definition d s) (λ sh h. gives (omega arith))
  shape_nodes in_definition (t.grouped l d r) s = more (omega arith) (shape_nodes in_definition d s)
  shape_nodes in_definition (t.open_array d l r) s =
      then_gives (shape_nodes in_definition d s) (λ sh h. gives (omega arith))
  shape_nodes in_definition (t.array d l e r) s =
      then_gives (shape_nodes in_definition d s) (λ sh h.
      then_gives (valued_nodes (typed false e) sh.0 (typed_nodes false e sh.0)) (λ v g. gives (omega arith)))
  shape_nodes in_definition (t.function d l ps r) s =
      then_gives (shape_nodes in_definition d s) (λ sh h.
      then_gives (parameters_nodes (in_definition && is_plain_name d) ps (inside sh.0)) (λ types g.
      gives (omega arith)))

  parameters_nodes : (in_definition : Bool) (x : Parameters) (s : State)
      → AtMost (in_state_size no_size) (length s.literals + 3 * words_in_parameters x)
      (parameter_types in_definition x s)
  parameters_nodes in_definition t.no_parameters s = gives (omega arith)
  parameters_nodes in_definition (t.void_parameters at) s = gives (omega arith)
  parameters_nodes in_definition (t.parameters x z) s =
      then_gives (parameter_type_nodes in_definition x s) (λ type h.
      more (omega arith) (more_types_nodes in_definition z (type.1 ∷ []) type.0))

  more_types_nodes : (in_definition : Bool) (x : MoreParameters) (types : List (List TypeWord)) (s : State)
      → AtMost (in_state_size no_size) (length s.literals + 3 * words_in_more_parameters x)
      (more_types in_definition x types s)
  more_types_nodes in_definition t.end_of_parameters types s = gives (omega arith)
  more_types_nodes in_definition (t.more_parameters at x z) types s =
      then_gives (parameter_type_nodes in_definition x s) (λ type h.
      more (omega arith) (more_types_nodes in_definition z (types ++ type.1 ∷ []) type.0))

  parameter_type_nodes : (in_definition : Bool) (x : TypedDeclarator) (s : State)
      → AtMost (in_state_size no_size) (length s.literals + 3 * words_in_typed x) (parameter_type in_definition x s)
  parameter_type_nodes in_definition (t.typed specs d) s =
      then_gives (specified_nodes specs (gathered false (first_line specs) specs nothing_gathered) s
      (gathered_nodes false (first_line specs) specs nothing_gathered s)) (λ spec h.
      then_gives (shape_nodes false d spec.0) (λ sh g.
      more (omega arith) (parameter_nodes in_definition spec.1 sh.1 sh.0)))

  pub gathered_nodes : (is_alone : Bool) (line : ℕ) (x : Specifiers) (g : Gathered) (s : State)
      → AtMost (in_state_size no_size) (length s.literals + 3 * words_in_specifiers x) (gathered is_alone line x g s)
  gathered_nodes is_alone line t.no_specifiers g s = gives (omega arith)
  gathered_nodes is_alone line (t.specifiers x z) g s =
      then_gives (specifier_nodes is_alone line x g s) (λ r h.
      more (omega arith) (gathered_nodes is_alone line z r.1 r.0))

  specifier_nodes : (is_alone : Bool) (line : ℕ) (x : Specifier) (g : Gathered) (s : State)
      → AtMost (in_state_size no_size) (length s.literals + 3 * words_in_specifier x)
      (with_specifier is_alone line x g s)
  specifier_nodes is_alone line (t.keyword w at) g s = gives (omega arith)
  specifier_nodes is_alone line (t.typedef_name x) g s =
      then_gives (judged_nothing s (typedef_type (name_of x) x.position.line s))
      (λ type h. gives (omega arith))
  specifier_nodes is_alone line (t.structure w at x) g s =
      then_gives (tagged_nodes is_alone (tag_kind w) (name_of x) line s) (λ r h. gives (omega arith))
  specifier_nodes is_alone line (t.structure_body w at x l ms r) g s =
      then_gives (begun_nodes (tag_kind w) (tag_name x) line s) (λ k h.
      then_gives (members_nodes ms no_entries k.0) (λ es i.
      then_gives (completed_nodes line k.1 es.1 es.0) (λ y j. gives (omega arith))))
  specifier_nodes is_alone line (t.enumeration at x) g s =
      then_gives (tagged_nodes is_alone kind.Enumeration (name_of x) line s) (λ r h. gives (omega arith))
  specifier_nodes is_alone line (t.enumeration_body at x l e z comma r) g s =
      then_gives (begun_nodes kind.Enumeration (tag_name x) line s) (λ k h.
      then_gives (enumerator_nodes (Some 0) e k.0) (λ next i.
      then_gives (more_enumerators_nodes z next.1 next.0) (λ next j. gives (omega arith))))

  members_nodes : (x : Members) (es : Entries) (s : State)
      → AtMost (in_state_size no_size) (length s.literals + 3 * words_in_members x) (with_members x es s)
  members_nodes t.no_members es s = gives (omega arith)
  members_nodes (t.members m z) es s =
      then_gives (member_nodes m es s) (λ r h. more (omega arith) (members_nodes z r.1 r.0))

  member_nodes : (x : Member) (es : Entries) (s : State)
      → AtMost (in_state_size no_size) (length s.literals + 3 * words_in_member x) (with_member x es s)
  member_nodes (t.member_declaration specs d z at) es s =
      then_gives (specified_nodes specs (gathered false (first_line specs) specs nothing_gathered) s
      (gathered_nodes false (first_line specs) specs nothing_gathered s)) (λ spec h.
      then_gives (judged_nothing spec.0 (member_specified spec.1)) (λ spec g.
      then_gives (with_shape_nodes spec.1 es (shape false d) spec.0 (shape_nodes false d spec.0)) (λ es k.
      more (omega arith) (more_declared_nodes spec.1 z es.1 es.0))))

  more_declared_nodes : (spec : Specification) (x : MoreDeclarators) (es : Entries) (s : State)
      → AtMost (in_state_size no_size) (length s.literals + 3 * words_in_more_declarators x)
      (with_more_declared spec x es s)
  more_declared_nodes spec t.end_of_declarators es s = gives (omega arith)
  more_declared_nodes spec (t.more_declarators at d z) es s =
      then_gives (with_shape_nodes spec es (shape false d) s (shape_nodes false d s)) (λ r h.
      more (omega arith) (more_declared_nodes spec z r.1 r.0))

  enumerator_nodes : (next : Option ℕ) (x : Enumerator) (s : State)
      → AtMost (in_state_size no_size) (length s.literals + 3 * words_in_enumerator x) (enumerator next x s)
  enumerator_nodes next (t.plain x) s =
      more (omega arith) (enumerated_nodes (name_of x) x.position.line next s)
  enumerator_nodes next (t.valued x at e) s =
      then_gives (valued_nodes (typed false e) s (typed_nodes false e s)) (λ v h.
      more (omega arith) (enumerated_nodes (name_of x) x.position.line (enumeration_value v.1) v.0))

  more_enumerators_nodes : (x : MoreEnumerators) (next : Option ℕ) (s : State)
      → AtMost (in_state_size no_size) (length s.literals + 3 * words_in_more_enumerators x)
      (more_enumerators x next s)
  more_enumerators_nodes t.end_of_enumerators next s = gives (omega arith)
  more_enumerators_nodes (t.more_enumerators at x z) next s =
      then_gives (enumerator_nodes next x s) (λ r h. more (omega arith) (more_enumerators_nodes z r.1 r.0))

pub specification_nodes : (is_alone : Bool) (x : Specifiers) (s : State)
    → AtMost (in_state_size no_size) (length s.literals + 3 * words_in_specifiers x) (specification is_alone x s)
specification_nodes is_alone x s =
    specified_nodes x (gathered is_alone (first_line x) x nothing_gathered) s
    (gathered_nodes is_alone (first_line x) x nothing_gathered s)

-- the laws

pub value_sizes : (is : Bool) (e : Expression) (s : State)
    → AtMost (in_state_size value_size) (length s.literals + 3 * words_in e) (valued (typed is e) s)
value_sizes is e s = valued_nodes (typed is e) s (typed_nodes is e s)

pub value_bound : (is : Bool) (e : Expression) (s behind : State) (v : Value) → valued (typed is e) s ≡ Ok (behind, v)
    → nodes v.tree + length behind.literals ≤ length s.literals + 3 * words_in e
value_bound is e s behind v h = (value_sizes is e s).each (behind, v) h

pub shape_bound : (in_definition : Bool) (d : Declarator) (s behind : State) (sh : Shape)
    → shape in_definition d s ≡ Ok (behind, sh)
    → length behind.literals ≤ length s.literals + 3 * words_in_declarator d
shape_bound in_definition d s behind sh h =
    let low = (shape_nodes in_definition d s).each (behind, sh) h in omega arith

pub specification_bound : (is_alone : Bool) (x : Specifiers) (s behind : State) (spec : Specification)
    → specification is_alone x s ≡ Ok (behind, spec)
    → length behind.literals ≤ length s.literals + 3 * words_in_specifiers x
specification_bound is_alone x s behind spec h =
    let low = (specification_nodes is_alone x s).each (behind, spec) h in omega arith
