-- Whatever is typed keeps what each step of typing keeps: expressions, type names, declarators and specifiers, in the
-- order of the tokens (C99 6.5, 6.7). A list of parameters adds at most as many variables as it has parameters, every
-- other construct none.
use Rattle.std.proofs.Common.{ℕ, suc, Bool, false, ◌&&◌, List, [], ◌∷◌, ◌++◌, Option, Some, arith}
use Rattle.c_syntax.specs.Formed.{is_plain_name}
use Rattle.c_syntax.specs.Tree.{Arguments, Declarator, Enumerator, Expression, Member, Members, MoreArguments}
use Rattle.c_syntax.specs.Tree.{MoreDeclarators, MoreEnumerators, MoreParameters, Parameters, Specifier, Specifiers}
use Rattle.c_syntax.specs.Tree.{TypedDeclarator}
use Rattle.c_syntax.specs.Tree as t
use Rattle.c_tree.specs.declared.c_type.TypeWord.{TypeWord}
use Rattle.c_tree.specs.declared.expression.Fixity.TheVariants as fixity
use Rattle.c_rules.specs.Values.{Value}
use Rattle.c_place_rules.specs.Operands.{enclosed}
use Rattle.c_place_rules.specs.Places.{type_in}
use Rattle.c_counts.specs.Counts.{others}
use Rattle.c_scope.specs.declared.tags.TagKind.TheVariants as kind
use Rattle.c_scope.specs.Parameters.{parameters_in}
use Rattle.c_declarator_typing.specs.Declarators.{Shape, type_named, with_function}
use Rattle.c_declarator_typing.specs.Members.{Entries, member_added, member_specified, no_entries}
use Rattle.c_operand_typing.specs.Operators.{assigned_by, assignment_form_of, binary_form_of, combined, indexed}
use Rattle.c_operand_typing.specs.Operators.{prefix_form_of}
use Rattle.c_operand_typing.specs.Operators.{step_form, stepped_by}
use Rattle.c_declarator_typing.specs.Sizes.{enumeration_value}
use Rattle.c_declarator_typing.specs.Specifications.{Gathered, Specification, nothing_gathered, tag_kind, typedef_type}
use Rattle.c_typing_state.specs.State.{State, Typing, judged, ◌>>>◌}
use Rattle.c_expression_typing.specs.Constructs.{cast_to, chosen, literal_alone, plain_name, sized, specified_by}
use Rattle.c_expression_typing.specs.Constructs.{with_shape}
use Rattle.c_expression_typing.specs.Lines.{first_line, name_of, spellings, tag_name}
use Rattle.c_expression_typing.specs.Typed.{argument_values, enumerator, gathered, more_enumerators, more_types}
use Rattle.c_expression_typing.specs.Typed.{more_values, parameter_type, parameter_types, printed_values, shape}
use Rattle.c_expression_typing.specs.Typed.{specification, type_name, typed, with_member, with_members}
use Rattle.c_expression_typing.specs.Typed.{with_more_declared, with_specifier}
use Rattle.typing_laws.proofs.Declarators.Parameters.{within}
use Rattle.typing_laws.proofs.Walks.States.{StateWalk, Walking, done_walks, judged_walks, then_adds, then_walks}
use Rattle.typing_laws.proofs.Walks.Specifiers.{begun_walks, completed_walks, left_walks, tagged_walks}
use Rattle.typing_laws.proofs.Walks.Steps.{accessed_walks, applied_to_walks, called_walks, enumerated_walks}
use Rattle.typing_laws.proofs.Walks.Steps.{format_walks, literal_walks, named_walks, parameter_walks}
use Rattle.typing_laws.proofs.Walks.Steps.{prefixed_walks, valued_walks}

-- how many parameters a list has
abbrev pub parameter_count : Parameters → ℕ
parameter_count t.no_parameters = 0
parameter_count (t.void_parameters at) = 0
parameter_count (t.parameters x more) = suc (others more)

module _ {holds : ℕ → State → State → Type 0} (walk : StateWalk holds) where
  specified_walks : (specs : Specifiers) (gathering : Typing Gathered) (s : State) → Walking walk 0 s (gathering s)
      → Walking walk 0 s (specified_by specs gathering s)
  specified_walks specs gathering s h = then_walks h (λ r. done_walks)

  with_shape_walks : (spec : Specification) (es : Entries) (shaping : Typing Shape) (s : State)
      → Walking walk 0 s (shaping s) → Walking walk 0 s (with_shape spec es shaping s)
  with_shape_walks spec es shaping s h = then_walks h (λ r. judged_walks r.0 (member_added spec r.1 es r.0))

  mutual
    pub typed_walks : (is : Bool) (e : Expression) (s : State) → Walking walk 0 s (typed is e s)
    typed_walks is (t.identifier x) s = named_walks is (name_of x) x.position.line s
    typed_walks is (t.integer x) s = done_walks
    typed_walks is (t.character x) s = done_walks
    typed_walks is (t.strings x z) s = literal_walks is (spellings x z) x.position.line s
    typed_walks is (t.parenthesized l e r) s =
        then_walks (typed_walks is e s) (λ o. judged_walks o.0 (enclosed l.line o.1))
    typed_walks is (t.subscript a l b r) s =
        then_walks (valued_walks (typed is a) s (typed_walks is a s)) (λ x.
        then_walks (valued_walks (typed is b) x.0 (typed_walks is b x.0)) (λ y.
        judged_walks y.0 (indexed l.line x.1 y.1 y.0)))
    typed_walks is (t.call f l args r) s =
        then_walks (called_walks is (plain_name f) (typed is f) s (typed_walks is f s)) (λ c.
        applied_to_walks l.line (argument_values is args) (printed_values is args) c.1 c.0 (arguments_walk is args c.0)
        (printed_walk is args c.0))
    typed_walks is (t.member e w at x) s =
        then_walks (typed_walks is e s) (λ o. accessed_walks w at.line (name_of x) o.1 o.0)
    typed_walks is (t.postfix e w at) s =
        then_walks (typed_walks is e s) (λ o.
        judged_walks o.0 (stepped_by (step_form w) fixity.Postfix at.line o.1 o.0))
    typed_walks is (t.unary w at e) s =
        then_walks (typed_walks is e s) (λ o. prefixed_walks is (prefix_form_of w) at.line o.1 o.0)
    typed_walks is (t.sizeof_expression at e) s =
        then_walks (typed_walks false e s) (λ o. judged_walks o.0 (sized at.line (type_in o.1) o.0))
    typed_walks is (t.sizeof_type at l x r) s =
        then_walks (type_name_walks x s) (λ type. judged_walks type.0 (sized at.line type.1 type.0))
    typed_walks is (t.cast l x r e) s =
        then_walks (type_name_walks x s) (λ type.
        then_walks (valued_walks (typed is e) type.0 (typed_walks is e type.0)) (λ v.
        judged_walks v.0 (cast_to l.line type.1 v.1 v.0)))
    typed_walks is (t.binary a w at b) s =
        then_walks (valued_walks (typed is a) s (typed_walks is a s)) (λ x.
        then_walks (valued_walks (typed is b) x.0 (typed_walks is b x.0)) (λ y.
        judged_walks y.0 (combined (binary_form_of w) at.line x.1 y.1 y.0)))
    typed_walks is (t.conditional c q a colon b) s =
        then_walks (valued_walks (typed is c) s (typed_walks is c s)) (λ x.
        then_walks (valued_walks (typed is a) x.0 (typed_walks is a x.0)) (λ y.
        then_walks (valued_walks (typed is b) y.0 (typed_walks is b y.0)) (λ z.
        judged_walks z.0 (chosen q.line x.1 y.1 z.1 z.0))))
    typed_walks is (t.assignment a w at b) s =
        then_walks (typed_walks is a s) (λ o.
        then_walks (valued_walks (typed is b) o.0 (typed_walks is b o.0)) (λ v.
        judged_walks v.0 (assigned_by (assignment_form_of w) at.line o.1 v.1 v.0)))

    arguments_walk : (is : Bool) (x : Arguments) (s : State) → Walking walk 0 s (argument_values is x s)
    arguments_walk is t.no_arguments s = done_walks
    arguments_walk is (t.arguments e z) s =
        then_walks (valued_walks (typed is e) s (typed_walks is e s)) (λ v. more_values_walk is z (v.1 ∷ []) v.0)

    more_values_walk : (is : Bool) (x : MoreArguments) (vs : List Value) (s : State)
        → Walking walk 0 s (more_values is x vs s)
    more_values_walk is t.end_of_arguments vs s = done_walks
    more_values_walk is (t.more_arguments at e z) vs s =
        then_walks (valued_walks (typed is e) s (typed_walks is e s)) (λ v.
        more_values_walk is z (vs ++ v.1 ∷ []) v.0)

    printed_walk : (is : Bool) (x : Arguments) (s : State) → Walking walk 0 s (printed_values is x s)
    printed_walk is t.no_arguments s = done_walks
    printed_walk is (t.arguments e z) s =
        then_walks (format_walks (literal_alone e) (typed is e) s (typed_walks is e s)) (λ f.
        then_walks (more_values_walk is z [] f.0) (λ vs. done_walks))

    type_name_walks : (x : TypedDeclarator) (s : State) → Walking walk 0 s (type_name x s)
    type_name_walks (t.typed specs d) s =
        then_walks (specified_walks specs (gathered false (first_line specs) specs nothing_gathered) s
        (gathered_walks false (first_line specs) specs nothing_gathered s)) (λ spec.
        then_walks (shape_walks false d spec.0) (λ sh. judged_walks sh.0 (type_named spec.1 sh.1 sh.0)))

    pub shape_walks : (in_definition : Bool) (d : Declarator) (s : State) → Walking walk 0 s (shape in_definition d s)
    shape_walks in_definition (t.named x) s = done_walks
    shape_walks in_definition t.unnamed s = done_walks
    shape_walks in_definition (t.pointer at consts d) s = then_walks (shape_walks in_definition d s) (λ sh. done_walks)
    shape_walks in_definition (t.grouped l d r) s = shape_walks in_definition d s
    shape_walks in_definition (t.open_array d l r) s = then_walks (shape_walks in_definition d s) (λ sh. done_walks)
    shape_walks in_definition (t.array d l e r) s =
        then_walks (shape_walks in_definition d s) (λ sh.
        then_walks (valued_walks (typed false e) sh.0 (typed_walks false e sh.0)) (λ v. done_walks))
    shape_walks in_definition (t.function d l ps r) s =
        then_walks (shape_walks in_definition d s) (λ sh.
        left_walks (λ r. with_function r.1 (parameters_in r.0.environment) sh.1)
        (parameters_walk (in_definition && is_plain_name d) ps (within sh.0)))

    pub parameters_walk : (in_definition : Bool) (x : Parameters) (s : State)
        → Walking walk (parameter_count x) s (parameter_types in_definition x s)
    parameters_walk in_definition t.no_parameters s = done_walks
    parameters_walk in_definition (t.void_parameters at) s = done_walks
    parameters_walk in_definition (t.parameters x z) s =
        then_adds (omega arith) (parameter_type_walks in_definition x s) (λ type.
        more_types_walk in_definition z (type.1 ∷ []) type.0)

    more_types_walk : (in_definition : Bool) (x : MoreParameters) (types : List (List TypeWord)) (s : State)
        → Walking walk (others x) s (more_types in_definition x types s)
    more_types_walk in_definition t.end_of_parameters types s = done_walks
    more_types_walk in_definition (t.more_parameters at x z) types s =
        then_adds (omega arith) (parameter_type_walks in_definition x s) (λ type.
        more_types_walk in_definition z (types ++ type.1 ∷ []) type.0)

    parameter_type_walks : (in_definition : Bool) (x : TypedDeclarator) (s : State)
        → Walking walk 1 s (parameter_type in_definition x s)
    parameter_type_walks in_definition (t.typed specs d) s =
        then_walks (specified_walks specs (gathered false (first_line specs) specs nothing_gathered) s
        (gathered_walks false (first_line specs) specs nothing_gathered s)) (λ spec.
        then_walks (shape_walks false d spec.0) (λ sh. parameter_walks in_definition spec.1 sh.1 sh.0))

    gathered_walks : (is_alone : Bool) (line : ℕ) (x : Specifiers) (g : Gathered) (s : State)
        → Walking walk 0 s (gathered is_alone line x g s)
    gathered_walks is_alone line t.no_specifiers g s = done_walks
    gathered_walks is_alone line (t.specifiers x z) g s =
        then_walks (specifier_walks is_alone line x g s) (λ r. gathered_walks is_alone line z r.1 r.0)

    pub specifier_walks : (is_alone : Bool) (line : ℕ) (x : Specifier) (g : Gathered) (s : State)
        → Walking walk 0 s (with_specifier is_alone line x g s)
    specifier_walks is_alone line (t.keyword w at) g s = done_walks
    specifier_walks is_alone line (t.typedef_name x) g s =
        then_walks (judged_walks s (typedef_type (name_of x) x.position.line s)) (λ type. done_walks)
    specifier_walks is_alone line (t.structure w at x) g s =
        then_walks (tagged_walks is_alone (tag_kind w) (name_of x) line s) (λ r. done_walks)
    specifier_walks is_alone line (t.structure_body w at x l ms r) g s =
        then_walks (begun_walks (tag_kind w) (tag_name x) line s) (λ k.
        then_walks (members_walk ms no_entries k.0) (λ es.
        then_walks (completed_walks line k.1 es.1 es.0) (λ y. done_walks)))
    specifier_walks is_alone line (t.enumeration at x) g s =
        then_walks (tagged_walks is_alone kind.Enumeration (name_of x) line s) (λ r. done_walks)
    specifier_walks is_alone line (t.enumeration_body at x l e z comma r) g s =
        then_walks (begun_walks kind.Enumeration (tag_name x) line s) (λ k.
        then_walks (enumerator_walks (Some 0) e k.0) (λ next.
        then_walks (more_enumerators_walk z next.1 next.0) (λ next. done_walks)))

    members_walk : (x : Members) (es : Entries) (s : State) → Walking walk 0 s (with_members x es s)
    members_walk t.no_members es s = done_walks
    members_walk (t.members m z) es s = then_walks (member_walks m es s) (λ r. members_walk z r.1 r.0)

    member_walks : (x : Member) (es : Entries) (s : State) → Walking walk 0 s (with_member x es s)
    member_walks (t.member_declaration specs d z at) es s =
        then_walks (specified_walks specs (gathered false (first_line specs) specs nothing_gathered) s
        (gathered_walks false (first_line specs) specs nothing_gathered s)) (λ spec.
        then_walks (judged_walks spec.0 (member_specified spec.1)) (λ spec.
        then_walks (with_shape_walks spec.1 es (shape false d) spec.0 (shape_walks false d spec.0)) (λ es.
        more_declared_walk spec.1 z es.1 es.0)))

    more_declared_walk : (spec : Specification) (x : MoreDeclarators) (es : Entries) (s : State)
        → Walking walk 0 s (with_more_declared spec x es s)
    more_declared_walk spec t.end_of_declarators es s = done_walks
    more_declared_walk spec (t.more_declarators at d z) es s =
        then_walks (with_shape_walks spec es (shape false d) s (shape_walks false d s)) (λ r.
        more_declared_walk spec z r.1 r.0)

    enumerator_walks : (next : Option ℕ) (x : Enumerator) (s : State) → Walking walk 0 s (enumerator next x s)
    enumerator_walks next (t.plain x) s = enumerated_walks (name_of x) x.position.line next s
    enumerator_walks next (t.valued x at e) s =
        then_walks (valued_walks (typed false e) s (typed_walks false e s)) (λ v.
        enumerated_walks (name_of x) x.position.line (enumeration_value v.1) v.0)

    more_enumerators_walk : (x : MoreEnumerators) (next : Option ℕ) (s : State)
        → Walking walk 0 s (more_enumerators x next s)
    more_enumerators_walk t.end_of_enumerators next s = done_walks
    more_enumerators_walk (t.more_enumerators at x z) next s =
        then_walks (enumerator_walks next x s) (λ r. more_enumerators_walk z r.1 r.0)

  pub specification_walks : (is_alone : Bool) (specs : Specifiers) (s : State)
      → Walking walk 0 s (specification is_alone specs s)
  specification_walks is_alone specs s =
      specified_walks specs (gathered is_alone (first_line specs) specs nothing_gathered) s
      (gathered_walks is_alone (first_line specs) specs nothing_gathered s)

  -- the declarators of members, behind their specifiers
  pub declared_walk : (spec : Specification) (d : Declarator) (more : MoreDeclarators) (es : Entries) (s : State)
      → Walking walk 0 s
      ((judged (λ s. member_specified spec) >>> λ spec. with_shape spec es (shape false d) >>> λ es.
      with_more_declared spec more es) s)
  declared_walk spec d more es s =
      then_walks (judged_walks s (member_specified spec)) (λ spec.
      then_walks (with_shape_walks spec.1 es (shape false d) spec.0 (shape_walks false d spec.0)) (λ es.
      more_declared_walk spec.1 more es.1 es.0))
