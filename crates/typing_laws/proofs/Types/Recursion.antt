-- Whatever is typed has types that are spelled, and leaves such.
use Rattle.std.proofs.Common.{◌≡◌, ℕ, suc, Bool, true, false, ◌&&◌, refl, ap, ◌∙◌, List, [], ◌∷◌, ◌++◌}
use Rattle.std.proofs.Common.{Option, Some, None, if◌then◌else◌, arith}
use Rattle.std.proofs.lemmas.Bool.{and_from}
use Rattle.std.specs.Prelude.{Ok, Err, ◌||◌, is_some}
use Rattle.c_lexer.specs.declared.integer.IntegerConstant.{IntegerConstant}
use Rattle.c_lexer.specs.Constants.{constant_of}
use Rattle.c_syntax.specs.Formed.{are_named_parameters, has_name, has_named_parameters, is_named_parameter}
use Rattle.c_syntax.specs.Formed.{is_plain_name}
use Rattle.c_syntax.specs.Tree.{Expression, Arguments, MoreArguments, TypedDeclarator, Declarator, Parameters}
use Rattle.c_syntax.specs.Tree.{MoreParameters, Specifiers, Specifier, MoreDeclarators, Enumerator, MoreEnumerators}
use Rattle.c_syntax.specs.Tree as t
use Rattle.c_tree.specs.declared.c_type.TypeWord.{TypeWord}
use Rattle.c_tree.specs.declared.expression.Fixity.TheVariants as fixity
use Rattle.c_faults.specs.declared.fault.Rule.TheVariants.{MisplacedStorage}
use Rattle.c_faults.specs.Answer.{Answer, violates, ◌>>=◌}
use Rattle.c_rules.specs.Values.{Value}
use Rattle.c_place_rules.specs.Operands.{Operand, enclosed}
use Rattle.c_place_rules.specs.Places.{type_in}
use Rattle.c_declarators.specs.Derivations.{to_array, to_open_array, to_pointer}
use Rattle.c_scope.specs.declared.meaning.Tag.{Tag}
use Rattle.c_scope.specs.declared.meaning.Tag.TheVariants as tag
use Rattle.c_scope.specs.declared.tags.TagKind.TheVariants as kind
use Rattle.c_scope.specs.Names.{is_empty}
use Rattle.c_declarator_typing.specs.Declarators.{has_storage, parameter, scope_left, scope_opened, type_named}
use Rattle.c_declarator_typing.specs.Declarators.{with_derivation, with_function}
use Rattle.c_declarator_typing.specs.Members.{Entries, member_specified, no_entries, tag_completed}
use Rattle.c_operand_typing.specs.Operators.{assigned_by, assignment_form_of, binary_form_of, combined, indexed}
use Rattle.c_operand_typing.specs.Operators.{prefix_form_of, step_form, stepped_by}
use Rattle.c_operand_typing.specs.Primaries.{integer_as, literal_bytes}
use Rattle.c_declarator_typing.specs.Sizes.{count_in, enumeration_value}
use Rattle.c_declarator_typing.specs.Specifications.{Gathered, Specification, nothing_gathered, specified, tag_kind}
use Rattle.c_declarator_typing.specs.Specifications.{tag_type}
use Rattle.c_declarator_typing.specs.Specifications.{typedef_type, with_named}
use Rattle.c_typing_state.specs.State.{State, Typing, done, extents, judged, ◌>>>◌}
use Rattle.c_expression_typing.specs.Constructs.{accessed, applied_to, begun_as, called_by, cast_to, chosen}
use Rattle.c_expression_typing.specs.Constructs.{enumerated_as, format_by, has_words, literal_alone, plain_name}
use Rattle.c_expression_typing.specs.Constructs.{prefixed, sized, specified_by, tagged_as, valued, with_shape}
use Rattle.c_expression_typing.specs.Lines.{first_line, name_of, spellings, tag_name}
use Rattle.c_expression_typing.specs.Typed.{argument_values, enumerator, gathered, more_enumerators, more_types}
use Rattle.c_expression_typing.specs.Typed.{more_values, parameter_type, parameter_types, printed_values, shape}
use Rattle.c_expression_typing.specs.Typed.{specification, type_name, typed, with_member, with_members}
use Rattle.c_expression_typing.specs.Typed.{with_more_declared, with_specifier}
use Rattle.typing_laws.specs.Validity.Regular.{are_regular, are_regular_members, are_regular_parameters}
use Rattle.typing_laws.specs.Validity.Regular.{are_regular_specifiers, is_regular, is_regular_declarator}
use Rattle.typing_laws.specs.Validity.Regular.{is_regular_enumerator, is_regular_member, is_regular_name}
use Rattle.typing_laws.specs.Validity.Regular.{is_regular_specifier, more_are_regular, more_are_regular_declarators}
use Rattle.typing_laws.specs.Validity.Regular.{more_are_regular_enumerators, more_are_regular_parameters}
use Rattle.typing_laws.specs.Validity.More.{AreMore}
use Rattle.typing_laws.specs.Validity.Sound.{IsFormed, is_sized_array}
use Rattle.typing_laws.specs.Validity.Steps.{Structures}
use Rattle.typing_laws.proofs.Validity.Common.{first, second}
use Rattle.typing_laws.proofs.Validity.Sound.{IfAnswer, more_more}
use Rattle.typing_laws.specs.Declarators.Extending.{Extending, Extends}
use Rattle.typing_laws.specs.Declarators.Given.{HasType, HasWords, IsBegun, IsGathered, IsIntIf, IsShapeOf, IsSpecified}
use Rattle.typing_laws.specs.Declarators.Given.{OperandHasWords, ValueHasWords, anything}
use Rattle.typing_laws.proofs.Declarators.Chained.{inside, judged_extends}
use Rattle.typing_laws.proofs.Declarators.Members.{Members, members_kept}
use Rattle.typing_laws.proofs.Declarators.Parameters.{within, within_block, within_formed}
use Rattle.typing_laws.proofs.Declarators.Recursion.{after, also, arguments_extend, begun_stays, enumerator_extend}
use Rattle.typing_laws.proofs.Declarators.Recursion.{gathered_extends, less, member_by, member_extend, members_extend}
use Rattle.typing_laws.proofs.Declarators.Recursion.{more_enumerators_extend, more_extend, name_extends}
use Rattle.typing_laws.proofs.Declarators.Recursion.{parameter_extend}
use Rattle.typing_laws.proofs.Declarators.Recursion.{parameters_extend, printed_extend, shape_extends, shape_then}
use Rattle.typing_laws.proofs.Declarators.Recursion.{specified_extends, specifier_extends, typed_extends, with_type}
use Rattle.typing_laws.proofs.Declarators.Steps.{called_extends, format_extends, valued_extends}
use Rattle.typing_laws.proofs.Declarators.Tags.{BegunFrom, begun_extends}
use Rattle.typing_laws.proofs.Declarators.Words.{int_word}
use Rattle.typing_laws.specs.SpelledTypes.Spelled.{IsValueType}
use Rattle.typing_laws.specs.Types.Typed.{AreSpelled, Each, IsCalled, IsSpelled, IsSpelledIf, OfGathered}
use Rattle.typing_laws.specs.Types.Typed.{OfType}
use Rattle.typing_laws.specs.Types.Typed.{OfSpecification, OfValueType, OfValueTypes, Typed, Types}
use Rattle.typing_laws.specs.Types.Typed.{nothing}
use Rattle.typing_laws.proofs.Types.Built.{specified_spelled}
use Rattle.typing_laws.proofs.Types.Declarators.{AreEntriesOf, GivesTypes, IsDeclared, declared_kept}
use Rattle.typing_laws.proofs.Types.Declarators.{entries_kept}
use Rattle.typing_laws.proofs.Types.Declarators.{function_typed, shaped_entries, with_one}
use Rattle.typing_laws.proofs.Types.Kept.{each_append, each_map, kinded_kept, operand_kept, spelled_kept}
use Rattle.typing_laws.proofs.Types.Kept.{value_kept}
use Rattle.typing_laws.proofs.Types.Operators.{assigned_type, cast_to_type, chosen_type, combined_type}
use Rattle.typing_laws.proofs.Types.Operators.{enclosed_type, indexed_type, sized_type, stepped_by_type}
use Rattle.typing_laws.proofs.Types.Parameters.{GivesParameter, IsKinded, parameter_typed, type_named_spelled}
use Rattle.typing_laws.proofs.Types.Parameters.{within_types}
use Rattle.typing_laws.proofs.Types.Steps.{accessed_typed, applied_to_typed, called_typed, enumerated_typed}
use Rattle.typing_laws.proofs.Types.Steps.{format_typed, judged_typed, literal_typed, named_typed}
use Rattle.typing_laws.proofs.Types.Steps.{prefixed_typed}
use Rattle.typing_laws.proofs.Types.Steps.{then_typed, typedef_spelled, valued_typed, values_kept}
use Rattle.typing_laws.proofs.Types.Steps.{weaker_typed}
use Rattle.typing_laws.proofs.Types.Tags.{begun_types, completed_types, tagged_types}

value_then : {B : Type 0} (s : State) (operand : Typing Operand) (h : Structures → B → Type 0) (next : Value → Typing B)
    → Extending false s OperandHasWords (operand s) → Typed OfType (operand s)
    → ((u : State) (v : Value) → Extends false s u → HasWords v.tree → Types u → OfValueType (extents u) v
    → Typed h (next v u))
    → Typed h ((valued operand >>> next) s)
value_then s operand h next e is k =
    then_typed false s ValueHasWords OfValueType h (valued operand s) next (valued_extends false s operand e)
    (valued_typed s operand e is) k

-- specifiers

specified_typed : (s : State) (specs : Specifiers) (a : Answer (State × Gathered)) → Typed OfGathered a
    → Typed OfSpecification (a >>= λ r. Ok (r.0, specified (first_line specs) r.1))
specified_typed s specs (Ok r) h = (h.0, specified_spelled (extents r.0) (first_line specs) r.1 h.1)
specified_typed s specs (Err f) h = tt

tag_spelled : (es : Structures) (x : Tag) → IsSpelled es (tag_type x)
tag_spelled es (tag.Structure n) = refl
tag_spelled es (tag.Union n) = refl
tag_spelled es (tag.Enumeration n) = refl

tagged_then : (g : Gathered) (a : Answer (State × Tag)) → Typed nothing a
    → Typed OfGathered (a >>= λ r. done (with_named (tag_type r.1) g) r.0)
tagged_then g (Ok r) h = (h.0, tag_spelled (extents r.0) r.1)
tagged_then g (Err f) h = tt

named_then : (s : State) → Types s → (g : Gathered) (a : Answer (List TypeWord)) → IfAnswer (IsSpelled (extents s)) a
    → Typed OfGathered (a >>= with_type s >>= λ r. done (with_named r.1 g) r.0)
named_then s types g (Ok type) h = (types, h)
named_then s types g (Err f) h = tt

gathered_kept : (es more : Structures) → AreMore es more → (g : Gathered) → OfGathered es g → OfGathered more g
gathered_kept es more h g is = by g.type is
  where
    by : (o : Option (List TypeWord)) → IsSpelledIf es o → IsSpelledIf more o
    by None is = tt
    by (Some type) is = spelled_kept es more h type is

member_typed_by : (s : State) → Types s → (is : Bool) (line : ℕ) (spec : Specification)
    → OfSpecification (extents s) spec
    → Typed OfSpecification ((if is then violates MisplacedStorage line else Ok spec) >>= λ x. Ok (s, x))
member_typed_by s types true line spec h = tt
member_typed_by s types false line spec h = (types, h)

abbrev Kinds : Structures → List (List TypeWord) → Type 0
Kinds es types = Each (IsKinded es) types

-- the types of parameters behind some others
abbrev GivesBehind : (earlier defined named : Bool) → Structures → List (List TypeWord) → Type 0
GivesBehind earlier defined named es types =
    AreSpelled es types × (earlier ≡ true → defined ≡ true → named ≡ true → Kinds es types)

constant_typed : (es : Structures) (line : ℕ) (o : Option IntegerConstant) → IsValueType es (integer_as line o).type
constant_typed es line None = record { spelled = refl; readable = refl }
constant_typed es line (Some c) = record { spelled = refl; readable = refl }

mutual
  pub typed_types : (is : Bool) (e : Expression) → is_regular e ≡ true → (s : State) → IsFormed s → Types s
      → Typed OfType (typed is e s)
  typed_types is (t.identifier x) c s formed types = named_typed is (name_of x) x.position.line s types
  typed_types is (t.integer x) c s formed types =
      (types, constant_typed (extents s) x.position.line (constant_of x.spelling))
  typed_types is (t.character x) c s formed types = (types, record { spelled = refl; readable = refl })
  typed_types is (t.strings x more) c s formed types =
      literal_typed is (literal_bytes (spellings x more)) x.position.line s types
  typed_types is (t.parenthesized l e r) c s formed types =
      then_typed false s OperandHasWords OfType OfType (typed is e s) (λ o. judged (λ s. enclosed l.line o))
      (typed_extends is e c s formed) (typed_types is e c s formed types)
      (λ u o g h types k. judged_typed OfType u (enclosed l.line o) types (enclosed_type (extents u) l.line o k))
  typed_types is (t.subscript a l b r) c s formed types =
      value_then s (typed is a) OfType (λ x. valued (typed is b) >>> λ y. judged (indexed l.line x y))
      (typed_extends is a (first _ _ c) s formed) (typed_types is a (first _ _ c) s formed types)
      (λ u x e hx types k. value_then u (typed is b) OfType (λ y. judged (indexed l.line x y))
      (typed_extends is b (second _ _ c) u e.formed) (typed_types is b (second _ _ c) u e.formed types)
      (λ w y g hy types k'. judged_typed OfType w (indexed l.line x y w) types
      (indexed_type w l.line x y (value_kept (extents u) (extents w) g.more x.type k) k')))
  typed_types is (t.call f l args r) c s formed types =
      then_typed false s anything IsCalled OfType (called_by is (plain_name f) (typed is f) s)
      (applied_to l.line (argument_values is args) (printed_values is args))
      (called_extends false is (plain_name f) (typed is f) s formed (typed_extends is f (first _ _ c) s formed))
      (called_typed is (plain_name f) (typed is f) s types (typed_extends is f (first _ _ c) s formed)
      (typed_types is f (first _ _ c) s formed types))
      (λ u k e h types is_called. applied_to_typed l.line (argument_values is args) (printed_values is args) k u
      is_called (arguments_extend is args (second _ _ c) u e.formed)
      (arguments_typed is args (second _ _ c) u e.formed types) (printed_extend is args (second _ _ c) u e.formed)
      (printed_typed is args (second _ _ c) u e.formed types))
  typed_types is (t.member e w at x) c s formed types =
      then_typed false s OperandHasWords OfType OfType (typed is e s) (accessed w at.line (name_of x))
      (typed_extends is e c s formed) (typed_types is e c s formed types)
      (λ u o g h types k. accessed_typed u types w at.line (name_of x) o k)
  typed_types is (t.postfix e w at) c s formed types =
      then_typed false s OperandHasWords OfType OfType (typed is e s)
      (λ o. judged (stepped_by (step_form w) fixity.Postfix at.line o)) (typed_extends is e c s formed)
      (typed_types is e c s formed types)
      (λ u o g h types k. judged_typed OfType u (stepped_by (step_form w) fixity.Postfix at.line o u) types
      (stepped_by_type u (step_form w) fixity.Postfix at.line o k))
  typed_types is (t.unary w at e) c s formed types =
      then_typed false s OperandHasWords OfType OfType (typed is e s) (prefixed is (prefix_form_of w) at.line)
      (typed_extends is e c s formed) (typed_types is e c s formed types)
      (λ u o g h types k. prefixed_typed is u types (prefix_form_of w) at.line o k)
  typed_types is (t.sizeof_expression at e) c s formed types =
      then_typed false s OperandHasWords OfType OfType (typed false e s) (λ o. judged (sized at.line (type_in o)))
      (typed_extends false e c s formed) (typed_types false e c s formed types)
      (λ u o g h types k. judged_typed OfType u (sized at.line (type_in o) u) types (sized_type u at.line (type_in o)))
  typed_types is (t.sizeof_type at l x r) c s formed types =
      then_typed false s anything IsSpelled OfType (type_name x s) (λ type. judged (sized at.line type))
      (name_extends x c s formed) (name_typed x c s formed types)
      (λ u type e h types k. judged_typed OfType u (sized at.line type u) types (sized_type u at.line type))
  typed_types is (t.cast l x r e) c s formed types =
      then_typed false s anything IsSpelled OfType (type_name x s)
      (λ type. valued (typed is e) >>> λ v. judged (cast_to l.line type v)) (name_extends x (first _ _ c) s formed)
      (name_typed x (first _ _ c) s formed types)
      (λ u type g h types k. value_then u (typed is e) OfType (λ v. judged (cast_to l.line type v))
      (typed_extends is e (second _ _ c) u g.formed) (typed_types is e (second _ _ c) u g.formed types)
      (λ w v g' hv types k'. judged_typed OfType w (cast_to l.line type v w) types
      (cast_to_type w l.line type v (spelled_kept (extents u) (extents w) g'.more type k))))
  typed_types is (t.binary a w at b) c s formed types =
      value_then s (typed is a) OfType
      (λ x. valued (typed is b) >>> λ y. judged (combined (binary_form_of w) at.line x y))
      (typed_extends is a (first _ _ c) s formed) (typed_types is a (first _ _ c) s formed types)
      (λ u x e hx types k. value_then u (typed is b) OfType (λ y. judged (combined (binary_form_of w) at.line x y))
      (typed_extends is b (second _ _ c) u e.formed) (typed_types is b (second _ _ c) u e.formed types)
      (λ v y g hy types k'. judged_typed OfType v (combined (binary_form_of w) at.line x y v) types
      (combined_type v (binary_form_of w) at.line x y (value_kept (extents u) (extents v) g.more x.type k) k')))
  typed_types is (t.conditional q at a colon b) c s formed types =
      value_then s (typed is q) OfType
      (λ x. valued (typed is a) >>> λ y. valued (typed is b) >>> λ z. judged (chosen at.line x y z))
      (typed_extends is q (first _ _ (first _ _ c)) s formed)
      (typed_types is q (first _ _ (first _ _ c)) s formed types)
      (λ u x e hx types k. value_then u (typed is a) OfType
      (λ y. valued (typed is b) >>> λ z. judged (chosen at.line x y z))
      (typed_extends is a (second _ _ (first _ _ c)) u e.formed)
      (typed_types is a (second _ _ (first _ _ c)) u e.formed types)
      (λ v y g hy types k'. value_then v (typed is b) OfType (λ z. judged (chosen at.line x y z))
      (typed_extends is b (second _ _ c) v g.formed) (typed_types is b (second _ _ c) v g.formed types)
      (λ w z g' hz types k''. judged_typed OfType w (chosen at.line x y z w) types
      (chosen_type w at.line x y z (value_kept (extents v) (extents w) g'.more y.type k') k''))))
  typed_types is (t.assignment a w at b) c s formed types =
      then_typed false s OperandHasWords OfType OfType (typed is a s)
      (λ o. valued (typed is b) >>> λ v. judged (assigned_by (assignment_form_of w) at.line o v))
      (typed_extends is a (first _ _ c) s formed) (typed_types is a (first _ _ c) s formed types)
      (λ u o e ho types k. value_then u (typed is b) OfType
      (λ v. judged (assigned_by (assignment_form_of w) at.line o v)) (typed_extends is b (second _ _ c) u e.formed)
      (typed_types is b (second _ _ c) u e.formed types)
      (λ z v g hv types k'. judged_typed OfType z (assigned_by (assignment_form_of w) at.line o v z) types
      (assigned_type z (assignment_form_of w) at.line o v (operand_kept (extents u) (extents z) g.more o k))))

  arguments_typed : (is : Bool) (args : Arguments) → are_regular args ≡ true → (s : State) → IsFormed s → Types s
      → Typed OfValueTypes (argument_values is args s)
  arguments_typed is t.no_arguments c s formed types = (types, tt)
  arguments_typed is (t.arguments e more) c s formed types =
      value_then s (typed is e) OfValueTypes (λ v. more_values is more (v ∷ []))
      (typed_extends is e (first _ _ c) s formed) (typed_types is e (first _ _ c) s formed types)
      (λ u v g h types k. more_typed is more (second _ _ c) (v ∷ []) u g.formed types (k, tt))

  more_typed : (is : Bool) (more : MoreArguments) → more_are_regular more ≡ true → (vs : List Value) (s : State)
      → IsFormed s → Types s → OfValueTypes (extents s) vs → Typed OfValueTypes (more_values is more vs s)
  more_typed is t.end_of_arguments c vs s formed types hs = (types, hs)
  more_typed is (t.more_arguments at e more) c vs s formed types hs =
      value_then s (typed is e) OfValueTypes (λ v. more_values is more (vs ++ v ∷ []))
      (typed_extends is e (first _ _ c) s formed) (typed_types is e (first _ _ c) s formed types)
      (λ u v g h types k. more_typed is more (second _ _ c) (vs ++ v ∷ []) u g.formed types
      (each_append (OfValueType (extents u)) vs (v ∷ []) (values_kept (extents s) (extents u) g.more vs hs) (k, tt)))

  printed_typed : (is : Bool) (args : Arguments) → are_regular args ≡ true → (s : State) → IsFormed s → Types s
      → Typed nothing (printed_values is args s)
  printed_typed is t.no_arguments c s formed types = (types, tt)
  printed_typed is (t.arguments e more) c s formed types =
      then_typed false s anything nothing nothing (format_by (literal_alone e) (typed is e) s)
      (λ format. more_values is more [] >>> λ vs. done (record { format = Some format; values = vs }))
      (format_extends false (literal_alone e) (typed is e) s formed (typed_extends is e (first _ _ c) s formed))
      (format_typed (literal_alone e) (typed is e) s types (typed_extends is e (first _ _ c) s formed)
      (typed_types is e (first _ _ c) s formed types))
      (λ u f g h types k. then_typed false u anything OfValueTypes nothing (more_values is more [] u)
      (λ vs. done (record { format = Some f; values = vs })) (more_extend is more (second _ _ c) [] u g.formed)
      (more_typed is more (second _ _ c) [] u g.formed types tt) (λ w vs g' h' types k'. (types, tt)))

  pub name_typed : (x : TypedDeclarator) → is_regular_name x ≡ true → (s : State) → IsFormed s → Types s
      → Typed IsSpelled (type_name x s)
  name_typed (t.typed specs d) c s formed types =
      then_typed false s IsSpecified OfSpecification IsSpelled
      (specified_by specs (gathered false (first_line specs) specs nothing_gathered) s)
      (λ spec. shape false d >>> λ sh. judged (type_named spec sh))
      (specified_extends s specs (gathered false (first_line specs) specs nothing_gathered)
      (gathered_extends false (first_line specs) specs (first _ _ c) nothing_gathered tt s formed))
      (specified_typed s specs (gathered false (first_line specs) specs nothing_gathered s)
      (gathered_typed false (first_line specs) specs (first _ _ c) nothing_gathered tt s tt formed types))
      (λ u spec e h types k. then_typed false u (λ w sh. IsShapeOf w d sh) (IsDeclared false d) IsSpelled
      (shape false d u) (λ sh. judged (type_named spec sh)) (shape_extends false d (second _ _ c) u e.formed)
      (shape_typed false d (second _ _ c) u e.formed types)
      (λ w sh g is types k'. judged_typed IsSpelled w (type_named spec sh w) types
      (type_named_spelled w spec sh (spelled_kept (extents u) (extents w) g.more spec.type k) k'.shape)))

  pub shape_typed : (in_definition : Bool) (d : Declarator) → is_regular_declarator d ≡ true → (s : State)
      → IsFormed s → Types s → Typed (IsDeclared in_definition d) (shape in_definition d s)
  shape_typed in_definition (t.named x) c s formed types = (
    types,
    record {
      shape = record { derived = tt; parameters = tt };
      kinds = λ e g. absurd cc;
      plain = λ e. refl;
    },
  )
  shape_typed in_definition t.unnamed c s formed types = (
    types,
    record {
      shape = record { derived = tt; parameters = tt };
      kinds = λ e g. absurd cc;
      plain = λ e. refl;
    },
  )
  shape_typed in_definition (t.pointer at consts d) c s formed types =
      then_typed false s (λ u sh. IsShapeOf u d sh) (IsDeclared in_definition d)
      (IsDeclared in_definition (t.pointer at consts d)) (shape in_definition d s)
      (λ sh. done (with_derivation (to_pointer (has_words consts)) sh)) (shape_extends in_definition d c s formed)
      (shape_typed in_definition d c s formed types)
      (λ u sh e h types k. (
        types,
        with_one in_definition d (t.pointer at consts d) (extents u) sh k (λ g. g) refl (to_pointer (has_words consts))
            tt,
      ))
  shape_typed in_definition (t.grouped l d r) c s formed types =
      weaker_typed (IsDeclared in_definition d) (IsDeclared in_definition (t.grouped l d r)) (shape in_definition d s)
      (λ es sh is. record { shape = is.shape; kinds = is.kinds; plain = is.plain })
      (shape_typed in_definition d c s formed types)
  shape_typed in_definition (t.open_array d l r) c s formed types =
      then_typed false s (λ u sh. IsShapeOf u d sh) (IsDeclared in_definition d)
      (IsDeclared in_definition (t.open_array d l r)) (shape in_definition d s)
      (λ sh. done (with_derivation to_open_array sh)) (shape_extends in_definition d c s formed)
      (shape_typed in_definition d c s formed types)
      (λ u sh e h types k. (
        types,
        with_one in_definition d (t.open_array d l r) (extents u) sh k (λ g. g) refl to_open_array tt,
      ))
  shape_typed in_definition (t.array d l e r) c s formed types =
      then_typed false s (λ u sh. IsShapeOf u d sh) (IsDeclared in_definition d)
      (IsDeclared in_definition (t.array d l e r)) (shape in_definition d s)
      (λ sh. valued (typed false e) >>> λ v. done (with_derivation (to_array (count_in v)) sh))
      (shape_extends in_definition d (first _ _ c) s formed) (shape_typed in_definition d (first _ _ c) s formed types)
      (λ u sh g h types k. value_then u (typed false e) (IsDeclared in_definition (t.array d l e r))
      (λ v. done (with_derivation (to_array (count_in v)) sh)) (typed_extends false e (second _ _ c) u g.formed)
      (typed_types false e (second _ _ c) u g.formed types)
      (λ w v g' hv types k'. (
        types,
        with_one in_definition d (t.array d l e r) (extents w) sh
            (declared_kept in_definition d (extents u) (extents w) g'.more sh k) (λ g. g) refl (to_array (count_in v))
            tt,
      )))
  shape_typed in_definition (t.function d l ps r) c s formed types =
      then_typed false s (λ u sh. IsShapeOf u d sh) (IsDeclared in_definition d)
      (IsDeclared in_definition (t.function d l ps r)) (shape in_definition d s)
      (λ sh. scope_opened >>> λ before. parameter_types (in_definition && is_plain_name d) ps
      >>> λ types. scope_left before >>> λ scope. done (with_function types scope sh))
      (shape_extends in_definition d (first _ _ c) s formed) (shape_typed in_definition d (first _ _ c) s formed types)
      (λ u sh e h types k. function_typed in_definition d l r ps u sh k
      (parameter_types (in_definition && is_plain_name d) ps (within u))
      (parameters_extend (in_definition && is_plain_name d) ps (second _ _ c) (within u)
      (within_formed u e.formed) (within_block u))
      (parameters_typed (in_definition && is_plain_name d) ps (second _ _ c) (within u) (within_formed u e.formed)
      (within_block u) (within_types u types)))

  parameters_typed : (in_definition : Bool) (ps : Parameters) → are_regular_parameters ps ≡ true → (s : State)
      → IsFormed s → is_empty s.environment.names.outer ≡ false → Types s
      → Typed (GivesTypes in_definition (has_named_parameters ps)) (parameter_types in_definition ps s)
  parameters_typed in_definition t.no_parameters c s formed inner types = (types, (tt, λ e g. tt))
  parameters_typed in_definition (t.void_parameters at) c s formed inner types = (types, (tt, λ e g. tt))
  parameters_typed in_definition (t.parameters x more) c s formed inner types =
      then_typed true s anything (GivesParameter in_definition (is_named_parameter x))
      (GivesTypes in_definition (is_named_parameter x && are_named_parameters more)) (parameter_type in_definition x s)
      (λ type. more_types in_definition more (type ∷ []))
      (parameter_extend in_definition x (first _ _ c) s formed inner)
      (one_typed in_definition x (first _ _ c) s formed inner types)
      (λ u type e h types k. weaker_typed (GivesBehind (is_named_parameter x) in_definition (are_named_parameters more))
      (GivesTypes in_definition (is_named_parameter x && are_named_parameters more))
      (more_types in_definition more (type ∷ []) u)
      (λ es types is. (is.0, λ i n. is.1 (first _ _ n) i (second _ _ n)))
      (more_parameters_typed (is_named_parameter x) in_definition more (second _ _ c) (type ∷ []) u e.formed
      (ap is_empty e.outer ∙ inner) types (k.0, tt) (λ n i. (k.1 i n, tt))))

  more_parameters_typed : (earlier : Bool) (in_definition : Bool) (more : MoreParameters)
      → more_are_regular_parameters more ≡ true → (before : List (List TypeWord)) (s : State) → IsFormed s
      → is_empty s.environment.names.outer ≡ false → Types s → AreSpelled (extents s) before
      → (earlier ≡ true → in_definition ≡ true → Kinds (extents s) before)
      → Typed (GivesBehind earlier in_definition (are_named_parameters more)) (more_types in_definition more before s)
  more_parameters_typed earlier in_definition t.end_of_parameters c before s formed inner types own kinds =
      (types, (own, λ n i g. kinds n i))
  more_parameters_typed earlier in_definition (t.more_parameters at x more) c before s formed inner types own kinds =
      then_typed true s anything (GivesParameter in_definition (is_named_parameter x))
      (GivesBehind earlier in_definition (is_named_parameter x && are_named_parameters more))
      (parameter_type in_definition x s) (λ type. more_types in_definition more (before ++ type ∷ []))
      (parameter_extend in_definition x (first _ _ c) s formed inner)
      (one_typed in_definition x (first _ _ c) s formed inner types)
      (λ u type e h types k. weaker_typed
      (GivesBehind (earlier && is_named_parameter x) in_definition (are_named_parameters more))
      (GivesBehind earlier in_definition (is_named_parameter x && are_named_parameters more))
      (more_types in_definition more (before ++ type ∷ []) u)
      (λ es types is. (is.0, λ n i g. is.1 (and_from earlier (is_named_parameter x) n (first _ _ g)) i (second _ _ g)))
      (more_parameters_typed (earlier && is_named_parameter x) in_definition more (second _ _ c)
      (before ++ type ∷ []) u e.formed (ap is_empty e.outer ∙ inner) types
      (each_append (IsSpelled (extents u)) before (type ∷ [])
      (each_map (IsSpelled (extents s)) (IsSpelled (extents u)) (spelled_kept (extents s) (extents u) e.more) before
      own) (k.0, tt))
      (λ n i. each_append (IsKinded (extents u)) before (type ∷ [])
      (each_map (IsKinded (extents s)) (IsKinded (extents u)) (kinded_kept (extents s) (extents u) e.more) before
      (kinds (first _ _ n) i)) (k.1 i (second _ _ n), tt))))

  one_typed : (in_definition : Bool) (x : TypedDeclarator) → is_regular_name x ≡ true → (s : State) → IsFormed s
      → is_empty s.environment.names.outer ≡ false → Types s
      → Typed (GivesParameter in_definition (is_named_parameter x)) (parameter_type in_definition x s)
  one_typed in_definition (t.typed specs d) c s formed inner types =
      then_typed true s IsSpecified OfSpecification (GivesParameter in_definition (has_name d))
      (specified_by specs (gathered false (first_line specs) specs nothing_gathered) s)
      (λ spec. shape false d >>> λ sh. parameter in_definition spec sh)
      (inside s IsSpecified (specified_by specs (gathered false (first_line specs) specs nothing_gathered) s)
      (specified_extends s specs (gathered false (first_line specs) specs nothing_gathered)
      (gathered_extends false (first_line specs) specs (first _ _ c) nothing_gathered tt s formed)))
      (specified_typed s specs (gathered false (first_line specs) specs nothing_gathered s)
      (gathered_typed false (first_line specs) specs (first _ _ c) nothing_gathered tt s tt formed types))
      (λ u spec e h types k. then_typed true u (λ w sh. IsShapeOf w d sh) (IsDeclared false d)
      (GivesParameter in_definition (has_name d)) (shape false d u) (λ sh. parameter in_definition spec sh)
      (inside u (λ w sh. IsShapeOf w d sh) (shape false d u) (shape_extends false d (second _ _ c) u e.formed))
      (shape_typed false d (second _ _ c) u e.formed types)
      (λ w sh g is types k'. weaker_typed (GivesParameter in_definition (is_some sh.name))
      (GivesParameter in_definition (has_name d)) (parameter in_definition spec sh w)
      (λ es type p. (p.0, λ i n. p.1 i (is.named n)))
      (parameter_typed w types (ap is_empty (g.outer ∙ e.outer) ∙ inner) in_definition spec
      (spelled_kept (extents u) (extents w) g.more spec.type k) sh k'.shape)))

  pub gathered_typed : (is_alone : Bool) (line : ℕ) (specs : Specifiers) → are_regular_specifiers specs ≡ true
      → (g : Gathered) → HasType g.type → (s : State) → OfGathered (extents s) g → IsFormed s → Types s
      → Typed OfGathered (gathered is_alone line specs g s)
  gathered_typed is_alone line t.no_specifiers c g has s own formed types = (types, own)
  gathered_typed is_alone line (t.specifiers x more) c g has s own formed types =
      then_typed false s IsGathered OfGathered OfGathered (with_specifier is_alone line x g s)
      (λ g'. gathered is_alone line more g') (specifier_extends is_alone line x (first _ _ c) g has s formed)
      (specifier_typed is_alone line x (first _ _ c) g has s own formed types)
      (λ u g' e h types k. gathered_typed is_alone line more (second _ _ c) g' h u k e.formed types)

  specifier_typed : (is_alone : Bool) (line : ℕ) (x : Specifier) → is_regular_specifier x ≡ true → (g : Gathered)
      → HasType g.type → (s : State) → OfGathered (extents s) g → IsFormed s → Types s
      → Typed OfGathered (with_specifier is_alone line x g s)
  specifier_typed is_alone line (t.keyword w at) c g has s own formed types = (types, own)
  specifier_typed is_alone line (t.typedef_name x) c g has s own formed types =
      named_then s types g (typedef_type (name_of x) x.position.line s)
      (typedef_spelled s types (name_of x) x.position.line)
  specifier_typed is_alone line (t.structure w at x) c g has s own formed types =
      tagged_then g (tagged_as is_alone (tag_kind w) (name_of x) line s)
      (tagged_types s formed types is_alone (tag_kind w) (name_of x) line)
  specifier_typed is_alone line (t.structure_body w at x l ms r) c g has s own formed types =
      then_typed false s (BegunFrom s) nothing OfGathered (begun_as (tag_kind w) (tag_name x) line s)
      (λ tag. with_members ms no_entries >>> λ es. tag_completed line tag es >>> λ tag.
      done (with_named (tag_type tag) g))
      (begun_extends false s formed (tag_kind w) (tag_name x) line)
      (begun_types s formed types (tag_kind w) (tag_name x) line)
      (λ u tag e h types k. then_typed false u (λ v es. Members v (after ms 0) es × IsBegun v tag) AreEntriesOf
      OfGathered (with_members ms no_entries u) (λ es. tag_completed line tag es >>> λ tag.
      done (with_named (tag_type tag) g))
      (also false u (λ v es. Members v (after ms 0) es) (λ v. IsBegun v tag) (with_members ms no_entries u)
      (λ v f. begun_stays u v f tag h.0)
      (members_extend ms (second _ _ c) 0 no_entries u e.formed (record { each = tt; count = omega arith })))
      (members_typed ms (second _ _ c) 0 no_entries u e.formed (record { each = tt; count = omega arith }) types tt)
      (λ v es f k' types own. tagged_then g (tag_completed line tag es v)
      (completed_types v types line tag es own k'.1)))
  specifier_typed is_alone line (t.enumeration at x) c g has s own formed types =
      tagged_then g (tagged_as is_alone kind.Enumeration (name_of x) line s)
      (tagged_types s formed types is_alone kind.Enumeration (name_of x) line)
  specifier_typed is_alone line (t.enumeration_body at x l e more comma r) c g has s own formed types =
      then_typed false s (BegunFrom s) nothing OfGathered (begun_as kind.Enumeration (tag_name x) line s)
      (λ tag. enumerator (Some 0) e >>> λ next. more_enumerators more next >>> λ next.
      done (with_named (tag_type tag) g))
      (begun_extends false s formed kind.Enumeration (tag_name x) line)
      (begun_types s formed types kind.Enumeration (tag_name x) line)
      (λ u tag f h types k. then_typed false u (λ v o. IsIntIf o) nothing OfGathered (enumerator (Some 0) e u)
      (λ next. more_enumerators more next >>> λ next. done (with_named (tag_type tag) g))
      (enumerator_extend (Some 0) (int_word 0 (omega arith)) e (first _ _ c) u f.formed)
      (enumerator_typed (Some 0) e (first _ _ c) u f.formed types)
      (λ v next f' h' types k'. then_typed false v (λ w o. IsIntIf o) nothing OfGathered
      (more_enumerators more next v) (λ next. done (with_named (tag_type tag) g))
      (more_enumerators_extend more (second _ _ c) next h' v f'.formed)
      (more_enumerators_typed more (second _ _ c) next h' v f'.formed types)
      (λ w next f'' h'' types k''. (types, tag_spelled (extents w) tag))))

  members_typed : (ms : t.Members) → are_regular_members ms ≡ true → (n : ℕ) (es : Entries) (s : State) → IsFormed s
      → Members s n es → Types s → AreEntriesOf (extents s) es → Typed AreEntriesOf (with_members ms es s)
  members_typed t.no_members c n es s formed is types own = (types, own)
  members_typed (t.members m more) c n es s formed is types own =
      then_typed false s (λ u es. Members u (suc n) es) AreEntriesOf AreEntriesOf (with_member m es s)
      (λ es. with_members more es) (member_extend m (first _ _ c) n es s formed is)
      (member_typed m (first _ _ c) n es s formed is types own)
      (λ u es e h types k. members_typed more (second _ _ c) (suc n) es u e.formed h types k)

  member_typed : (m : t.Member) → is_regular_member m ≡ true → (n : ℕ) (es : Entries) (s : State) → IsFormed s
      → Members s n es → Types s → AreEntriesOf (extents s) es → Typed AreEntriesOf (with_member m es s)
  member_typed (t.member_declaration specs d more at) c n es s formed is types own =
      then_typed false s IsSpecified OfSpecification AreEntriesOf
      (specified_by specs (gathered false (first_line specs) specs nothing_gathered) s)
      (λ spec. judged (λ s. member_specified spec) >>> λ spec. with_shape spec es (shape false d) >>> λ es.
      with_more_declared spec more es)
      (specified_extends s specs (gathered false (first_line specs) specs nothing_gathered)
      (gathered_extends false (first_line specs) specs (first _ _ (first _ _
      (first _ _ c))) nothing_gathered tt s formed))
      (specified_typed s specs (gathered false (first_line specs) specs nothing_gathered s)
      (gathered_typed false (first_line specs) specs (first _ _ (first _ _ (first _ _ c))) nothing_gathered tt s tt
      formed types))
      (λ u spec e h types k. then_typed false u IsSpecified OfSpecification AreEntriesOf
      (judged (λ s. member_specified spec) u)
      (λ spec. with_shape spec es (shape false d) >>> λ es. with_more_declared spec more es)
      (judged_extends false u IsSpecified (member_specified spec) e.formed
      (member_by u (spec.has_two_storages || has_storage spec.storage) spec.line spec h))
      (member_typed_by u types (spec.has_two_storages || has_storage spec.storage) spec.line spec k)
      (λ v spec f h' types k. then_typed false v (λ u es. Members u (suc n) es) AreEntriesOf AreEntriesOf
      (with_shape spec es (shape false d) v) (λ es. with_more_declared spec more es)
      (shape_then v spec h' n es (members_kept s v
      (more_more (extents s) (extents u) (extents v) e.more f.more) n es is) d
      (second _ _ (first _ _ (first _ _ c))) (shape false d)
      (shape_extends false d (second _ _ (first _ _ c)) v f.formed))
      (shaped_entries v spec k es (entries_kept (extents s) (extents v)
      (more_more (extents s) (extents u) (extents v) e.more f.more) es.entries own) false d (shape false d)
      (shape_extends false d (second _ _ (first _ _ c)) v f.formed)
      (shape_typed false d (second _ _ (first _ _ c)) v f.formed types))
      (λ w es f' is' types own. more_declared_typed spec h' w (spelled_kept (extents v) (extents w) f'.more spec.type k)
      more (second _ _ c) (suc n) es f'.formed is' types own)))

  more_declared_typed : (spec : Specification) → is_sized_array spec.type ≡ true → (s : State)
      → OfSpecification (extents s) spec → (more : MoreDeclarators)
      → more_are_regular_declarators more ≡ true → (n : ℕ) (es : Entries) → IsFormed s → Members s n es
      → Types s → AreEntriesOf (extents s) es → Typed AreEntriesOf (with_more_declared spec more es s)
  more_declared_typed spec sized s k t.end_of_declarators c n es formed is types own = (types, own)
  more_declared_typed spec sized s k (t.more_declarators at d more) c n es formed is types own =
      then_typed false s (λ u es. Members u (suc n) es) AreEntriesOf AreEntriesOf
      (with_shape spec es (shape false d) s) (λ es. with_more_declared spec more es)
      (shape_then s spec sized n es is d (first _ _ (first _ _ c)) (shape false d)
      (shape_extends false d (second _ _ (first _ _ c)) s formed))
      (shaped_entries s spec k es own false d (shape false d)
      (shape_extends false d (second _ _ (first _ _ c)) s formed)
      (shape_typed false d (second _ _ (first _ _ c)) s formed types))
      (λ u es e h types own. more_declared_typed spec sized u
      (spelled_kept (extents s) (extents u) e.more spec.type k) more (second _ _ c) n es e.formed (less u n es h) types
      own)

  enumerator_typed : (next : Option ℕ) → (e : Enumerator) → is_regular_enumerator e ≡ true → (s : State)
      → IsFormed s → Types s → Typed nothing (enumerator next e s)
  enumerator_typed next (t.plain x) c s formed types = enumerated_typed s types (name_of x) x.position.line next
  enumerator_typed next (t.valued x at e) c s formed types =
      value_then s (typed false e) nothing
      (λ v. enumerated_as (name_of x) x.position.line (enumeration_value v)) (typed_extends false e c s formed)
      (typed_types false e c s formed types)
      (λ u v g h types k. enumerated_typed u types (name_of x) x.position.line (enumeration_value v))

  more_enumerators_typed : (more : MoreEnumerators) → more_are_regular_enumerators more ≡ true → (next : Option ℕ)
      → IsIntIf next → (s : State) → IsFormed s → Types s → Typed nothing (more_enumerators more next s)
  more_enumerators_typed t.end_of_enumerators c next is s formed types = (types, tt)
  more_enumerators_typed (t.more_enumerators at x more) c next is s formed types =
      then_typed false s (λ u o. IsIntIf o) nothing nothing (enumerator next x s)
      (λ next. more_enumerators more next) (enumerator_extend next is x (first _ _ c) s formed)
      (enumerator_typed next x (first _ _ c) s formed types)
      (λ u next e h types k. more_enumerators_typed more (second _ _ c) next h u e.formed types)

pub specification_typed : (is_alone : Bool) (specs : Specifiers) → are_regular_specifiers specs ≡ true → (s : State)
    → IsFormed s → Types s → Typed OfSpecification (specification is_alone specs s)
specification_typed is_alone specs c s formed types =
    specified_typed s specs (gathered is_alone (first_line specs) specs nothing_gathered s)
    (gathered_typed is_alone (first_line specs) specs c nothing_gathered tt s tt formed types)
