-- The typing of expressions, type names, declarators and specifiers (C99 6.5, 6.7), which contain each other, in the
-- order of the tokens.
use Rattle.std.specs.Prelude.{ℕ, Bool, true, false, ◌&&◌, List, [], ◌∷◌, ◌++◌, Option, Some, None}
use Rattle.c_syntax.specs.declared.position.Position.{Position}
use Rattle.c_syntax.specs.Tree.{Expression, Arguments, MoreArguments, TypedDeclarator, Declarator, Parameters}
use Rattle.c_syntax.specs.Tree.{MoreParameters, Specifiers, Specifier, Members, Member, MoreDeclarators, Enumerator}
use Rattle.c_syntax.specs.Tree.{MoreEnumerators}
use Rattle.c_syntax.specs.Tree as t
use Rattle.c_syntax.specs.Formed.{is_plain_name}
use Rattle.c_tree.specs.declared.c_type.TypeWord.{TypeWord}
use Rattle.c_tree.specs.declared.expression.Fixity.TheVariants as fixity
use Rattle.c_rules.specs.Values.{Value}
use Rattle.c_place_rules.specs.Operands.{Operand, a_value, enclosed}
use Rattle.c_place_rules.specs.Places.{type_in}
use Rattle.c_declarators.specs.Derivations.{to_array, to_open_array, to_pointer}
use Rattle.c_scope.specs.declared.tags.TagKind.TheVariants as kind
use Rattle.c_declarator_typing.specs.Declarators.{Shape, parameter, plain_shape, scope_left, scope_opened, type_named}
use Rattle.c_declarator_typing.specs.Declarators.{with_derivation, with_function}
use Rattle.c_declarator_typing.specs.Members.{Entries, member_specified, no_entries, tag_completed}
use Rattle.c_operand_typing.specs.Operators.{assigned_by, assignment_form_of, binary_form_of, combined, indexed}
use Rattle.c_operand_typing.specs.Operators.{prefix_form_of, step_form, stepped_by}
use Rattle.c_operand_typing.specs.Primaries.{character_constant, integer_constant, literal, literal_bytes, named}
use Rattle.c_declarator_typing.specs.Sizes.{count_in, enumeration_value}
use Rattle.c_declarator_typing.specs.Specifications.{Gathered, Specification, nothing_gathered, tag_kind, tag_type}
use Rattle.c_declarator_typing.specs.Specifications.{typedef_type, with_keyword, with_named}
use Rattle.c_typing_state.specs.State.{State, Typing, done, judged, ◌>>>◌}
use Rattle.c_expression_typing.specs.Constructs.{Printing, accessed, applied_to, begun_as, called_by, cast_to, chosen}
use Rattle.c_expression_typing.specs.Constructs.{literal_alone, plain_name, specified_by, with_shape}
use Rattle.c_expression_typing.specs.Constructs.{enumerated_as, format_by, has_words, prefixed, sized, tagged_as}
use Rattle.c_expression_typing.specs.Constructs.{valued}
use Rattle.c_expression_typing.specs.Lines.{first_line, name_of, spellings, tag_name}

abbrev mutual
  -- An expression. Where it is not evaluated, as inside `sizeof`, it makes no objects and uses no functions.
  pub typed : (is_evaluated : Bool) → Expression → Typing Operand
  typed is (t.identifier x) = named is (name_of x) x.position.line
  typed is (t.integer x) = done (a_value (integer_constant x.spelling x.position.line))
  typed is (t.character x) = done (a_value (character_constant x.spelling x.position.line))
  typed is (t.strings x more) = literal is (literal_bytes (spellings x more)) x.position.line
  typed is (t.parenthesized l e r) = typed is e >>> λ o. judged (λ s. enclosed l.line o)
  typed is (t.subscript a l b r) = valued (typed is a) >>> λ x. valued (typed is b) >>> λ y. judged (indexed l.line x y)
  typed is (t.call f l args r) =
      called_by is (plain_name f) (typed is f) >>> applied_to l.line (argument_values is args) (printed_values is args)
  typed is (t.member e w at x) = typed is e >>> accessed w at.line (name_of x)
  typed is (t.postfix e w at) = typed is e >>> λ o. judged (stepped_by (step_form w) fixity.Postfix at.line o)
  typed is (t.unary w at e) = typed is e >>> prefixed is (prefix_form_of w) at.line
  typed is (t.sizeof_expression at e) = typed false e >>> λ o. judged (sized at.line (type_in o))
  typed is (t.sizeof_type at l x r) = type_name x >>> λ type. judged (sized at.line type)
  typed is (t.cast l x r e) = type_name x >>> λ type. valued (typed is e) >>> λ v. judged (cast_to l.line type v)
  typed is (t.binary a w at b) =
      valued (typed is a) >>> λ x. valued (typed is b) >>> λ y. judged (combined (binary_form_of w) at.line x y)
  typed is (t.conditional c q a colon b) =
      valued (typed is c) >>> λ x. valued (typed is a) >>> λ y. valued (typed is b) >>> λ z.
      judged (chosen q.line x y z)
  typed is (t.assignment a w at b) =
      typed is a >>> λ o. valued (typed is b) >>> λ v. judged (assigned_by (assignment_form_of w) at.line o v)

  pub argument_values : (is_evaluated : Bool) → Arguments → Typing (List Value)
  argument_values is t.no_arguments = done []
  argument_values is (t.arguments e more) = valued (typed is e) >>> λ v. more_values is more (v ∷ [])

  -- behind those before
  pub more_values : (is_evaluated : Bool) → MoreArguments → (before : List Value) → Typing (List Value)
  more_values is t.end_of_arguments vs = done vs
  more_values is (t.more_arguments at e more) vs = valued (typed is e) >>> λ v. more_values is more (vs ++ v ∷ [])

  pub printed_values : (is_evaluated : Bool) → Arguments → Typing Printing
  printed_values is t.no_arguments = done (record { format = None; values = [] })
  printed_values is (t.arguments e more) =
      format_by (literal_alone e) (typed is e) >>> λ format. more_values is more [] >>> λ vs.
      done (record { format = Some format; values = vs })

  -- a type name (6.7.6)
  pub type_name : TypedDeclarator → Typing (List TypeWord)
  type_name (t.typed specs d) =
      specified_by specs (gathered false (first_line specs) specs nothing_gathered) >>> λ spec.
      shape false d >>> λ sh. judged (type_named spec sh)

  -- What a declarator says. The parameters that directly follow the name of a function which is defined have complete
  -- types.
  pub shape : (in_definition : Bool) → Declarator → Typing Shape
  shape in_definition (t.named x) = done (plain_shape (Some (name_of x, x.position.line)))
  shape in_definition t.unnamed = done (plain_shape None)
  shape in_definition (t.pointer at consts d) =
      shape in_definition d >>> λ sh. done (with_derivation (to_pointer (has_words consts)) sh)
  shape in_definition (t.grouped l d r) = shape in_definition d
  shape in_definition (t.open_array d l r) = shape in_definition d >>> λ sh. done (with_derivation to_open_array sh)
  shape in_definition (t.array d l e r) =
      shape in_definition d >>> λ sh. valued (typed false e) >>> λ v. done (with_derivation (to_array (count_in v)) sh)
  shape in_definition (t.function d l ps r) =
      shape in_definition d >>> λ sh. scope_opened >>> λ before.
      parameter_types (in_definition && is_plain_name d) ps >>> λ types. scope_left before >>> λ scope.
      done (with_function types scope sh)

  -- 6.7.5.3
  pub parameter_types : (in_definition : Bool) → Parameters → Typing (List (List TypeWord))
  parameter_types in_definition t.no_parameters = done []
  parameter_types in_definition (t.void_parameters at) = done []
  parameter_types in_definition (t.parameters x more) =
      parameter_type in_definition x >>> λ type. more_types in_definition more (type ∷ [])

  pub more_types : (in_definition : Bool) → MoreParameters → (before : List (List TypeWord))
      → Typing (List (List TypeWord))
  more_types in_definition t.end_of_parameters types = done types
  more_types in_definition (t.more_parameters at x more) types =
      parameter_type in_definition x >>> λ type. more_types in_definition more (types ++ type ∷ [])

  pub parameter_type : (in_definition : Bool) → TypedDeclarator → Typing (List TypeWord)
  parameter_type in_definition (t.typed specs d) =
      specified_by specs (gathered false (first_line specs) specs nothing_gathered) >>> λ spec.
      shape false d >>> λ sh. parameter in_definition spec sh

  -- What specifiers say with those before. In a declaration that declares nothing else they are alone (6.7.2.3
  -- paragraph 7).
  pub gathered : (is_alone : Bool) → (line : ℕ) → Specifiers → Gathered → Typing Gathered
  gathered is_alone line t.no_specifiers g = done g
  gathered is_alone line (t.specifiers x more) g =
      with_specifier is_alone line x g >>> λ g'. gathered is_alone line more g'

  -- the rules on tags and on large types are judged at the first token of the specifiers
  pub with_specifier : (is_alone : Bool) → (line : ℕ) → Specifier → Gathered → Typing Gathered
  with_specifier is_alone line (t.keyword w at) g = done (with_keyword w g)
  with_specifier is_alone line (t.typedef_name x) g =
      judged (typedef_type (name_of x) x.position.line) >>> λ type. done (with_named type g)
  with_specifier is_alone line (t.structure w at x) g =
      tagged_as is_alone (tag_kind w) (name_of x) line >>> λ tag. done (with_named (tag_type tag) g)
  with_specifier is_alone line (t.structure_body w at x l ms r) g =
      begun_as (tag_kind w) (tag_name x) line >>> λ tag. with_members ms no_entries >>> λ es.
      tag_completed line tag es >>> λ tag. done (with_named (tag_type tag) g)
  with_specifier is_alone line (t.enumeration at x) g =
      tagged_as is_alone kind.Enumeration (name_of x) line >>> λ tag. done (with_named (tag_type tag) g)
  with_specifier is_alone line (t.enumeration_body at x l e more comma r) g =
      begun_as kind.Enumeration (tag_name x) line >>> λ tag. enumerator (Some 0) e >>> λ next.
      more_enumerators more next >>> λ next. done (with_named (tag_type tag) g)

  -- 6.7.2.1
  pub with_members : Members → (before : Entries) → Typing Entries
  with_members t.no_members es = done es
  with_members (t.members m more) es = with_member m es >>> λ es. with_members more es

  pub with_member : Member → (before : Entries) → Typing Entries
  with_member (t.member_declaration specs d more at) es =
      specified_by specs (gathered false (first_line specs) specs nothing_gathered) >>> λ spec.
      judged (λ s. member_specified spec) >>> λ spec.
      with_shape spec es (shape false d) >>> λ es. with_more_declared spec more es

  pub with_more_declared : Specification → MoreDeclarators → (before : Entries) → Typing Entries
  with_more_declared spec t.end_of_declarators es = done es
  with_more_declared spec (t.more_declarators at d more) es =
      with_shape spec es (shape false d) >>> λ es. with_more_declared spec more es

  -- 6.7.2.2: an enumerator, where so one without a value would have this one, and the same for the next
  pub enumerator : (next : Option ℕ) → Enumerator → Typing (Option ℕ)
  enumerator next (t.plain x) = enumerated_as (name_of x) x.position.line next
  enumerator next (t.valued x at e) =
      valued (typed false e) >>> λ v. enumerated_as (name_of x) x.position.line (enumeration_value v)

  pub more_enumerators : MoreEnumerators → (next : Option ℕ) → Typing (Option ℕ)
  more_enumerators t.end_of_enumerators next = done next
  more_enumerators (t.more_enumerators at x more) next = enumerator next x >>> λ next. more_enumerators more next

-- what specifiers say
abbrev pub specification : (is_alone : Bool) → Specifiers → Typing Specification
specification is_alone specs = specified_by specs (gathered is_alone (first_line specs) specs nothing_gathered)
