-- Whatever is typed, the state behind it is laid out where the one before is.
use Rattle.std.proofs.Common.{◌≡◌, ℕ, suc, Bool, true, false, ◌&&◌, refl, sym, ap, ◌∙◌, List, [], ◌∷◌, ◌++◌}
use Rattle.std.proofs.Common.{Option, Some, None, if◌then◌else◌, arith}
use Rattle.std.specs.Prelude.{Ok, Err, ◌||◌}
use Rattle.c_syntax.specs.declared.position.Spelled.{Spelled}
use Rattle.c_syntax.specs.Formed.{is_plain_name}
use Rattle.c_syntax.specs.Tree.{Expression, Arguments, MoreArguments, TypedDeclarator, Declarator, Parameters}
use Rattle.c_syntax.specs.Tree.{MoreParameters, Specifiers, Specifier, MoreDeclarators, Enumerator, MoreEnumerators}
use Rattle.c_syntax.specs.Tree as t
use Rattle.c_tree.specs.declared.c_type.TypeWord.{TypeWord}
use Rattle.c_tree.specs.declared.expression.Fixity.TheVariants as fixity
use Rattle.c_faults.specs.declared.fault.Rule.TheVariants.{MisplacedStorage}
use Rattle.c_faults.specs.Answer.{Answer, violates, ◌>>=◌}
use Rattle.c_rules.specs.Values.{Value}
use Rattle.c_place_rules.specs.Operands.{Operand, enclosed}
use Rattle.c_place_rules.specs.Places.{type_in}
use Rattle.c_declarators.specs.Derivations.{to_array, to_open_array, to_pointer}
use Rattle.c_scope.specs.declared.meaning.Meaning.{Meaning}
use Rattle.c_scope.specs.declared.meaning.Meaning.TheVariants as meaning
use Rattle.c_scope.specs.declared.meaning.Tag.{Tag}
use Rattle.c_scope.specs.declared.tags.TagKind.TheVariants as kind
use Rattle.c_scope.specs.Names.{Name, is_empty}
use Rattle.c_scope.specs.Names as names
use Rattle.c_operand_typing.specs.Calls.{Called, applied, pointer_called, printed}
use Rattle.c_declarator_typing.specs.Declarators.{Shape, has_storage, parameter, scope_left, scope_opened, type_named}
use Rattle.c_declarator_typing.specs.Declarators.{with_derivation, with_function}
use Rattle.c_declarator_typing.specs.Members.{Entries, member_added, member_specified, no_entries, tag_completed}
use Rattle.c_operand_typing.specs.Operators.{as_value, assigned_by, assignment_form_of, binary_form_of, combined}
use Rattle.c_operand_typing.specs.Operators.{indexed}
use Rattle.c_operand_typing.specs.Operators.{prefix_form_of, step_form, stepped_by}
use Rattle.c_operand_typing.specs.Primaries.{literal_bytes}
use Rattle.c_declarator_typing.specs.Sizes.{count_in, enumeration_value}
use Rattle.c_declarator_typing.specs.Specifications.{Gathered, Specification, nothing_gathered, specified, tag_kind}
use Rattle.c_declarator_typing.specs.Specifications.{tag_type}
use Rattle.c_declarator_typing.specs.Specifications.{typedef_meant, typedef_type, with_named}
use Rattle.c_typing_state.specs.State.{State, Typing, done, extents, judged, ◌>>>◌}
use Rattle.c_expression_typing.specs.Constructs.{Printing, accessed, applied_to, begun_as, called_by, cast_to, chosen}
use Rattle.c_expression_typing.specs.Constructs.{enumerated_as, format_by, has_words, is_printf, literal_alone}
use Rattle.c_expression_typing.specs.Constructs.{plain_name, prefixed, sized, specified_by, tagged_as, valued}
use Rattle.c_expression_typing.specs.Constructs.{with_shape}
use Rattle.c_expression_typing.specs.Lines.{first_line, name_of, spellings, tag_name}
use Rattle.c_expression_typing.specs.Typed.{argument_values, enumerator, gathered, more_enumerators, more_types}
use Rattle.c_expression_typing.specs.Typed.{more_values, parameter_type, parameter_types, printed_values, shape}
use Rattle.c_expression_typing.specs.Typed.{specification, type_name, typed, with_member, with_members}
use Rattle.c_expression_typing.specs.Typed.{with_more_declared, with_specifier}
use Rattle.typing_laws.specs.Validity.Regular.{are_regular, are_regular_members, are_regular_parameters}
use Rattle.typing_laws.specs.Validity.Regular.{are_regular_specifiers, is_regular, is_regular_declarator}
use Rattle.typing_laws.specs.Validity.Regular.{is_regular_enumerator, is_regular_member, is_regular_name}
use Rattle.typing_laws.specs.Validity.Regular.{is_regular_specifier, more_are_regular, more_are_regular_declarators}
use Rattle.typing_laws.specs.Validity.Regular.{more_are_regular_enumerators, more_are_regular_parameters}
use Rattle.typing_laws.specs.Validity.Sound.{IsFormed, is_sized_array}
use Rattle.typing_laws.proofs.Validity.Common.{first, second}
use Rattle.typing_laws.proofs.Validity.Sound.{IfAnswer, more_more}
use Rattle.typing_laws.specs.Declarators.Extending.{Extending, Extends}
use Rattle.typing_laws.specs.Declarators.Given.{HasType, IsGathered, IsIntIf, IsShapeOf, IsSpecified}
use Rattle.typing_laws.specs.Declarators.Given.{HasWords, OperandHasWords, ValueHasWords, anything}
use Rattle.typing_laws.proofs.Declarators.Chained.{judged_extends}
use Rattle.typing_laws.proofs.Declarators.Members.{Members, members_kept}
use Rattle.typing_laws.proofs.Declarators.Parameters.{found_last, within, within_block, within_formed}
use Rattle.typing_laws.proofs.Declarators.Recursion.{after, begun_stays, enumerator_extend, gathered_extends, member_by}
use Rattle.typing_laws.proofs.Declarators.Recursion.{member_extend, members_extend, name_extends, parameter_extend}
use Rattle.typing_laws.proofs.Declarators.Recursion.{shape_extends, shape_then, some_members, specified_extends}
use Rattle.typing_laws.proofs.Declarators.Recursion.{with_type}
use Rattle.typing_laws.proofs.Declarators.Recursion.{specifier_extends, typed_extends}
use Rattle.typing_laws.proofs.Declarators.Steps.{called_extends, format_extends, valued_extends, whatever}
use Rattle.typing_laws.proofs.Declarators.Tags.{BegunFrom, begun_extends}
use Rattle.typing_laws.proofs.Declarators.Words.{int_word}
use Rattle.typing_laws.specs.Layouts.Listed.{HasArrays, IsLaidOut, has_array_bytes}
use Rattle.typing_laws.proofs.Layouts.Arrays.{HasArraysIf, arrays_kept, specified_arrays, tag_arrays}
use Rattle.typing_laws.proofs.Layouts.Chained.{Laid, judged_laid, then_laid, then_lists}
use Rattle.typing_laws.proofs.Layouts.Lists.{HaveArrays, begun_laid, entries_have, member_has}
use Rattle.typing_laws.proofs.Layouts.Lists.{tag_completed_laid}
use Rattle.typing_laws.proofs.Layouts.Lists.{tagged_laid}
use Rattle.typing_laws.proofs.Layouts.Standing.{accessed_stands, applied_stands, enumerated_stands}
use Rattle.typing_laws.proofs.Layouts.Standing.{literal_stands}
use Rattle.typing_laws.proofs.Layouts.Standing.{name_called_stands, named_stands, parameter_stands}
use Rattle.typing_laws.proofs.Layouts.Standing.{prefixed_stands, stands_laid, value_stands}

-- what is judged in a state
pub rule_laid : {A : Type 0} (s : State) → IsLaidOut s → (a : Answer A) → Laid anything (a >>= λ x. Ok (s, x))
rule_laid s laid a = judged_laid s laid.lists anything a (whatever s a)

-- the value of an operand
pub valued_laid : (s : State) (operand : Typing Operand) → Laid anything (operand s) → Laid anything (valued operand s)
valued_laid s operand h =
    then_lists anything anything (operand s) as_value h
    (λ t o lists x. stands_laid t lists (as_value o t) (value_stands o t))

value_then : {B : Type 0} (s : State) → IsLaidOut s → (operand : Typing Operand) (q : State → B → Type 0)
    (next : Value → Typing B) → Extending false s OperandHasWords (operand s) → Laid anything (operand s)
    → ((u : State) (v : Value) → Extends false s u → HasWords v.tree → IsLaidOut u → Laid q (next v u))
    → Laid q ((valued operand >>> next) s)
value_then s laid operand q next h l g =
    then_laid false s laid ValueHasWords anything q (valued operand s) next (valued_extends false s operand h)
    (valued_laid s operand l) (λ u v e has k x. g u v e has k)

-- calls

called_laid : (is : Bool) (name : Option Spelled) (operand : Typing Operand) (s : State) → IsLaidOut s
    → Laid anything (operand s) → Laid anything (called_by is name operand s)
called_laid is (Some x) operand s laid h =
    stands_laid s laid.lists (called_by is (Some x) operand s) (name_called_stands is (name_of x) x.position.line s)
called_laid is None operand s laid h =
    then_lists anything anything (operand s) (λ o. judged (pointer_called o)) h
    (λ t o lists x. judged_laid t lists anything (pointer_called o t) (whatever t (pointer_called o t)))

applied_by : (line : ℕ) (values : Typing (List Value)) (printing : Typing Printing) (c : Called) (s : State)
    → Laid anything (values s) → Laid anything (printing s) → (b : Bool)
    → Laid anything ((if b then printing >>> (λ p. judged (printed line p.format p.values))
    else values >>> (λ vs. applied line c vs)) s)
applied_by line values printing c s h g true =
    then_lists anything anything (printing s) (λ p. judged (printed line p.format p.values)) g
    (λ t p lists x. judged_laid t lists anything (printed line p.format p.values t)
    (whatever t (printed line p.format p.values t)))
applied_by line values printing c s h g false =
    then_lists anything anything (values s) (λ vs. applied line c vs) h
    (λ t vs lists x. stands_laid t lists (applied line c vs t) (applied_stands line c vs t))

format_laid : (names : Option (List Name)) (operand : Typing Operand) (s : State) → IsLaidOut s
    → Laid anything (operand s) → Laid anything (format_by names operand s)
format_laid (Some names) operand s laid h = (laid.lists, tt)
format_laid None operand s laid h =
    then_lists anything anything (valued operand s) _ (valued_laid s operand h) (λ t v lists x. (lists, tt))

-- a typedef name stands for a type whose arrays have the bytes of their elements

typedef_by : (s : State) (line : ℕ) (m : Option Meaning)
    → ((type : List TypeWord) → m ≡ Some (meaning.Typedef type) → has_array_bytes (extents s) type ≡ true)
    → IfAnswer (λ type. has_array_bytes (extents s) type ≡ true) (typedef_meant line m)
typedef_by s line None h = tt
typedef_by s line (Some (meaning.Typedef type)) h = h type refl
typedef_by s line (Some (meaning.Constant w)) h = tt
typedef_by s line (Some (meaning.Named what type)) h = tt

abbrev Arrays : State → Gathered → Type 0
Arrays s g = HasArraysIf (extents s) g.type

named_then : (s : State) → IsLaidOut s → (g : Gathered) (a : Answer (List TypeWord))
    → IfAnswer (λ type. has_array_bytes (extents s) type ≡ true) a
    → Laid Arrays (a >>= with_type s >>= λ r. done (with_named r.1 g) r.0)
named_then s laid g (Ok type) h = (laid.lists, h)
named_then s laid g (Err f) h = tt

tagged_then : (s : State) (g : Gathered) (a : Answer (State × Tag)) → Laid anything a
    → Laid Arrays (a >>= λ r. done (with_named (tag_type r.1) g) r.0)
tagged_then s g a h =
    then_lists anything Arrays a (λ x. done (with_named (tag_type x) g)) h
    (λ u x lists y. (lists, tag_arrays (extents u) x))

specified_laid : (s : State) (specs : Specifiers) (gathering : Typing Gathered) → Laid Arrays (gathering s)
    → Laid HasArrays (specified_by specs gathering s)
specified_laid s specs gathering h =
    then_lists Arrays HasArrays (gathering s) (λ g. done (specified (first_line specs) g)) h
    (λ u g lists x. (lists, specified_arrays (extents u) (first_line specs) g x))

-- members

abbrev EntriesHave : State → Entries → Type 0
EntriesHave s es = HaveArrays (extents s) es.entries

with_shape_laid : (s : State) → IsLaidOut s → (spec : Specification) → HasArrays s spec → (es : Entries)
    → EntriesHave s es → (shaping : Typing Shape) (d : Declarator)
    → Extending false s (λ u sh. IsShapeOf u d sh) (shaping s)
    → Laid anything (shaping s) → Laid EntriesHave (with_shape spec es shaping s)
with_shape_laid s laid spec arrays es have shaping d h l =
    then_laid false s laid (λ u sh. IsShapeOf u d sh) anything EntriesHave (shaping s)
    (λ sh. judged (member_added spec sh es)) h l
    (λ u sh e is k x. judged_laid u k.lists EntriesHave (member_added spec sh es u)
    (member_has u es (entries_have (extents s) (extents u) e.more es.entries have) spec
    (arrays_kept (extents s) (extents u) e.more spec.type arrays) sh))

storage_laid : (s : State) → IsLaidOut s → (spec : Specification) → HasArrays s spec → (b : Bool)
    → IfAnswer (HasArrays s) (if b then violates MisplacedStorage spec.line else Ok spec)
storage_laid s laid spec arrays true = tt
storage_laid s laid spec arrays false = arrays

-- lists of parameters

pub within_laid : (s : State) → IsLaidOut s → IsLaidOut (within s)
within_laid s laid = record {
  lists = laid.lists;
  names = λ name m e.
      laid.names name m (sym (found_last name s.environment.names.outer s.environment.names.current) ∙ e);
}

function_laid : (s : State) (sh : Shape) (a : Answer (State × List (List TypeWord))) → Laid anything a
    → Laid anything
    (a >>= λ r. (scope_left s.environment.variables >>> λ scope. done (with_function r.1 scope sh)) r.0)
function_laid s sh (Ok r) h = (h.0, tt)
function_laid s sh (Err f) h = tt

mutual
  pub typed_laid : (is : Bool) (e : Expression) → is_regular e ≡ true → (s : State) → IsFormed s → IsLaidOut s
      → Laid anything (typed is e s)
  typed_laid is (t.identifier x) c s formed laid =
      stands_laid s laid.lists (typed is (t.identifier x) s) (named_stands is (name_of x) x.position.line s)
  typed_laid is (t.integer x) c s formed laid = (laid.lists, tt)
  typed_laid is (t.character x) c s formed laid = (laid.lists, tt)
  typed_laid is (t.strings x more) c s formed laid =
      stands_laid s laid.lists (typed is (t.strings x more) s)
      (literal_stands is (literal_bytes (spellings x more)) x.position.line s)
  typed_laid is (t.parenthesized l e r) c s formed laid =
      then_laid false s laid OperandHasWords anything anything (typed is e s) (λ o. judged (λ s. enclosed l.line o))
      (typed_extends is e c s formed) (typed_laid is e c s formed laid)
      (λ u o g h k x. rule_laid u k (enclosed l.line o))
  typed_laid is (t.subscript a l b r) c s formed laid =
      value_then s laid (typed is a) anything (λ x. valued (typed is b) >>> λ y. judged (indexed l.line x y))
      (typed_extends is a (first _ _ c) s formed) (typed_laid is a (first _ _ c) s formed laid)
      (λ u x e hx k. value_then u k (typed is b) anything (λ y. judged (indexed l.line x y))
      (typed_extends is b (second _ _ c) u e.formed) (typed_laid is b (second _ _ c) u e.formed k)
      (λ w y g hy k. rule_laid w k (indexed l.line x y w)))
  typed_laid is (t.call f l args r) c s formed laid =
      then_laid false s laid anything anything anything (called_by is (plain_name f) (typed is f) s)
      (applied_to l.line (argument_values is args) (printed_values is args))
      (called_extends false is (plain_name f) (typed is f) s formed (typed_extends is f (first _ _ c) s formed))
      (called_laid is (plain_name f) (typed is f) s laid (typed_laid is f (first _ _ c) s formed laid))
      (λ u x e h k y. applied_by l.line (argument_values is args) (printed_values is args) x u
      (arguments_laid is args (second _ _ c) u e.formed k) (printed_laid is args (second _ _ c) u e.formed k)
      (is_printf x))
  typed_laid is (t.member e w at x) c s formed laid =
      then_laid false s laid OperandHasWords anything anything (typed is e s) (accessed w at.line (name_of x))
      (typed_extends is e c s formed) (typed_laid is e c s formed laid)
      (λ u o g h k y. stands_laid u k.lists (accessed w at.line (name_of x) o u)
      (accessed_stands w at.line (name_of x) o u))
  typed_laid is (t.postfix e w at) c s formed laid =
      then_laid false s laid OperandHasWords anything anything (typed is e s)
      (λ o. judged (stepped_by (step_form w) fixity.Postfix at.line o)) (typed_extends is e c s formed)
      (typed_laid is e c s formed laid)
      (λ u o g h k x. rule_laid u k (stepped_by (step_form w) fixity.Postfix at.line o u))
  typed_laid is (t.unary w at e) c s formed laid =
      then_laid false s laid OperandHasWords anything anything (typed is e s) (prefixed is (prefix_form_of w) at.line)
      (typed_extends is e c s formed) (typed_laid is e c s formed laid)
      (λ u o g h k x. stands_laid u k.lists (prefixed is (prefix_form_of w) at.line o u)
      (prefixed_stands is (prefix_form_of w) at.line o u))
  typed_laid is (t.sizeof_expression at e) c s formed laid =
      then_laid false s laid OperandHasWords anything anything (typed false e s)
      (λ o. judged (sized at.line (type_in o))) (typed_extends false e c s formed) (typed_laid false e c s formed laid)
      (λ u o g h k x. rule_laid u k (sized at.line (type_in o) u))
  typed_laid is (t.sizeof_type at l x r) c s formed laid =
      then_laid false s laid anything anything anything (type_name x s) (λ type. judged (sized at.line type))
      (name_extends x c s formed) (name_laid x c s formed laid)
      (λ u type e h k y. rule_laid u k (sized at.line type u))
  typed_laid is (t.cast l x r e) c s formed laid =
      then_laid false s laid anything anything anything (type_name x s)
      (λ type. valued (typed is e) >>> λ v. judged (cast_to l.line type v)) (name_extends x (first _ _ c) s formed)
      (name_laid x (first _ _ c) s formed laid)
      (λ u type g h k y. value_then u k (typed is e) anything (λ v. judged (cast_to l.line type v))
      (typed_extends is e (second _ _ c) u g.formed) (typed_laid is e (second _ _ c) u g.formed k)
      (λ w v g' hv k. rule_laid w k (cast_to l.line type v w)))
  typed_laid is (t.binary a w at b) c s formed laid =
      value_then s laid (typed is a) anything
      (λ x. valued (typed is b) >>> λ y. judged (combined (binary_form_of w) at.line x y))
      (typed_extends is a (first _ _ c) s formed) (typed_laid is a (first _ _ c) s formed laid)
      (λ u x e hx k. value_then u k (typed is b) anything (λ y. judged (combined (binary_form_of w) at.line x y))
      (typed_extends is b (second _ _ c) u e.formed) (typed_laid is b (second _ _ c) u e.formed k)
      (λ v y g hy k. rule_laid v k (combined (binary_form_of w) at.line x y v)))
  typed_laid is (t.conditional k q a colon b) c s formed laid =
      value_then s laid (typed is k) anything
      (λ x. valued (typed is a) >>> λ y. valued (typed is b) >>> λ z. judged (chosen q.line x y z))
      (typed_extends is k (first _ _ (first _ _ c)) s formed) (typed_laid is k (first _ _ (first _ _ c)) s formed laid)
      (λ u x e hx l. value_then u l (typed is a) anything
      (λ y. valued (typed is b) >>> λ z. judged (chosen q.line x y z))
      (typed_extends is a (second _ _ (first _ _ c)) u e.formed)
      (typed_laid is a (second _ _ (first _ _ c)) u e.formed l)
      (λ v y g hy l. value_then v l (typed is b) anything (λ z. judged (chosen q.line x y z))
      (typed_extends is b (second _ _ c) v g.formed) (typed_laid is b (second _ _ c) v g.formed l)
      (λ w z g' hz l. rule_laid w l (chosen q.line x y z w))))
  typed_laid is (t.assignment a w at b) c s formed laid =
      then_laid false s laid OperandHasWords anything anything (typed is a s)
      (λ o. valued (typed is b) >>> λ v. judged (assigned_by (assignment_form_of w) at.line o v))
      (typed_extends is a (first _ _ c) s formed) (typed_laid is a (first _ _ c) s formed laid)
      (λ u o e ho k x. value_then u k (typed is b) anything
      (λ v. judged (assigned_by (assignment_form_of w) at.line o v)) (typed_extends is b (second _ _ c) u e.formed)
      (typed_laid is b (second _ _ c) u e.formed k)
      (λ z v g hv k. rule_laid z k (assigned_by (assignment_form_of w) at.line o v z)))

  arguments_laid : (is : Bool) (args : Arguments) → are_regular args ≡ true → (s : State) → IsFormed s → IsLaidOut s
      → Laid anything (argument_values is args s)
  arguments_laid is t.no_arguments c s formed laid = (laid.lists, tt)
  arguments_laid is (t.arguments e more) c s formed laid =
      value_then s laid (typed is e) anything (λ v. more_values is more (v ∷ []))
      (typed_extends is e (first _ _ c) s formed) (typed_laid is e (first _ _ c) s formed laid)
      (λ u v g h k. more_laid is more (second _ _ c) (v ∷ []) u g.formed k)

  more_laid : (is : Bool) (more : MoreArguments) → more_are_regular more ≡ true → (vs : List Value) (s : State)
      → IsFormed s → IsLaidOut s → Laid anything (more_values is more vs s)
  more_laid is t.end_of_arguments c vs s formed laid = (laid.lists, tt)
  more_laid is (t.more_arguments at e more) c vs s formed laid =
      value_then s laid (typed is e) anything (λ v. more_values is more (vs ++ v ∷ []))
      (typed_extends is e (first _ _ c) s formed) (typed_laid is e (first _ _ c) s formed laid)
      (λ u v g h k. more_laid is more (second _ _ c) (vs ++ v ∷ []) u g.formed k)

  printed_laid : (is : Bool) (args : Arguments) → are_regular args ≡ true → (s : State) → IsFormed s → IsLaidOut s
      → Laid anything (printed_values is args s)
  printed_laid is t.no_arguments c s formed laid = (laid.lists, tt)
  printed_laid is (t.arguments e more) c s formed laid =
      then_laid false s laid anything anything anything (format_by (literal_alone e) (typed is e) s)
      (λ format. more_values is more [] >>> λ vs. done (record { format = Some format; values = vs }))
      (format_extends false (literal_alone e) (typed is e) s formed (typed_extends is e (first _ _ c) s formed))
      (format_laid (literal_alone e) (typed is e) s laid (typed_laid is e (first _ _ c) s formed laid))
      (λ u f g h k x. then_lists anything anything (more_values is more [] u)
      (λ vs. done (record { format = Some f; values = vs })) (more_laid is more (second _ _ c) [] u g.formed k)
      (λ w vs lists y. (lists, tt)))

  pub name_laid : (x : TypedDeclarator) → is_regular_name x ≡ true → (s : State) → IsFormed s → IsLaidOut s
      → Laid anything (type_name x s)
  name_laid (t.typed specs d) c s formed laid =
      then_laid false s laid IsSpecified HasArrays anything
      (specified_by specs (gathered false (first_line specs) specs nothing_gathered) s)
      (λ spec. shape false d >>> λ sh. judged (type_named spec sh))
      (specified_extends s specs (gathered false (first_line specs) specs nothing_gathered)
      (gathered_extends false (first_line specs) specs (first _ _ c) nothing_gathered tt s formed))
      (specified_laid s specs (gathered false (first_line specs) specs nothing_gathered)
      (gathered_laid false (first_line specs) specs (first _ _ c) nothing_gathered tt s tt formed laid))
      (λ u spec e h k x. then_laid false u k (λ w sh. IsShapeOf w d sh) anything anything (shape false d u)
      (λ sh. judged (type_named spec sh)) (shape_extends false d (second _ _ c) u e.formed)
      (shape_laid false d (second _ _ c) u e.formed k) (λ w sh g is l y. rule_laid w l (type_named spec sh w)))

  pub shape_laid : (in_definition : Bool) (d : Declarator) → is_regular_declarator d ≡ true → (s : State)
      → IsFormed s → IsLaidOut s → Laid anything (shape in_definition d s)
  shape_laid in_definition (t.named x) c s formed laid = (laid.lists, tt)
  shape_laid in_definition t.unnamed c s formed laid = (laid.lists, tt)
  shape_laid in_definition (t.pointer at consts d) c s formed laid =
      then_lists anything anything (shape in_definition d s)
      (λ sh. done (with_derivation (to_pointer (has_words consts)) sh)) (shape_laid in_definition d c s formed laid)
      (λ u sh lists x. (lists, tt))
  shape_laid in_definition (t.grouped l d r) c s formed laid = shape_laid in_definition d c s formed laid
  shape_laid in_definition (t.open_array d l r) c s formed laid =
      then_lists anything anything (shape in_definition d s) (λ sh. done (with_derivation to_open_array sh))
      (shape_laid in_definition d c s formed laid) (λ u sh lists x. (lists, tt))
  shape_laid in_definition (t.array d l e r) c s formed laid =
      then_laid false s laid (λ u sh. IsShapeOf u d sh) anything anything (shape in_definition d s)
      (λ sh. valued (typed false e) >>> λ v. done (with_derivation (to_array (count_in v)) sh))
      (shape_extends in_definition d (first _ _ c) s formed) (shape_laid in_definition d (first _ _ c) s formed laid)
      (λ u sh g h k x. value_then u k (typed false e) anything
      (λ v. done (with_derivation (to_array (count_in v)) sh)) (typed_extends false e (second _ _ c) u g.formed)
      (typed_laid false e (second _ _ c) u g.formed k) (λ w v g' hv l. (l.lists, tt)))
  shape_laid in_definition (t.function d l ps r) c s formed laid =
      then_laid false s laid (λ u sh. IsShapeOf u d sh) anything anything (shape in_definition d s)
      (λ sh. scope_opened >>> λ before. parameter_types (in_definition && is_plain_name d) ps
      >>> λ types. scope_left before >>> λ scope. done (with_function types scope sh))
      (shape_extends in_definition d (first _ _ c) s formed) (shape_laid in_definition d (first _ _ c) s formed laid)
      (λ u sh e h k x. function_laid u sh (parameter_types (in_definition && is_plain_name d) ps (within u))
      (parameters_laid (in_definition && is_plain_name d) ps (second _ _ c) (within u)
      (within_formed u e.formed) (within_block u) (within_laid u k)))

  parameters_laid : (in_definition : Bool) (ps : Parameters) → are_regular_parameters ps ≡ true → (s : State)
      → IsFormed s → is_empty s.environment.names.outer ≡ false → IsLaidOut s
      → Laid anything (parameter_types in_definition ps s)
  parameters_laid in_definition t.no_parameters c s formed inner laid = (laid.lists, tt)
  parameters_laid in_definition (t.void_parameters at) c s formed inner laid = (laid.lists, tt)
  parameters_laid in_definition (t.parameters x more) c s formed inner laid =
      then_laid true s laid anything anything anything (parameter_type in_definition x s)
      (λ type. more_types in_definition more (type ∷ []))
      (parameter_extend in_definition x (first _ _ c) s formed inner)
      (parameter_laid in_definition x (first _ _ c) s formed inner laid)
      (λ u type e h k y. more_parameters_laid in_definition more (second _ _ c) (type ∷ []) u e.formed
      (ap is_empty e.outer ∙ inner) k)

  more_parameters_laid : (in_definition : Bool) (more : MoreParameters) → more_are_regular_parameters more ≡ true
      → (before : List (List TypeWord)) (s : State) → IsFormed s → is_empty s.environment.names.outer ≡ false
      → IsLaidOut s → Laid anything (more_types in_definition more before s)
  more_parameters_laid in_definition t.end_of_parameters c before s formed inner laid = (laid.lists, tt)
  more_parameters_laid in_definition (t.more_parameters at x more) c before s formed inner laid =
      then_laid true s laid anything anything anything (parameter_type in_definition x s)
      (λ type. more_types in_definition more (before ++ type ∷ []))
      (parameter_extend in_definition x (first _ _ c) s formed inner)
      (parameter_laid in_definition x (first _ _ c) s formed inner laid)
      (λ u type e h k y. more_parameters_laid in_definition more (second _ _ c) (before ++ type ∷ []) u e.formed
      (ap is_empty e.outer ∙ inner) k)

  parameter_laid : (in_definition : Bool) (x : TypedDeclarator) → is_regular_name x ≡ true → (s : State) → IsFormed s
      → is_empty s.environment.names.outer ≡ false → IsLaidOut s → Laid anything (parameter_type in_definition x s)
  parameter_laid in_definition (t.typed specs d) c s formed inner laid =
      then_laid false s laid IsSpecified HasArrays anything
      (specified_by specs (gathered false (first_line specs) specs nothing_gathered) s)
      (λ spec. shape false d >>> λ sh. parameter in_definition spec sh)
      (specified_extends s specs (gathered false (first_line specs) specs nothing_gathered)
      (gathered_extends false (first_line specs) specs (first _ _ c) nothing_gathered tt s formed))
      (specified_laid s specs (gathered false (first_line specs) specs nothing_gathered)
      (gathered_laid false (first_line specs) specs (first _ _ c) nothing_gathered tt s tt formed laid))
      (λ u spec e h k x. then_lists anything anything (shape false d u) (λ sh. parameter in_definition spec sh)
      (shape_laid false d (second _ _ c) u e.formed k)
      (λ w sh lists y. stands_laid w lists (parameter in_definition spec sh w)
      (parameter_stands in_definition spec sh w)))

  pub gathered_laid : (is_alone : Bool) (line : ℕ) (specs : Specifiers) → are_regular_specifiers specs ≡ true
      → (g : Gathered) → HasType g.type → (s : State) → Arrays s g → IsFormed s → IsLaidOut s
      → Laid Arrays (gathered is_alone line specs g s)
  gathered_laid is_alone line t.no_specifiers c g has s arrays formed laid = (laid.lists, arrays)
  gathered_laid is_alone line (t.specifiers x more) c g has s arrays formed laid =
      then_laid false s laid IsGathered Arrays Arrays (with_specifier is_alone line x g s)
      (λ g'. gathered is_alone line more g') (specifier_extends is_alone line x (first _ _ c) g has s formed)
      (specifier_laid is_alone line x (first _ _ c) g has s arrays formed laid)
      (λ u g' e h k y. gathered_laid is_alone line more (second _ _ c) g' h u y e.formed k)

  specifier_laid : (is_alone : Bool) (line : ℕ) (x : Specifier) → is_regular_specifier x ≡ true → (g : Gathered)
      → HasType g.type → (s : State) → Arrays s g → IsFormed s → IsLaidOut s
      → Laid Arrays (with_specifier is_alone line x g s)
  specifier_laid is_alone line (t.keyword w at) c g has s arrays formed laid = (laid.lists, arrays)
  specifier_laid is_alone line (t.typedef_name x) c g has s arrays formed laid =
      named_then s laid g (typedef_type (name_of x) x.position.line s)
      (typedef_by s x.position.line (names.meaning (name_of x) s.environment.names)
      (λ type e. laid.names (name_of x) (meaning.Typedef type) e))
  specifier_laid is_alone line (t.structure w at x) c g has s arrays formed laid =
      tagged_then s g (tagged_as is_alone (tag_kind w) (name_of x) line s)
      (tagged_laid s formed laid.lists is_alone (tag_kind w) (name_of x) line)
  specifier_laid is_alone line (t.structure_body w at x l ms r) c g has s arrays formed laid =
      then_laid false s laid (BegunFrom s) anything Arrays (begun_as (tag_kind w) (tag_name x) line s)
      (λ tag. with_members ms no_entries >>> λ es. tag_completed line tag es >>> λ tag.
      done (with_named (tag_type tag) g))
      (begun_extends false s formed (tag_kind w) (tag_name x) line)
      (begun_laid s formed laid.lists (tag_kind w) (tag_name x) line)
      (λ u tag e h k y. then_laid false u k (λ v es. Members v (after ms 0) es) EntriesHave Arrays
      (with_members ms no_entries u) (λ es. tag_completed line tag es >>> λ tag. done (with_named (tag_type tag) g))
      (members_extend ms (second _ _ c) 0 no_entries u e.formed (record { each = tt; count = omega arith }))
      (members_laid ms (second _ _ c) 0 no_entries u e.formed (record { each = tt; count = omega arith }) tt k)
      (λ v es f is l z. tagged_then v g (tag_completed line tag es v)
      (tag_completed_laid v f.formed line tag es (some_members ms (first _ _ c) v es is) (begun_stays u v f tag h.0) z
      l.lists)))
  specifier_laid is_alone line (t.enumeration at x) c g has s arrays formed laid =
      tagged_then s g (tagged_as is_alone kind.Enumeration (name_of x) line s)
      (tagged_laid s formed laid.lists is_alone kind.Enumeration (name_of x) line)
  specifier_laid is_alone line (t.enumeration_body at x l e more comma r) c g has s arrays formed laid =
      then_laid false s laid (BegunFrom s) anything Arrays (begun_as kind.Enumeration (tag_name x) line s)
      (λ tag. enumerator (Some 0) e >>> λ next. more_enumerators more next >>> λ next.
      done (with_named (tag_type tag) g))
      (begun_extends false s formed kind.Enumeration (tag_name x) line)
      (begun_laid s formed laid.lists kind.Enumeration (tag_name x) line)
      (λ u tag f h k y. then_laid false u k (λ v o. IsIntIf o) anything Arrays (enumerator (Some 0) e u)
      (λ next. more_enumerators more next >>> λ next. done (with_named (tag_type tag) g))
      (enumerator_extend (Some 0) (int_word 0 (omega arith)) e (first _ _ c) u f.formed)
      (enumerator_laid (Some 0) (int_word 0 (omega arith)) e (first _ _ c) u f.formed k)
      (λ v next f' h' l z. then_lists anything Arrays (more_enumerators more next v)
      (λ next. done (with_named (tag_type tag) g)) (more_enumerators_laid more (second _ _ c) next h' v f'.formed l)
      (λ w next lists o. (lists, tag_arrays (extents w) tag))))

  members_laid : (ms : t.Members) → are_regular_members ms ≡ true → (n : ℕ) (es : Entries) (s : State) → IsFormed s
      → Members s n es → EntriesHave s es → IsLaidOut s → Laid EntriesHave (with_members ms es s)
  members_laid t.no_members c n es s formed is have laid = (laid.lists, have)
  members_laid (t.members m more) c n es s formed is have laid =
      then_laid false s laid (λ u es. Members u (suc n) es) EntriesHave EntriesHave (with_member m es s)
      (λ es. with_members more es) (member_extend m (first _ _ c) n es s formed is)
      (member_laid m (first _ _ c) n es s formed is have laid)
      (λ u es e h k y. members_laid more (second _ _ c) (suc n) es u e.formed h y k)

  member_laid : (m : t.Member) → is_regular_member m ≡ true → (n : ℕ) (es : Entries) (s : State) → IsFormed s
      → Members s n es → EntriesHave s es → IsLaidOut s → Laid EntriesHave (with_member m es s)
  member_laid (t.member_declaration specs d more at) c n es s formed is have laid =
      then_laid false s laid IsSpecified HasArrays EntriesHave
      (specified_by specs (gathered false (first_line specs) specs nothing_gathered) s)
      (λ spec. judged (λ s. member_specified spec) >>> λ spec. with_shape spec es (shape false d) >>> λ es.
      with_more_declared spec more es)
      (specified_extends s specs (gathered false (first_line specs) specs nothing_gathered)
      (gathered_extends false (first_line specs) specs (first _ _ (first _ _
      (first _ _ c))) nothing_gathered tt s formed))
      (specified_laid s specs (gathered false (first_line specs) specs nothing_gathered)
      (gathered_laid false (first_line specs) specs (first _ _ (first _ _ (first _ _ c))) nothing_gathered tt s tt
      formed laid))
      (λ u spec e h k x. then_laid false u k IsSpecified HasArrays EntriesHave
      (judged (λ s. member_specified spec) u)
      (λ spec. with_shape spec es (shape false d) >>> λ es. with_more_declared spec more es)
      (judged_extends false u IsSpecified (member_specified spec) e.formed
      (member_by u (spec.has_two_storages || has_storage spec.storage) spec.line spec h))
      (judged_laid u k.lists HasArrays (member_specified spec)
      (storage_laid u k spec x (spec.has_two_storages || has_storage spec.storage)))
      (λ v spec f h' l y. then_laid false v l (λ u es. Members u (suc n) es) EntriesHave EntriesHave
      (with_shape spec es (shape false d) v) (λ es. with_more_declared spec more es)
      (shape_then v spec h' n es (members_kept s v
      (more_more (extents s) (extents u) (extents v) e.more f.more) n es is) d
      (second _ _ (first _ _ (first _ _ c))) (shape false d)
      (shape_extends false d (second _ _ (first _ _ c)) v f.formed))
      (with_shape_laid v l spec y es
      (entries_have (extents s) (extents v) (more_more (extents s) (extents u) (extents v) e.more f.more) es.entries
      have) (shape false d) d (shape_extends false d (second _ _ (first _ _ c)) v f.formed)
      (shape_laid false d (second _ _ (first _ _ c)) v f.formed l))
      (λ w es f' is' m z. more_declared_laid spec h' more (second _ _ c) (suc n) es w f'.formed is' z
      (arrays_kept (extents v) (extents w) f'.more spec.type y) m)))

  more_declared_laid : (spec : Specification) → is_sized_array spec.type ≡ true → (more : MoreDeclarators)
      → more_are_regular_declarators more ≡ true → (n : ℕ) (es : Entries) (s : State) → IsFormed s → Members s n es
      → EntriesHave s es → HasArrays s spec → IsLaidOut s
      → Laid EntriesHave (with_more_declared spec more es s)
  more_declared_laid spec sized t.end_of_declarators c n es s formed is have arrays laid = (laid.lists, have)
  more_declared_laid spec sized (t.more_declarators at d more) c n es s formed is have arrays laid =
      then_laid false s laid (λ u es. Members u (suc n) es) EntriesHave EntriesHave
      (with_shape spec es (shape false d) s) (λ es. with_more_declared spec more es)
      (shape_then s spec sized n es is d (first _ _ (first _ _ c)) (shape false d)
      (shape_extends false d (second _ _ (first _ _ c)) s formed))
      (with_shape_laid s laid spec arrays es have (shape false d) d
      (shape_extends false d (second _ _ (first _ _ c)) s formed)
      (shape_laid false d (second _ _ (first _ _ c)) s formed laid))
      (λ u es e h k y. more_declared_laid spec sized more (second _ _ c) (suc n) es u e.formed h y
      (arrays_kept (extents s) (extents u) e.more spec.type arrays) k)

  enumerator_laid : (next : Option ℕ) → IsIntIf next → (e : Enumerator) → is_regular_enumerator e ≡ true → (s : State)
      → IsFormed s → IsLaidOut s → Laid anything (enumerator next e s)
  enumerator_laid next is (t.plain x) c s formed laid =
      stands_laid s laid.lists (enumerator next (t.plain x) s) (enumerated_stands (name_of x) x.position.line next s)
  enumerator_laid next is (t.valued x at e) c s formed laid =
      value_then s laid (typed false e) anything
      (λ v. enumerated_as (name_of x) x.position.line (enumeration_value v)) (typed_extends false e c s formed)
      (typed_laid false e c s formed laid)
      (λ u v g h k. stands_laid u k.lists (enumerated_as (name_of x) x.position.line (enumeration_value v) u)
      (enumerated_stands (name_of x) x.position.line (enumeration_value v) u))

  more_enumerators_laid : (more : MoreEnumerators) → more_are_regular_enumerators more ≡ true → (next : Option ℕ)
      → IsIntIf next → (s : State) → IsFormed s → IsLaidOut s → Laid anything (more_enumerators more next s)
  more_enumerators_laid t.end_of_enumerators c next is s formed laid = (laid.lists, tt)
  more_enumerators_laid (t.more_enumerators at x more) c next is s formed laid =
      then_laid false s laid (λ u o. IsIntIf o) anything anything (enumerator next x s)
      (λ next. more_enumerators more next) (enumerator_extend next is x (first _ _ c) s formed)
      (enumerator_laid next is x (first _ _ c) s formed laid)
      (λ u next e h k y. more_enumerators_laid more (second _ _ c) next h u e.formed k)

pub specification_laid : (is_alone : Bool) (specs : Specifiers) → are_regular_specifiers specs ≡ true → (s : State)
    → IsFormed s → IsLaidOut s → Laid HasArrays (specification is_alone specs s)
specification_laid is_alone specs c s formed laid =
    specified_laid s specs (gathered is_alone (first_line specs) specs nothing_gathered)
    (gathered_laid is_alone (first_line specs) specs c nothing_gathered tt s tt formed laid)
