-- Whatever is typed, the state behind it extends the one before.
use Rattle.std.proofs.Common.{◌≡◌, ℕ, suc, ◌≤◌, Bool, true, false, ◌&&◌, refl, sym, ap, ◌∙◌, subst, List, [], ◌∷◌, ◌++◌}
use Rattle.std.proofs.Common.{Option, Some, None, if◌then◌else◌, arith, length}
use Rattle.std.specs.Prelude.{Ok, Err, not, ◌||◌}
use Rattle.c_syntax.specs.Formed.{has_name, is_no_member, is_plain_name}
use Rattle.c_syntax.specs.Tree.{Expression, Arguments, MoreArguments, TypedDeclarator, Declarator, Parameters}
use Rattle.c_syntax.specs.Tree.{MoreParameters, Specifiers, Specifier, MoreDeclarators, Enumerator, MoreEnumerators}
use Rattle.c_syntax.specs.Tree as t
use Rattle.c_tree.specs.declared.c_type.TypeWord.{TypeWord}
use Rattle.c_tree.specs.declared.expression.Fixity.TheVariants as fixity
use Rattle.c_faults.specs.declared.fault.Rule.TheVariants.{MisplacedStorage}
use Rattle.c_faults.specs.Answer.{Answer, violates, ◌>>=◌}
use Rattle.c_rules.specs.Values.{Value}
use Rattle.c_place_rules.specs.Operands.{Operand, a_value, enclosed}
use Rattle.c_place_rules.specs.Places.{type_in}
use Rattle.c_declarators.specs.Derivations.{Derivation, to_array, to_function, to_open_array, to_pointer}
use Rattle.c_scope.specs.declared.meaning.Tag.{Tag}
use Rattle.c_scope.specs.declared.meaning.Tag.TheVariants as tag
use Rattle.c_scope.specs.declared.tags.TagKind.TheVariants as kind
use Rattle.c_scope.specs.declared.meaning.Meaning.{Meaning}
use Rattle.c_scope.specs.Names.{declared, found, is_empty, or_else}
use Rattle.c_scope.specs.Parameters.{ParameterScope, parameters_in}
use Rattle.c_declarator_typing.specs.Declarators.{is_nothing, Shape, has_storage, parameter, scope_left, scope_opened}
use Rattle.c_declarator_typing.specs.Declarators.{type_named}
use Rattle.c_declarator_typing.specs.Declarators.{with_derivation, with_function}
use Rattle.c_declarator_typing.specs.Members.{Entries, member_added, member_specified, no_entries, tag_completed}
use Rattle.c_operand_typing.specs.Operators.{assigned_by, assignment_form_of, binary_form_of, combined, indexed}
use Rattle.c_operand_typing.specs.Operators.{prefix_form_of, step_form, stepped_by}
use Rattle.c_operand_typing.specs.Primaries.{character_constant, integer_constant, literal_bytes}
use Rattle.c_declarator_typing.specs.Sizes.{count_in, enumeration_value}
use Rattle.c_declarator_typing.specs.Specifications.{Gathered, Specification, nothing_gathered, specified, tag_kind}
use Rattle.c_declarator_typing.specs.Specifications.{tag_type}
use Rattle.c_declarator_typing.specs.Specifications.{typedef_type, with_named}
use Rattle.c_typing_state.specs.State.{State, Typing, done, extents, judged, ◌>>>◌}
use Rattle.c_expression_typing.specs.Constructs.{accessed, applied_to, begun_as, called_by, cast_to, chosen}
use Rattle.c_expression_typing.specs.Constructs.{enumerated_as, format_by, has_words, literal_alone, plain_name}
use Rattle.c_expression_typing.specs.Constructs.{prefixed, sized, specified_by, tagged_as, valued, with_shape}
use Rattle.c_expression_typing.specs.Lines.{first_line, name_of, spellings, tag_name}
use Rattle.c_expression_typing.specs.Typed.{argument_values, enumerator, gathered, more_enumerators, more_types}
use Rattle.c_expression_typing.specs.Typed.{more_values, parameter_type, parameter_types, printed_values, shape}
use Rattle.c_expression_typing.specs.Typed.{specification, type_name, typed, with_member, with_members}
use Rattle.c_expression_typing.specs.Typed.{with_more_declared, with_specifier}
use Rattle.typing_laws.specs.Validity.Regular.{are_regular, are_regular_members, are_regular_parameters}
use Rattle.typing_laws.specs.Validity.Regular.{are_regular_specifiers, is_regular, is_regular_declarator}
use Rattle.typing_laws.specs.Validity.Regular.{is_regular_enumerator, is_regular_member, is_regular_name}
use Rattle.typing_laws.specs.Validity.Regular.{is_regular_specifier, more_are_regular, more_are_regular_declarators}
use Rattle.typing_laws.specs.Validity.Regular.{more_are_regular_enumerators, more_are_regular_parameters}
use Rattle.typing_laws.specs.Validity.Sound.{IsFormed, is_sized_array}
use Rattle.typing_laws.proofs.Validity.Common.{first, second, the_same}
use Rattle.typing_laws.proofs.Validity.Sound.{IfAnswer, more_more}
use Rattle.typing_laws.specs.Declarators.Extending.{Extending, Extends, IsNew, IsSameOr, new, same}
use Rattle.typing_laws.specs.Declarators.Given.{HasScope, IsParameterScope}
use Rattle.typing_laws.specs.Declarators.Given.{AreCounted, HasType, HasWords, IsBegun, IsCounted, IsGathered, IsIntIf}
use Rattle.typing_laws.specs.Declarators.Given.{IsShapeOf, IsSpecified, OperandHasWords, ValueHasWords, anything}
use Rattle.typing_laws.proofs.Declarators.Chained.{done_extends, extends_same, from_before, inside}
use Rattle.typing_laws.proofs.Declarators.Chained.{judged_extends, then_extends, then_from, weaker}
use Rattle.typing_laws.proofs.Declarators.Completed.{completed_from}
use Rattle.typing_laws.proofs.Declarators.Members.{Members, member_given, members_kept}
use Rattle.typing_laws.proofs.Declarators.Operators.{assigned_words, cast_to_words, character_words, chosen_words}
use Rattle.typing_laws.proofs.Declarators.Operators.{combined_words, enclosed_words, integer_words, place_words}
use Rattle.typing_laws.proofs.Declarators.Operators.{sized_words, stepped_by_words}
use Rattle.typing_laws.proofs.Declarators.Parameters.{behind, behind_extends, parameter_extends, within, within_block}
use Rattle.typing_laws.proofs.Declarators.Parameters.{within_formed}
use Rattle.typing_laws.proofs.Declarators.Steps.{accessed_extends, applied_to_extends, called_extends, count_counted}
use Rattle.typing_laws.proofs.Declarators.Steps.{enumerated_extends, format_extends, literal_extends, named_extends}
use Rattle.typing_laws.proofs.Declarators.Steps.{prefixed_extends, typedef_sized, valued_extends, whatever}
use Rattle.typing_laws.proofs.Declarators.Tags.{BegunFrom, begun_extends, tagged_extends, numbered_more}
use Rattle.typing_laws.proofs.Declarators.Types.{specified_sized}
use Rattle.typing_laws.proofs.Declarators.Words.{enumeration_int, int_word}

pub value_then : {B : Type 0} (s : State) (operand : Typing Operand) (q : State → B → Type 0) (next : Value → Typing B)
    → Extending false s OperandHasWords (operand s)
    → ((u : State) (v : Value) → Extends false s u → HasWords v.tree → Extending false u q (next v u))
    → Extending false s q ((valued operand >>> next) s)
value_then s operand q next h g =
    then_extends false s ValueHasWords q (valued operand s) next (valued_extends false s operand h) g

-- specifiers

pub specified_extends : (s : State) (specs : Specifiers) (gathering : Typing Gathered)
    → Extending false s IsGathered (gathering s) → Extending false s IsSpecified (specified_by specs gathering s)
specified_extends s specs gathering h =
    then_extends false s IsGathered IsSpecified (gathering s) (λ g. done (specified (first_line specs) g)) h
    (λ u g e is. done_extends false u IsSpecified (specified (first_line specs) g) e.formed
    (specified_sized (first_line specs) g is))

pub tag_sized : (x : Tag) → is_sized_array (tag_type x) ≡ true
tag_sized (tag.Structure n) = refl
tag_sized (tag.Union n) = refl
tag_sized (tag.Enumeration n) = refl

pub tagged_then : (s : State) (g : Gathered) (a : Answer (State × Tag)) → Extending false s anything a
    → Extending false s IsGathered (a >>= λ r. done (with_named (tag_type r.1) g) r.0)
tagged_then s g a h =
    then_extends false s anything IsGathered a (λ x. done (with_named (tag_type x) g)) h
    (λ u x e is. done_extends false u IsGathered (with_named (tag_type x) g) e.formed (tag_sized x))

abbrev pub with_type : State → List TypeWord → Answer (State × List TypeWord)
with_type s type = Ok (s, type)

pub named_then : (s : State) → IsFormed s → (g : Gathered) (a : Answer (List TypeWord))
    → IfAnswer (λ type. is_sized_array type ≡ true) a
    → Extending false s IsGathered (a >>= with_type s >>= λ r. done (with_named r.1 g) r.0)
named_then s formed g (Ok type) h = (extends_same false s formed, h)
named_then s formed g (Err f) h = tt

-- what holds of the state behind too
pub also : {A : Type 0} (b : Bool) (s : State) (p : State → A → Type 0) (k : State → Type 0) (a : Answer (State × A))
    → ((u : State) → Extends b s u → k u) → Extending b s p a → Extending b s (λ u x. p u x × k u) a
also b s p k (Ok r) h is = (is.0, (is.1, h r.0 is.0))
also b s p k (Err f) h is = tt

pub begun_stays : (s u : State) → Extends false s u → (x : Tag) → IsBegun s x → IsBegun u x
begun_stays s u h (tag.Structure n) is = h.pending n is
begun_stays s u h (tag.Union n) is = h.pending n is
begun_stays s u h (tag.Enumeration n) is = tt

-- members

abbrev pub after : t.Members → ℕ → ℕ
after t.no_members n = n
after (t.members m more) n = suc n

pub less : (s : State) (n : ℕ) (es : Entries) → Members s (suc n) es → Members s n es
less s n es is = record { each = is.each; count = (let low = is.count in omega arith) }

pub no_less : (ms : t.Members) (n : ℕ) (s : State) (es : Entries) → Members s (after ms n) es → Members s n es
no_less t.no_members n s es is = is
no_less (t.members m more) n s es is = less s n es is

pub some_members : (ms : t.Members) → not (is_no_member ms) ≡ true → (s : State) (es : Entries)
    → Members s (after ms 0) es → Members s 1 es
some_members t.no_members c s es is = absurd cc
some_members (t.members m more) c s es is = is

pub member_by : (s : State) (is : Bool) (line : ℕ) (spec : Specification) → IsSpecified s spec
    → IfAnswer (IsSpecified s) (if is then violates MisplacedStorage line else Ok spec)
member_by s true line spec h = tt
member_by s false line spec h = h

pub shape_then : (s : State) (spec : Specification) → is_sized_array spec.type ≡ true → (n : ℕ) (es : Entries)
    → Members s n es → (d : Declarator) → has_name d ≡ true → (shaping : Typing Shape)
    → Extending false s (λ u sh. IsShapeOf u d sh) (shaping s)
    → Extending false s (λ u es. Members u (suc n) es) (with_shape spec es shaping s)
shape_then s spec sized n es is d named shaping h =
    then_extends false s (λ u sh. IsShapeOf u d sh) (λ u es. Members u (suc n) es) (shaping s)
    (λ sh. judged (member_added spec sh es)) h
    (λ u sh e has. judged_extends false u (λ u es. Members u (suc n) es) (member_added spec sh es u) e.formed
    (member_given u e.formed n es (members_kept s u e.more n es is) spec sized sh has.counted (has.named named)))

-- shapes

pub counted_more : (ds : List Derivation) (d : Derivation) → AreCounted ds → IsCounted d → AreCounted (ds ++ d ∷ [])
counted_more [] d h is = (is, tt)
counted_more (x ∷ ds) d h is = (h.0, counted_more ds d h.1 is)

pub scope_kept : (s t : State) → length (extents s) ≤ length (extents t) → (p : Option ParameterScope) → HasScope s p
    → HasScope t p
scope_kept s t low None is = tt
scope_kept s t low (Some p) is = record {
  names = is.names;
  tags = λ name x e. numbered_more (length (extents s)) (length (extents t)) low x (is.tags name x e);
}

pub shape_kept : (s t : State) → length (extents s) ≤ length (extents t) → (d : Declarator) (sh : Shape)
    → IsShapeOf s d sh → IsShapeOf t d sh
shape_kept s t low d sh is =
    record { counted = is.counted; named = is.named; scope = scope_kept s t low sh.parameters is.scope }

-- what a list of parameters declares is new in its scope

pub new_there : (behind : Option Meaning) (m : Meaning) → IsSameOr (IsNew true) None behind → behind ≡ Some m
    → IsNew true m
new_there behind m (same e) is = none_new (sym e ∙ is)
  where
    none_new : None ≡ Some m → IsNew true m
    none_new e = cc
new_there behind m (new x e p) is = subst (IsNew true) (the_same (sym e ∙ is)) p

pub parameters_scope : (s t : State) → Extends true (within s) t → IsParameterScope t (parameters_in t.environment)
parameters_scope s t h = record {
  names = λ name m e. new_there (declared name t.environment.names.current) m (h.names name) e;
  tags = λ name x e. h.formed.tags name x (ap (λ z. or_else z (found name t.environment.tags.outer)) e);
}

pub scope_choice : (t : State) (b : Bool) (p : ParameterScope) (o : Option ParameterScope) → IsParameterScope t p
    → HasScope t o → HasScope t (if b then Some p else o)
scope_choice t true p o is h = is
scope_choice t false p o is h = h

pub function_by : (s : State) → IsFormed s → (d e : Declarator) (sh : Shape) → IsShapeOf s d sh
    → (has_name e ≡ true → has_name d ≡ true) → (a : Answer (State × List (List TypeWord)))
    → Extending true (within s) anything a
    → Extending false s (λ u sh. IsShapeOf u e sh)
    (a >>= λ r. (scope_left s.environment.variables >>> λ scope. done (with_function r.1 scope sh)) r.0)
function_by s formed d e sh is h (Ok r) g =
    let after = behind s.environment.variables r.0 in
    let leaves = behind_extends false s r.0 formed g.0 in
    let inner = parameters_scope s r.0 g.0 in (
      leaves,
      record {
        counted = counted_more sh.derivations (to_function r.1) is.counted tt;
        named = λ n. is.named (h n);
        scope = scope_choice after (is_nothing sh.derivations) (parameters_in r.0.environment) sh.parameters
            (record { names = inner.names; tags = inner.tags })
            (scope_kept s after leaves.longer sh.parameters is.scope);
      },
    )
function_by s formed d e sh is h (Err f) g = tt

pub with_one : (s : State) (d e : Declarator) (sh : Shape) → IsShapeOf s d sh → (has_name e ≡ true → has_name d ≡ true)
    → (x : Derivation) → IsCounted x → IsShapeOf s e (with_derivation x sh)
with_one s d e sh is h x counted = record {
  counted = counted_more sh.derivations x is.counted counted;
  named = λ n. is.named (h n);
  scope = is.scope;
}

mutual
  pub typed_extends : (is : Bool) (e : Expression) → is_regular e ≡ true → (s : State) → IsFormed s
      → Extending false s OperandHasWords (typed is e s)
  typed_extends is (t.identifier x) c s formed = named_extends false is (name_of x) x.position.line s formed
  typed_extends is (t.integer x) c s formed =
      done_extends false s OperandHasWords (a_value (integer_constant x.spelling x.position.line)) formed
      (integer_words x.spelling x.position.line)
  typed_extends is (t.character x) c s formed =
      done_extends false s OperandHasWords (a_value (character_constant x.spelling x.position.line)) formed
      (character_words x.spelling x.position.line)
  typed_extends is (t.strings x more) c s formed =
      literal_extends false is (literal_bytes (spellings x more)) x.position.line s formed
  typed_extends is (t.parenthesized l e r) c s formed =
      then_extends false s OperandHasWords OperandHasWords (typed is e s) (λ o. judged (λ s. enclosed l.line o))
      (typed_extends is e c s formed)
      (λ u o g h. judged_extends false u OperandHasWords (enclosed l.line o) g.formed (enclosed_words u l.line o h))
  typed_extends is (t.subscript a l b r) c s formed =
      value_then s (typed is a) OperandHasWords (λ x. valued (typed is b) >>> λ y. judged (indexed l.line x y))
      (typed_extends is a (first _ _ c) s formed)
      (λ u x e hx. value_then u (typed is b) OperandHasWords (λ y. judged (indexed l.line x y))
      (typed_extends is b (second _ _ c) u e.formed)
      (λ w y g hy. judged_extends false w OperandHasWords (indexed l.line x y w) g.formed (place_words w _)))
  typed_extends is (t.call f l args r) c s formed =
      then_extends false s anything OperandHasWords (called_by is (plain_name f) (typed is f) s)
      (applied_to l.line (argument_values is args) (printed_values is args))
      (called_extends false is (plain_name f) (typed is f) s formed (typed_extends is f (first _ _ c) s formed))
      (λ u k e h. applied_to_extends false l.line (argument_values is args) (printed_values is args) k u
      (arguments_extend is args (second _ _ c) u e.formed) (printed_extend is args (second _ _ c) u e.formed))
  typed_extends is (t.member e w at x) c s formed =
      then_extends false s OperandHasWords OperandHasWords (typed is e s) (accessed w at.line (name_of x))
      (typed_extends is e c s formed)
      (λ u o g h. accessed_extends false u g.formed w at.line (name_of x) o h)
  typed_extends is (t.postfix e w at) c s formed =
      then_extends false s OperandHasWords OperandHasWords (typed is e s)
      (λ o. judged (stepped_by (step_form w) fixity.Postfix at.line o)) (typed_extends is e c s formed)
      (λ u o g h. judged_extends false u OperandHasWords (stepped_by (step_form w) fixity.Postfix at.line o u) g.formed
      (stepped_by_words u (step_form w) fixity.Postfix at.line o))
  typed_extends is (t.unary w at e) c s formed =
      then_extends false s OperandHasWords OperandHasWords (typed is e s) (prefixed is (prefix_form_of w) at.line)
      (typed_extends is e c s formed)
      (λ u o g h. prefixed_extends false is u g.formed (prefix_form_of w) at.line o h)
  typed_extends is (t.sizeof_expression at e) c s formed =
      then_extends false s OperandHasWords OperandHasWords (typed false e s) (λ o. judged (sized at.line (type_in o)))
      (typed_extends false e c s formed)
      (λ u o g h. judged_extends false u OperandHasWords (sized at.line (type_in o) u) g.formed
      (sized_words u at.line (type_in o)))
  typed_extends is (t.sizeof_type at l x r) c s formed =
      then_extends false s anything OperandHasWords (type_name x s) (λ type. judged (sized at.line type))
      (name_extends x c s formed)
      (λ u type e h. judged_extends false u OperandHasWords (sized at.line type u) e.formed
      (sized_words u at.line type))
  typed_extends is (t.cast l x r e) c s formed =
      then_extends false s anything OperandHasWords (type_name x s)
      (λ type. valued (typed is e) >>> λ v. judged (cast_to l.line type v)) (name_extends x (first _ _ c) s formed)
      (λ u type g h. value_then u (typed is e) OperandHasWords (λ v. judged (cast_to l.line type v))
      (typed_extends is e (second _ _ c) u g.formed)
      (λ w v g' hv. judged_extends false w OperandHasWords (cast_to l.line type v w) g'.formed
      (cast_to_words w l.line type v)))
  typed_extends is (t.binary a w at b) c s formed =
      value_then s (typed is a) OperandHasWords
      (λ x. valued (typed is b) >>> λ y. judged (combined (binary_form_of w) at.line x y))
      (typed_extends is a (first _ _ c) s formed)
      (λ u x e hx. value_then u (typed is b) OperandHasWords (λ y. judged (combined (binary_form_of w) at.line x y))
      (typed_extends is b (second _ _ c) u e.formed)
      (λ v y g hy. judged_extends false v OperandHasWords (combined (binary_form_of w) at.line x y v) g.formed
      (combined_words v (binary_form_of w) at.line x y hx hy)))
  typed_extends is (t.conditional k q a colon b) c s formed =
      value_then s (typed is k) OperandHasWords
      (λ x. valued (typed is a) >>> λ y. valued (typed is b) >>> λ z. judged (chosen q.line x y z))
      (typed_extends is k (first _ _ (first _ _ c)) s formed)
      (λ u x e hx. value_then u (typed is a) OperandHasWords
      (λ y. valued (typed is b) >>> λ z. judged (chosen q.line x y z))
      (typed_extends is a (second _ _ (first _ _ c)) u e.formed)
      (λ v y g hy. value_then v (typed is b) OperandHasWords (λ z. judged (chosen q.line x y z))
      (typed_extends is b (second _ _ c) v g.formed)
      (λ w z g' hz. judged_extends false w OperandHasWords (chosen q.line x y z w) g'.formed
      (chosen_words w q.line x y z hy hz))))
  typed_extends is (t.assignment a w at b) c s formed =
      then_extends false s OperandHasWords OperandHasWords (typed is a s)
      (λ o. valued (typed is b) >>> λ v. judged (assigned_by (assignment_form_of w) at.line o v))
      (typed_extends is a (first _ _ c) s formed)
      (λ u o e ho. value_then u (typed is b) OperandHasWords
      (λ v. judged (assigned_by (assignment_form_of w) at.line o v)) (typed_extends is b (second _ _ c) u e.formed)
      (λ z v g hv. judged_extends false z OperandHasWords (assigned_by (assignment_form_of w) at.line o v z) g.formed
      (assigned_words z (assignment_form_of w) at.line o v)))

  pub arguments_extend : (is : Bool) (args : Arguments) → are_regular args ≡ true → (s : State) → IsFormed s
      → Extending false s anything (argument_values is args s)
  arguments_extend is t.no_arguments c s formed = (extends_same false s formed, tt)
  arguments_extend is (t.arguments e more) c s formed =
      value_then s (typed is e) anything (λ v. more_values is more (v ∷ []))
      (typed_extends is e (first _ _ c) s formed)
      (λ u v g h. more_extend is more (second _ _ c) (v ∷ []) u g.formed)

  pub more_extend : (is : Bool) (more : MoreArguments) → more_are_regular more ≡ true → (vs : List Value) (s : State)
      → IsFormed s → Extending false s anything (more_values is more vs s)
  more_extend is t.end_of_arguments c vs s formed = (extends_same false s formed, tt)
  more_extend is (t.more_arguments at e more) c vs s formed =
      value_then s (typed is e) anything (λ v. more_values is more (vs ++ v ∷ []))
      (typed_extends is e (first _ _ c) s formed)
      (λ u v g h. more_extend is more (second _ _ c) (vs ++ v ∷ []) u g.formed)

  pub printed_extend : (is : Bool) (args : Arguments) → are_regular args ≡ true → (s : State) → IsFormed s
      → Extending false s anything (printed_values is args s)
  printed_extend is t.no_arguments c s formed = (extends_same false s formed, tt)
  printed_extend is (t.arguments e more) c s formed =
      then_extends false s anything anything (format_by (literal_alone e) (typed is e) s)
      (λ format. more_values is more [] >>> λ vs. done (record { format = Some format; values = vs }))
      (format_extends false (literal_alone e) (typed is e) s formed (typed_extends is e (first _ _ c) s formed))
      (λ u f g h. then_extends false u anything anything (more_values is more [] u)
      (λ vs. done (record { format = Some f; values = vs })) (more_extend is more (second _ _ c) [] u g.formed)
      (λ w vs g' h'. (extends_same false w g'.formed, tt)))

  pub name_extends : (x : TypedDeclarator) → is_regular_name x ≡ true → (s : State) → IsFormed s
      → Extending false s anything (type_name x s)
  name_extends (t.typed specs d) c s formed =
      then_extends false s IsSpecified anything
      (specified_by specs (gathered false (first_line specs) specs nothing_gathered) s)
      (λ spec. shape false d >>> λ sh. judged (type_named spec sh))
      (specified_extends s specs (gathered false (first_line specs) specs nothing_gathered)
      (gathered_extends false (first_line specs) specs (first _ _ c) nothing_gathered tt s formed))
      (λ u spec e h. then_extends false u (λ w sh. IsShapeOf w d sh) anything (shape false d u)
      (λ sh. judged (type_named spec sh)) (shape_extends false d (second _ _ c) u e.formed)
      (λ w sh g is. judged_extends false w anything (type_named spec sh w) g.formed (whatever w
      (type_named spec sh w))))

  pub shape_extends : (in_definition : Bool) (d : Declarator) → is_regular_declarator d ≡ true → (s : State)
      → IsFormed s → Extending false s (λ u sh. IsShapeOf u d sh) (shape in_definition d s)
  shape_extends in_definition (t.named x) c s formed =
      (extends_same false s formed, record { counted = tt; named = λ n. refl; scope = tt })
  shape_extends in_definition t.unnamed c s formed =
      (extends_same false s formed, record { counted = tt; named = λ n. n; scope = tt })
  shape_extends in_definition (t.pointer at consts d) c s formed =
      then_extends false s (λ u sh. IsShapeOf u d sh) (λ u sh. IsShapeOf u (t.pointer at consts d) sh)
      (shape in_definition d s) (λ sh. done (with_derivation (to_pointer (has_words consts)) sh))
      (shape_extends in_definition d c s formed)
      (λ u sh e h. (
        extends_same false u e.formed,
        with_one u d (t.pointer at consts d) sh h (λ n. n) (to_pointer (has_words consts)) tt,
      ))
  shape_extends in_definition (t.grouped l d r) c s formed =
      weaker false s (λ u sh. IsShapeOf u d sh) (λ u sh. IsShapeOf u (t.grouped l d r) sh) (shape in_definition d s)
      (λ u sh is. record { counted = is.counted; named = is.named; scope = is.scope })
      (shape_extends in_definition d c s formed)
  shape_extends in_definition (t.open_array d l r) c s formed =
      then_extends false s (λ u sh. IsShapeOf u d sh) (λ u sh. IsShapeOf u (t.open_array d l r) sh)
      (shape in_definition d s) (λ sh. done (with_derivation to_open_array sh))
      (shape_extends in_definition d c s formed)
      (λ u sh e h. (
        extends_same false u e.formed,
        with_one u d (t.open_array d l r) sh h (λ n. n) to_open_array tt,
      ))
  shape_extends in_definition (t.array d l e r) c s formed =
      then_extends false s (λ u sh. IsShapeOf u d sh) (λ u sh. IsShapeOf u (t.array d l e r) sh)
      (shape in_definition d s)
      (λ sh. valued (typed false e) >>> λ v. done (with_derivation (to_array (count_in v)) sh))
      (shape_extends in_definition d (first _ _ c) s formed)
      (λ u sh g h. value_then u (typed false e) (λ u sh. IsShapeOf u (t.array d l e r) sh)
      (λ v. done (with_derivation (to_array (count_in v)) sh)) (typed_extends false e (second _ _ c) u g.formed)
      (λ w v g' hv. (
        extends_same false w g'.formed,
        with_one w d (t.array d l e r) sh (shape_kept u w g'.longer d sh h) (λ n. n) (to_array (count_in v))
            (count_counted v),
      )))
  shape_extends in_definition (t.function d l ps r) c s formed =
      then_extends false s (λ u sh. IsShapeOf u d sh) (λ u sh. IsShapeOf u (t.function d l ps r) sh)
      (shape in_definition d s)
      (λ sh. scope_opened >>> λ before. parameter_types (in_definition && is_plain_name d) ps
      >>> λ types. scope_left before >>> λ scope. done (with_function types scope sh))
      (shape_extends in_definition d (first _ _ c) s formed)
      (λ u sh e h. function_by u e.formed d (t.function d l ps r) sh h (λ n. n)
      (parameter_types (in_definition && is_plain_name d) ps (within u))
      (parameters_extend (in_definition && is_plain_name d) ps (second _ _ c) (within u)
      (within_formed u e.formed) (within_block u)))

  pub parameters_extend : (in_definition : Bool) (ps : Parameters) → are_regular_parameters ps ≡ true → (s : State)
      → IsFormed s → is_empty s.environment.names.outer ≡ false
      → Extending true s anything (parameter_types in_definition ps s)
  parameters_extend in_definition t.no_parameters c s formed inner = (extends_same true s formed, tt)
  parameters_extend in_definition (t.void_parameters at) c s formed inner = (extends_same true s formed, tt)
  parameters_extend in_definition (t.parameters x more) c s formed inner =
      then_extends true s anything anything (parameter_type in_definition x s)
      (λ type. more_types in_definition more (type ∷ []))
      (parameter_extend in_definition x (first _ _ c) s formed inner)
      (λ u type e h. more_parameters_extend in_definition more (second _ _ c) (type ∷ []) u e.formed
      (ap is_empty e.outer ∙ inner))

  pub more_parameters_extend : (in_definition : Bool) (more : MoreParameters) → more_are_regular_parameters more ≡ true
      → (before : List (List TypeWord)) (s : State) → IsFormed s → is_empty s.environment.names.outer ≡ false
      → Extending true s anything (more_types in_definition more before s)
  more_parameters_extend in_definition t.end_of_parameters c before s formed inner = (extends_same true s formed, tt)
  more_parameters_extend in_definition (t.more_parameters at x more) c before s formed inner =
      then_extends true s anything anything (parameter_type in_definition x s)
      (λ type. more_types in_definition more (before ++ type ∷ []))
      (parameter_extend in_definition x (first _ _ c) s formed inner)
      (λ u type e h. more_parameters_extend in_definition more (second _ _ c) (before ++ type ∷ []) u e.formed
      (ap is_empty e.outer ∙ inner))

  pub parameter_extend : (in_definition : Bool) (x : TypedDeclarator) → is_regular_name x ≡ true → (s : State)
      → IsFormed s → is_empty s.environment.names.outer ≡ false
      → Extending true s anything (parameter_type in_definition x s)
  parameter_extend in_definition (t.typed specs d) c s formed inner =
      then_extends true s IsSpecified anything
      (specified_by specs (gathered false (first_line specs) specs nothing_gathered) s)
      (λ spec. shape false d >>> λ sh. parameter in_definition spec sh)
      (inside s IsSpecified (specified_by specs (gathered false (first_line specs) specs nothing_gathered) s)
      (specified_extends s specs (gathered false (first_line specs) specs nothing_gathered)
      (gathered_extends false (first_line specs) specs (first _ _ c) nothing_gathered tt s formed)))
      (λ u spec e h. then_extends true u (λ w sh. IsShapeOf w d sh) anything (shape false d u)
      (λ sh. parameter in_definition spec sh)
      (inside u (λ w sh. IsShapeOf w d sh) (shape false d u) (shape_extends false d (second _ _ c) u e.formed))
      (λ w sh g is. parameter_extends w g.formed (ap is_empty (g.outer ∙ e.outer) ∙ inner) in_definition spec sh))

  pub gathered_extends : (is_alone : Bool) (line : ℕ) (specs : Specifiers) → are_regular_specifiers specs ≡ true
      → (g : Gathered) → HasType g.type → (s : State) → IsFormed s
      → Extending false s IsGathered (gathered is_alone line specs g s)
  gathered_extends is_alone line t.no_specifiers c g has s formed = (extends_same false s formed, has)
  gathered_extends is_alone line (t.specifiers x more) c g has s formed =
      then_extends false s IsGathered IsGathered (with_specifier is_alone line x g s)
      (λ g'. gathered is_alone line more g') (specifier_extends is_alone line x (first _ _ c) g has s formed)
      (λ u g' e h. gathered_extends is_alone line more (second _ _ c) g' h u e.formed)

  pub specifier_extends : (is_alone : Bool) (line : ℕ) (x : Specifier) → is_regular_specifier x ≡ true → (g : Gathered)
      → HasType g.type → (s : State) → IsFormed s → Extending false s IsGathered (with_specifier is_alone line x g s)
  specifier_extends is_alone line (t.keyword w at) c g has s formed = (extends_same false s formed, has)
  specifier_extends is_alone line (t.typedef_name x) c g has s formed =
      named_then s formed g (typedef_type (name_of x) x.position.line s)
      (typedef_sized s formed (name_of x) x.position.line)
  specifier_extends is_alone line (t.structure w at x) c g has s formed =
      tagged_then s g (tagged_as is_alone (tag_kind w) (name_of x) line s)
      (tagged_extends false s formed is_alone (tag_kind w) (name_of x) line)
  specifier_extends is_alone line (t.structure_body w at x l ms r) c g has s formed =
      then_from false s (BegunFrom s) IsGathered (begun_as (tag_kind w) (tag_name x) line s)
      (λ tag. with_members ms no_entries >>> λ es. tag_completed line tag es >>> λ tag.
      done (with_named (tag_type tag) g))
      (begun_extends false s formed (tag_kind w) (tag_name x) line)
      (λ u tag e h. then_from false s (λ v es. Members v (after ms 0) es × IsBegun v tag) IsGathered
      (with_members ms no_entries u) (λ es. tag_completed line tag es >>> λ tag. done (with_named (tag_type tag) g))
      (from_before false s u (λ v es. Members v (after ms 0) es × IsBegun v tag) e (with_members ms no_entries u)
      (also false u (λ v es. Members v (after ms 0) es) (λ v. IsBegun v tag) (with_members ms no_entries u)
      (λ v f. begun_stays u v f tag h.0)
      (members_extend ms (second _ _ c) 0 no_entries u e.formed (record { each = tt; count = omega arith }))))
      (λ v es f k. tagged_then s g (tag_completed line tag es v)
      (completed_from false s v f.formed f line tag es (some_members ms (first _ _ c) v es k.0) k.1 h.1)))
  specifier_extends is_alone line (t.enumeration at x) c g has s formed =
      tagged_then s g (tagged_as is_alone kind.Enumeration (name_of x) line s)
      (tagged_extends false s formed is_alone kind.Enumeration (name_of x) line)
  specifier_extends is_alone line (t.enumeration_body at x l e more comma r) c g has s formed =
      then_extends false s (BegunFrom s) IsGathered (begun_as kind.Enumeration (tag_name x) line s)
      (λ tag. enumerator (Some 0) e >>> λ next. more_enumerators more next >>> λ next.
      done (with_named (tag_type tag) g))
      (begun_extends false s formed kind.Enumeration (tag_name x) line)
      (λ u tag f h. then_extends false u (λ v o. IsIntIf o) IsGathered (enumerator (Some 0) e u)
      (λ next. more_enumerators more next >>> λ next. done (with_named (tag_type tag) g))
      (enumerator_extend (Some 0) (int_word 0 (omega arith)) e (first _ _ c) u f.formed)
      (λ v next f' h'. then_extends false v (λ w o. IsIntIf o) IsGathered (more_enumerators more next v)
      (λ next. done (with_named (tag_type tag) g)) (more_enumerators_extend more (second _ _ c) next h' v f'.formed)
      (λ w next f'' h''. (extends_same false w f''.formed, tag_sized tag))))

  pub members_extend : (ms : t.Members) → are_regular_members ms ≡ true → (n : ℕ) (es : Entries) (s : State)
      → IsFormed s → Members s n es → Extending false s (λ u es. Members u (after ms n) es) (with_members ms es s)
  members_extend t.no_members c n es s formed is = (extends_same false s formed, is)
  members_extend (t.members m more) c n es s formed is =
      then_extends false s (λ u es. Members u (suc n) es) (λ u es. Members u (suc n) es) (with_member m es s)
      (λ es. with_members more es) (member_extend m (first _ _ c) n es s formed is)
      (λ u es e h. weaker false u (λ u es. Members u (after more (suc n)) es) (λ u es. Members u (suc n) es)
      (with_members more es u) (λ v es k. no_less more (suc n) v es k)
      (members_extend more (second _ _ c) (suc n) es u e.formed h))

  pub member_extend : (m : t.Member) → is_regular_member m ≡ true → (n : ℕ) (es : Entries) (s : State) → IsFormed s
      → Members s n es → Extending false s (λ u es. Members u (suc n) es) (with_member m es s)
  member_extend (t.member_declaration specs d more at) c n es s formed is =
      then_extends false s IsSpecified (λ u es. Members u (suc n) es)
      (specified_by specs (gathered false (first_line specs) specs nothing_gathered) s)
      (λ spec. judged (λ s. member_specified spec) >>> λ spec. with_shape spec es (shape false d) >>> λ es.
      with_more_declared spec more es)
      (specified_extends s specs (gathered false (first_line specs) specs nothing_gathered)
      (gathered_extends false (first_line specs) specs (first _ _ (first _ _
      (first _ _ c))) nothing_gathered tt s formed))
      (λ u spec e h. then_extends false u IsSpecified (λ u es. Members u (suc n) es)
      (judged (λ s. member_specified spec) u)
      (λ spec. with_shape spec es (shape false d) >>> λ es. with_more_declared spec more es)
      (judged_extends false u IsSpecified (member_specified spec) e.formed
      (member_by u (spec.has_two_storages || has_storage spec.storage) spec.line spec h))
      (λ v spec f k. then_extends false v (λ u es. Members u (suc n) es) (λ u es. Members u (suc n) es)
      (with_shape spec es (shape false d) v) (λ es. with_more_declared spec more es)
      (shape_then v spec k n es (members_kept s v
      (more_more (extents s) (extents u) (extents v) e.more f.more) n es is) d
      (second _ _ (first _ _ (first _ _ c))) (shape false d)
      (shape_extends false d (second _ _ (first _ _ c)) v f.formed))
      (λ w es f' is'. more_declared_extend spec k more (second _ _ c) (suc n) es w f'.formed is')))

  pub more_declared_extend : (spec : Specification) → is_sized_array spec.type ≡ true → (more : MoreDeclarators)
      → more_are_regular_declarators more ≡ true → (n : ℕ) (es : Entries) (s : State) → IsFormed s → Members s n es
      → Extending false s (λ u es. Members u n es) (with_more_declared spec more es s)
  more_declared_extend spec sized t.end_of_declarators c n es s formed is = (extends_same false s formed, is)
  more_declared_extend spec sized (t.more_declarators at d more) c n es s formed is =
      then_extends false s (λ u es. Members u (suc n) es) (λ u es. Members u n es)
      (with_shape spec es (shape false d) s) (λ es. with_more_declared spec more es)
      (shape_then s spec sized n es is d (first _ _ (first _ _ c)) (shape false d)
      (shape_extends false d (second _ _ (first _ _ c)) s formed))
      (λ u es e h. more_declared_extend spec sized more (second _ _ c) n es u e.formed (less u n es h))

  pub enumerator_extend : (next : Option ℕ) → IsIntIf next → (e : Enumerator) → is_regular_enumerator e ≡ true
      → (s : State) → IsFormed s → Extending false s (λ u o. IsIntIf o) (enumerator next e s)
  enumerator_extend next is (t.plain x) c s formed =
      enumerated_extends false s formed (name_of x) x.position.line next is
  enumerator_extend next is (t.valued x at e) c s formed =
      value_then s (typed false e) (λ u o. IsIntIf o)
      (λ v. enumerated_as (name_of x) x.position.line (enumeration_value v)) (typed_extends false e c s formed)
      (λ u v g h. enumerated_extends false u g.formed (name_of x) x.position.line (enumeration_value v)
      (enumeration_int v h))

  pub more_enumerators_extend : (more : MoreEnumerators) → more_are_regular_enumerators more ≡ true → (next : Option ℕ)
      → IsIntIf next → (s : State) → IsFormed s → Extending false s (λ u o. IsIntIf o) (more_enumerators more next s)
  more_enumerators_extend t.end_of_enumerators c next is s formed = (extends_same false s formed, is)
  more_enumerators_extend (t.more_enumerators at x more) c next is s formed =
      then_extends false s (λ u o. IsIntIf o) (λ u o. IsIntIf o) (enumerator next x s)
      (λ next. more_enumerators more next) (enumerator_extend next is x (first _ _ c) s formed)
      (λ u next e h. more_enumerators_extend more (second _ _ c) next h u e.formed)

pub specification_extends : (is_alone : Bool) (specs : Specifiers) → are_regular_specifiers specs ≡ true → (s : State)
    → IsFormed s → Extending false s IsSpecified (specification is_alone specs s)
specification_extends is_alone specs c s formed =
    specified_extends s specs (gathered is_alone (first_line specs) specs nothing_gathered)
    (gathered_extends is_alone (first_line specs) specs c nothing_gathered tt s formed)
