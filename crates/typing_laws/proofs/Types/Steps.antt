-- Constructs that are typed one behind the other, and what each of them makes of types that are spelled.
use Rattle.std.proofs.Common.{◌≡◌, ℕ, zero, suc, ◌==◌, Bool, true, false, ◌||◌, refl, sym, subst, List, [], ◌∷◌}
use Rattle.std.proofs.Common.{Option, Some, None, if◌then◌else◌, length}
use Rattle.std.specs.Prelude.{Ok, Err, not, is_some, option_map, slice_get}
use Rattle.std.proofs.lemmas.Bool.{and_from, eq-eqb}
use Rattle.obj_memory.specs.declared.int_type.IntType.TheVariants as int
use Rattle.obj_memory.specs.Integers.{size_of}
use Rattle.c_lexer.specs.declared.punctuator.Punctuator.{Punctuator}
use Rattle.c_lexer.specs.declared.punctuator.Punctuator.TheVariants as sign
use Rattle.c_syntax.specs.declared.position.Spelled.{Spelled}
use Rattle.c_tree.specs.declared.c_type.TypeWord.{TypeWord}
use Rattle.c_tree.specs.declared.c_type.TypeWord.TheVariants as word
use Rattle.c_tree.specs.declared.expression.Fixity.TheVariants as fixity
use Rattle.c_tree.specs.Extents.{TypeExtent, extent_of}
use Rattle.c_tree.specs.Layout.{array_size}
use Rattle.c_tree.specs.Tree.{LvalueNode, arrow as arrow_node, automatic, member as member_node}
use Rattle.c_tree.specs.Tree.{member_of_value as member_of_value_node, static}
use Rattle.c_faults.specs.declared.fault.Rule.TheVariants as rule
use Rattle.c_faults.specs.Answer.{Answer, violates, ◌>>=◌}
use Rattle.c_rules.specs.Types.{unqualified}
use Rattle.c_rules.specs.Values.{Value}
use Rattle.c_tree.specs.declared.member.Member.{Member}
use Rattle.c_place_rules.specs.Operands.{Operand, a_value, a_place, a_variable, a_function}
use Rattle.c_place_rules.specs.Places.{address, arrow, member_view, selected, structure_of, type_in}
use Rattle.c_place_rules.specs.Places as places
use Rattle.c_place_rules.specs.Targets.{constant, is_const, object_kind, pointee_of, qualified}
use Rattle.c_assignment_rules.specs.Assignable.{is_unsized_structure}
use Rattle.c_call_rules.specs.Calls.{called, called_if, called_through, of_function, of_pointer, of_routine}
use Rattle.c_call_rules.specs.FunctionTypes.{callee_type}
use Rattle.c_call_rules.specs.Printing.{Format, another, formatted}
use Rattle.c_tree.specs.Routines.{routine_words}
use Rattle.c_scope.specs.declared.meaning.Designated.{Designated}
use Rattle.c_scope.specs.declared.meaning.Designated.TheVariants as what
use Rattle.c_scope.specs.declared.meaning.LibraryFunction.{LibraryFunction}
use Rattle.c_scope.specs.declared.meaning.LibraryFunction.TheVariants as library
use Rattle.c_scope.specs.declared.meaning.Meaning.{Meaning}
use Rattle.c_scope.specs.declared.meaning.Meaning.TheVariants as meaning
use Rattle.c_scope.specs.Enumerators.{with_value}
use Rattle.c_scope.specs.Names.{Name, declared}
use Rattle.c_scope.specs.Names as names
use Rattle.c_scope.specs.Structures.{Body, member_in as member_of_body, member_of}
use Rattle.c_operand_typing.specs.declared.forms.PrefixForm.{PrefixForm}
use Rattle.c_operand_typing.specs.declared.forms.PrefixForm.TheVariants as form
use Rattle.c_operand_typing.specs.Calls.{Called, a_function, a_pointer, a_printf, a_routine, applied, callee_number}
use Rattle.c_operand_typing.specs.Calls.{called_by_value, called_plainly, library_called, name_called, plainly_or}
use Rattle.c_operand_typing.specs.Calls.{pointer_called, printed, with_callee_type}
use Rattle.c_operand_typing.specs.Operators.{arrowed, as_operand, as_place, as_value, dotted, member_in}
use Rattle.c_operand_typing.specs.Operators.{stepped_by, structure_behind, unary_value, value_among}
use Rattle.c_operand_typing.specs.Primaries.{designated, is_aggregate, is_object, literal, literal_type, meant}
use Rattle.c_operand_typing.specs.Primaries.{named, place, plain_variable, size_or_zero, used_as}
use Rattle.c_declarator_typing.specs.Sizes.{next_value}
use Rattle.c_declarator_typing.specs.Specifications.{typedef_meant, typedef_type}
use Rattle.c_typing_state.specs.State.{State, Typing, extents, judged, ◌>>>◌}
use Rattle.c_expression_typing.specs.Constructs.{Printing, accessed, applied_to, called_by, enumerated_as, format_by}
use Rattle.c_expression_typing.specs.Constructs.{prefixed, valued}
use Rattle.c_expression_typing.specs.Lines.{name_of}
use Rattle.typing_laws.specs.Declarators.Extending.{Extending, Extends}
use Rattle.typing_laws.specs.Declarators.Given.{OperandHasWords, anything}
use Rattle.typing_laws.specs.SpelledTypes.Spelled.{IsFunctionType, IsValueType, is_readable}
use Rattle.typing_laws.proofs.SpelledTypes.Words.{callee_spelled, qualified_spelled}
use Rattle.typing_laws.specs.Types.Typed.{AreMembers, Each, HasType, IsCalled, IsNamed, IsSpelled, OfType}
use Rattle.typing_laws.specs.Types.Typed.{OfValueType, OfValueTypes, Typed, Types, nothing}
use Rattle.typing_laws.proofs.Types.Calls.{called_kinded, called_type, formatted_type, routine_spelled}
use Rattle.typing_laws.specs.Validity.More.{AreMore}
use Rattle.typing_laws.specs.Validity.Steps.{Structures}
use Rattle.typing_laws.proofs.Validity.Common.{the_same}
use Rattle.typing_laws.proofs.Validity.Constructs.{address_made, as_made, with_state}
use Rattle.typing_laws.proofs.Validity.Sound.{IfAnswer}
use Rattle.typing_laws.proofs.Types.Kept.{each_declared, each_map, each_meaning, spelled_kept, value_kept}
use Rattle.typing_laws.proofs.Types.Operators.{IfOperand, IfValue, address_type, among_type, operand_of_type}
use Rattle.typing_laws.proofs.Types.Operators.{object_type, stepped_by_type, unary_value_type}
use Rattle.typing_laws.proofs.Types.States.{Stays, address_stays, literal_stays, name_types, type_stays}
use Rattle.typing_laws.proofs.Types.States.{used_stays}

-- one behind the other

pub then_typed : {A B : Type 0} (b : Bool) (s : State) (p : State → A → Type 0) (g : Structures → A → Type 0)
    (h : Structures → B → Type 0) (a : Answer (State × A)) (next : A → Typing B) → Extending b s p a → Typed g a
    → ((t : State) (x : A) → Extends b s t → p t x → Types t → g (extents t) x → Typed h (next x t))
    → Typed h (a >>= λ r. next r.1 r.0)
then_typed b s p g h (Ok r) next e is k = k r.0 r.1 e.0 e.1 is.0 is.1
then_typed b s p g h (Err f) next e is k = tt

pub judged_typed : {A : Type 0} (g : Structures → A → Type 0) (s : State) (a : Answer A) → Types s
    → IfAnswer (g (extents s)) a → Typed g (a >>= λ x. Ok (s, x))
judged_typed g s (Ok x) types is = (types, is)
judged_typed g s (Err f) types is = tt

pub used_typed : {A : Type 0} (g : Structures → A → Type 0) (s t : State) → Stays s t → Types s → (a : Answer A)
    → IfAnswer (g (extents s)) a → Typed g (a >>= λ x. Ok (t, x))
used_typed g s t stays types (Ok x) is = (stays.types types, subst (λ es. g es x) (sym stays.extents) is)
used_typed g s t stays types (Err f) is = tt

pub weaker_typed : {A : Type 0} (g h : Structures → A → Type 0) (a : Answer (State × A))
    → ((es : Structures) (x : A) → g es x → h es x) → Typed g a → Typed h a
weaker_typed g h (Ok r) k is = (is.0, k (extents r.0) r.1 is.1)
weaker_typed g h (Err f) k is = tt

-- values

pub value_typed : (s : State) → Types s → (o : Operand) → OfType (extents s) o → Typed OfValueType (as_value o s)
value_typed s types o h = judged_typed OfValueType s (value_among (extents s) o) types (among_type (extents s) o h)

pub valued_typed : (s : State) (operand : Typing Operand) → Extending false s OperandHasWords (operand s)
    → Typed OfType (operand s) → Typed OfValueType (valued operand s)
valued_typed s operand e h =
    then_typed false s OperandHasWords OfType OfValueType (operand s) as_value e h
    (λ t o g w types is. value_typed t types o is)

-- names

plain_readable : (es : Structures) (type : List TypeWord) → is_aggregate type ≡ false → is_readable es type ≡ true
plain_readable es [] e = refl
plain_readable es (word.Structure n ∷ ws) e = absurd cc
plain_readable es (word.Const ∷ ws) e = plain_readable es ws e
plain_readable es (word.Void ∷ ws) e = refl
plain_readable es (word.Integer t ∷ ws) e = refl
plain_readable es (word.Enumeration n ∷ ws) e = refl
plain_readable es (word.Pointer ∷ ws) e = refl
plain_readable es (word.Array c b ∷ ws) e = refl
plain_readable es (word.OpenArray ∷ ws) e = refl
plain_readable es (word.Takes ∷ ws) e = refl
plain_readable es (word.Gives ∷ ws) e = refl

no_aggregate : (a b c : Bool) → (a || b || c) ≡ false → b ≡ false
no_aggregate true b c e = absurd cc
no_aggregate false true c e = absurd cc
no_aggregate false false c e = refl

-- an object that is named is complete where its bytes are counted

bytes_counted : (o : Option TypeExtent) → (size_or_zero o == 0) ≡ false → is_some o ≡ true
bytes_counted None e = absurd cc
bytes_counted (Some x) e = refl

sized_readable : (es : Structures) (size : ℕ) (type : List TypeWord)
    → ((size == 0) ≡ false → is_some (extent_of es type) ≡ true)
    → is_unsized_structure (object_kind size type) ≡ false → is_readable es type ≡ true
unfolding extent_of
sized_readable es size [] h e = refl
sized_readable es size (word.Structure n ∷ ws) h e = h e
sized_readable es size (word.Const ∷ ws) h e = sized_readable es size ws h e
sized_readable es size (word.Void ∷ ws) h e = refl
sized_readable es size (word.Integer t ∷ ws) h e = refl
sized_readable es size (word.Enumeration n ∷ ws) h e = refl
sized_readable es size (word.Pointer ∷ ws) h e = refl
sized_readable es size (word.Array c b ∷ ws) h e = refl
sized_readable es size (word.OpenArray ∷ ws) h e = refl
sized_readable es size (word.Takes ∷ ws) h e = refl
sized_readable es size (word.Gives ∷ ws) h e = refl

place_typed : (es : Structures) (line : ℕ) (type : List TypeWord) (node : LvalueNode) → IsSpelled es type
    → OfType es (place es line type node)
place_typed es line type node h = record {
  spelled = h;
  readable = sized_readable es (size_or_zero (extent_of es type)) type (bytes_counted (extent_of es type));
}

variable_typed : (es : Structures) (b : Bool) (line n : ℕ) (type : List TypeWord) → IsSpelled es type
    → (b ≡ false → is_aggregate type ≡ false)
    → OfType es (if b then place es line type (automatic n) else plain_variable es line n type)
variable_typed es true line n type is plain = place_typed es line type (automatic n) is
variable_typed es false line n type is plain =
    record { spelled = is; readable = plain_readable es type (plain refl) }

designated_typed : (is : Bool) (line : ℕ) (d : Designated) (type : List TypeWord) (s : State)
    → HasType (extents s) d type → IfOperand (extents s) (designated is line d type s)
designated_typed is line (what.Object n) type s h = place_typed (extents s) line type (static n) h
designated_typed is line (what.Static n) type s h = place_typed (extents s) line type (static n) h
designated_typed is line (what.Function n) type s h = h
designated_typed is line (what.Library f) type s h = tt
designated_typed is line (what.Variable n) type s h =
    variable_typed (extents s) (is_object is s n type) line n type h
    (λ e. no_aggregate (not is) (is_aggregate type) _ e)

meant_typed : (is : Bool) (line : ℕ) (m : Option Meaning) (s : State)
    → ((x : Meaning) → m ≡ Some x → IsNamed (extents s) x) → IfOperand (extents s) (meant is line m s)
meant_typed is line None s h = tt
meant_typed is line (Some (meaning.Typedef type)) s h = tt
meant_typed is line (Some (meaning.Constant w)) s h = record { spelled = refl; readable = refl }
meant_typed is line (Some (meaning.Named d type)) s h =
    designated_typed is line d type s (h (meaning.Named d type) refl)

pub names_typed : (s : State) → Types s → (name : Name) (x : Meaning)
    → names.meaning name s.environment.names ≡ Some x → IsNamed (extents s) x
names_typed s h name x e = each_meaning (IsNamed (extents s)) name s.environment.names h.outer h.current x e

pub named_typed : (is : Bool) (name : Name) (line : ℕ) (s : State) → Types s → Typed OfType (named is name line s)
named_typed is name line s types =
    let m = names.meaning name s.environment.names in
    used_typed OfType s (used_as is line m s) (used_stays is line m s) types (meant is line m s)
    (meant_typed is line m s (names_typed s types name))

-- literals

characters_spelled : (es : Structures) (size : ℕ) → IsSpelled es (literal_type size)
unfolding extent_of
characters_spelled es size =
    and_from (array_size size (size_of int.Char) == array_size size (size_of int.Char)) true
    (eq-eqb (array_size size (size_of int.Char)) (array_size size (size_of int.Char)) refl) refl

pub literal_typed : (is : Bool) (bytes : List ℕ) (line : ℕ) (s : State) → Types s
    → Typed OfType (literal is bytes line s)
literal_typed is bytes line s types = (
  (literal_stays is bytes s).types types,
  record { spelled = characters_spelled _ (length bytes); readable = λ e. refl },
)

-- unary operators

addressed_by : (is : Bool) (o : Operand) (s : State) → Types s → (a : Answer Value) → IfValue (extents s) a
    → Typed OfType (a >>= address_made is o s >>= as_made)
addressed_by is o s types (Ok v) h =
    ((address_stays is o s).types types, subst (λ es. OfValueType es v) (sym (address_stays is o s).extents) h)
addressed_by is o s types (Err f) h = tt

unary_by : (s : State) → Types s → (f : PrefixForm) (line : ℕ) (o : Operand) → OfType (extents s) o
    → Typed OfType ((as_value o >>> λ v. judged (unary_value f line v)) s)
unary_by s types f line o h =
    by (value_among (extents s) o) (among_type (extents s) o h)
  where
    by : (a : Answer Value) → IfValue (extents s) a
        → Typed OfType (a >>= with_state s >>= λ r. (judged (unary_value f line r.1)) r.0)
    by (Ok v) is = judged_typed OfType s (unary_value f line v s) types (unary_value_type s f line v is)
    by (Err e) is = tt

pub prefixed_typed : (is : Bool) (s : State) → Types s → (f : PrefixForm) (line : ℕ) (o : Operand)
    → OfType (extents s) o → Typed OfType (prefixed is f line o s)
prefixed_typed is s types form.Address line o h =
    addressed_by is o s types (address line o) (address_type (extents s) line o h)
prefixed_typed is s types (form.Step op) line o h =
    judged_typed OfType s (stepped_by (form.Step op) fixity.Prefix line o s) types
    (stepped_by_type s (form.Step op) fixity.Prefix line o h)
prefixed_typed is s types form.Dereference line o h = unary_by s types form.Dereference line o h
prefixed_typed is s types (form.Value op) line o h = unary_by s types (form.Value op) line o h
prefixed_typed is s types form.Nothing line o h = unary_by s types form.Nothing line o h

-- members

member_by : (es : Structures) (o : Option Body) → ((b : Body) → o ≡ Some b → AreMembers es b) → (name : Name)
    (m : Member) → member_of_body name o ≡ Some m → IsValueType es m.c_type
member_by es None h name m e = absurd cc
member_by es (Some b) h name m e = each_declared (λ m. IsValueType es m.c_type) name m b.members (h b refl) e

pub each_got : {A : Type 0} (p : A → Type 0) (xs : List A) → Each p xs → (n : ℕ) (x : A) → slice_get xs n ≡ Some x → p x
each_got p [] h n x e = absurd cc
each_got p (y ∷ ys) h zero x e = subst p (the_same e) h.0
each_got p (y ∷ ys) h (suc n) x e = each_got p ys h.1 n x e

member_typed : (s : State) → Types s → (n : ℕ) (name : Name) (m : Member)
    → member_of n name s.environment.structures.bodies ≡ Some m → IsValueType (extents s) m.c_type
member_typed s types n name m e =
    member_by (extents s) (slice_get s.environment.structures.bodies n)
    (λ b g. each_got (AreMembers (extents s)) s.environment.structures.bodies types.members n b g) name m e

view_by : (es : Structures) (o : Option Member) → ((m : Member) → o ≡ Some m → IsValueType es m.c_type)
    → (x : places.Member) → option_map member_view o ≡ Some x → IsValueType es x.type
view_by es None h x e = absurd cc
view_by es (Some m) h x e = subst (λ z. IsValueType es z.type) (the_same e) (h m refl)

found_member : (s : State) → Types s → (o : Option ℕ) (name : Name) (x : places.Member)
    → member_in o name s ≡ Some x → IsValueType (extents s) x.type
found_member s types None name x e = absurd cc
found_member s types (Some n) name x e =
    view_by (extents s) (member_of n name s.environment.structures.bodies) (member_typed s types n name) x e

constant_readable : (es : Structures) (ws : List TypeWord) → is_readable es ws ≡ true
    → is_readable es (constant ws) ≡ true
constant_readable es [] e = e
constant_readable es (word.Structure n ∷ ws) e = e
constant_readable es (word.Const ∷ ws) e = e
constant_readable es (word.Void ∷ ws) e = e
constant_readable es (word.Integer t ∷ ws) e = e
constant_readable es (word.Enumeration n ∷ ws) e = e
constant_readable es (word.Pointer ∷ ws) e = e
constant_readable es (word.Array c b ∷ ws) e = e
constant_readable es (word.OpenArray ∷ ws) e = e
constant_readable es (word.Takes ∷ ws) e = e
constant_readable es (word.Gives ∷ ws) e = e

qualified_type : (es : Structures) (b : Bool) (ws : List TypeWord) → IsValueType es ws
    → IsValueType es (qualified b ws)
qualified_type es true ws h = record {
  spelled = qualified_spelled es true ws h.spelled;
  readable = constant_readable es ws h.readable;
}
qualified_type es false ws h = h

selected_typed : (es : Structures) (line : ℕ) (m : Option places.Member)
    → ((x : places.Member) → m ≡ Some x → IsValueType es x.type) → (o : Operand)
    → IfOperand es (as_place (selected line m o))
selected_typed es line None h o = tt
selected_typed es line (Some m) h (a_value v) =
    object_type es m.type m.size line (member_of_value_node v.tree m.offset m.size) (h m refl)
selected_typed es line (Some m) h (a_place p) =
    object_type es (qualified (is_const p.type) m.type) m.size line (member_node p.tree m.offset m.size)
    (qualified_type es (is_const p.type) m.type (h m refl))
selected_typed es line (Some m) h (a_variable x) = tt
selected_typed es line (Some m) h (a_function f) = tt

arrow_typed : (es : Structures) (line : ℕ) (m : Option places.Member)
    → ((x : places.Member) → m ≡ Some x → IsValueType es x.type) → (v : Value)
    → IfOperand es (as_place (arrow line m v))
arrow_typed es line None h v = tt
arrow_typed es line (Some m) h v =
    object_type es (qualified (is_const (pointee_of v.type)) m.type) m.size line (arrow_node v.tree m.offset m.size)
    (qualified_type es (is_const (pointee_of v.type)) m.type (h m refl))

arrowed_by : (s : State) → Types s → (line : ℕ) (name : Name) (a : Answer Value)
    → Typed OfType (a >>= with_state s >>= λ r. (judged (arrowed line name r.1)) r.0)
arrowed_by s types line name (Ok v) =
    judged_typed OfType s (arrowed line name v s) types
    (arrow_typed (extents s) line (member_in (structure_behind (unqualified v.type)) name s)
    (found_member s types (structure_behind (unqualified v.type)) name) v)
arrowed_by s types line name (Err f) = tt

pub accessed_typed : (s : State) → Types s → (w : Punctuator) (line : ℕ) (name : Name) (o : Operand)
    → OfType (extents s) o → Typed OfType (accessed w line name o s)
accessed_typed s types sign.Dot line name o h =
    judged_typed OfType s (dotted line name o s) types
    (selected_typed (extents s) line (member_in (structure_of (type_in o)) name s)
    (found_member s types (structure_of (type_in o)) name) o)
accessed_typed s types sign.Arrow line name o h = arrowed_by s types line name (value_among (extents s) o)
accessed_typed s types w line name o h = tt

-- calls

pointer_called_typed : (es : Structures) (a : Answer Value) → IfValue es a
    → IfAnswer (IsCalled es) (a >>= λ v. Ok (a_pointer v))
pointer_called_typed es (Ok v) h = h
pointer_called_typed es (Err f) h = tt

operand_called : (s : State) (o : Operand) → OfType (extents s) o → IfAnswer (IsCalled (extents s)) (pointer_called o s)
operand_called s o h = pointer_called_typed (extents s) (value_among (extents s) o) (among_type (extents s) o h)

value_called : (s : State) (a : Answer Operand) → IfOperand (extents s) a
    → IfAnswer (IsCalled (extents s)) (a >>= λ o. pointer_called o s)
value_called s (Ok o) h = operand_called s o h
value_called s (Err f) h = tt

library_typed : (es : Structures) (f : LibraryFunction) → IsCalled es (library_called f)
library_typed es (library.Routine r) = tt
library_typed es library.Printf = tt

plainly_typed : (is : Bool) (line : ℕ) (m : Option Meaning) (s : State)
    → ((x : Meaning) → m ≡ Some x → IsNamed (extents s) x)
    → IfAnswer (IsCalled (extents s)) (plainly_or (called_plainly m) (called_by_value is line m s))
plainly_typed is line (Some (meaning.Named (what.Function n) type)) s h = h _ refl
plainly_typed is line (Some (meaning.Named (what.Library f) type)) s h = library_typed (extents s) f
plainly_typed is line None s h = value_called s (meant is line None s) (meant_typed is line None s h)
plainly_typed is line (Some (meaning.Typedef type)) s h =
    value_called s (meant is line (Some (meaning.Typedef type)) s) (meant_typed is line _ s h)
plainly_typed is line (Some (meaning.Constant w)) s h =
    value_called s (meant is line (Some (meaning.Constant w)) s) (meant_typed is line _ s h)
plainly_typed is line (Some (meaning.Named (what.Object n) type)) s h =
    value_called s (meant is line (Some (meaning.Named (what.Object n) type)) s) (meant_typed is line _ s h)
plainly_typed is line (Some (meaning.Named (what.Static n) type)) s h =
    value_called s (meant is line (Some (meaning.Named (what.Static n) type)) s) (meant_typed is line _ s h)
plainly_typed is line (Some (meaning.Named (what.Variable n) type)) s h =
    value_called s (meant is line (Some (meaning.Named (what.Variable n) type)) s) (meant_typed is line _ s h)

name_called_typed : (is : Bool) (name : Name) (line : ℕ) (s : State) → Types s
    → Typed IsCalled (name_called is name line s)
name_called_typed is name line s types =
    let m = names.meaning name s.environment.names in
    used_typed IsCalled s (used_as is line m s) (used_stays is line m s) types
    (plainly_or (called_plainly m) (called_by_value is line m s)) (plainly_typed is line m s (names_typed s types name))

pub called_typed : (is : Bool) (name : Option Spelled) (operand : Typing Operand) (s : State) → Types s
    → Extending false s OperandHasWords (operand s) → Typed OfType (operand s)
    → Typed IsCalled (called_by is name operand s)
called_typed is (Some x) operand s types e h = name_called_typed is (name_of x) x.position.line s types
called_typed is None operand s types e h =
    then_typed false s OperandHasWords OfType IsCalled (operand s) (λ o. judged (pointer_called o)) e h
    (λ t o g w types is. judged_typed IsCalled t (pointer_called o t) types (operand_called t o is))

through_by : (s : State) → Types s → (type : List TypeWord) (a : Answer Value) → IfValue (extents s) a
    → IfAnswer (λ v. IsFunctionType (extents s) type) a
    → Typed OfType (as_operand a >>= λ o. Ok (with_callee_type (Some type) s, o))
through_by s types type (Ok v) h k =
    let stays = type_stays type s k in
    (stays.types types, subst (λ es. OfValueType es v) (sym stays.extents) h)
through_by s types type (Err f) h k = tt

pointer_typed : (s : State) → Types s → (line n : ℕ) (v : Value) (vs : List Value) → OfValueType (extents s) v
    → OfValueTypes (extents s) vs → (o : Option (List TypeWord)) → callee_type v.type ≡ o
    → Typed OfType (as_operand (called_if (extents s) line n o v vs) >>= λ x. Ok (with_callee_type o s, x))
pointer_typed s types line n v vs h hs None e = tt
pointer_typed s types line n v vs h hs (Some type) e =
    let is = callee_spelled (extents s) v.type h.spelled type e in
    through_by s types type (called (extents s) line (of_pointer n v.tree) type vs)
    (called_type (extents s) line (of_pointer n v.tree) type vs is)
    (called_kinded (extents s) line (of_pointer n v.tree) type vs is hs)

pointer_applied_typed : (s : State) → Types s → (line : ℕ) (v : Value) (vs : List Value) → OfValueType (extents s) v
    → OfValueTypes (extents s) vs → Typed OfType (applied line (a_pointer v) vs s)
unfolding called_through
pointer_applied_typed s types line v vs h hs =
    pointer_typed s types line (callee_number (callee_type v.type) s) v vs h hs (callee_type v.type) refl

pub applied_typed : (s : State) → Types s → (line : ℕ) (c : Called) → IsCalled (extents s) c → (vs : List Value)
    → OfValueTypes (extents s) vs → Typed OfType (applied line c vs s)
applied_typed s types line (a_function n type) h vs hs =
    judged_typed OfType s (as_operand (called (extents s) line (of_function n) type vs)) types
    (operand_of_type (extents s) (called (extents s) line (of_function n) type vs)
    (called_type (extents s) line (of_function n) type vs h))
applied_typed s types line (a_routine r) h vs hs =
    judged_typed OfType s (as_operand (called (extents s) line (of_routine r) (routine_words r) vs)) types
    (operand_of_type (extents s) (called (extents s) line (of_routine r) (routine_words r) vs)
    (called_type (extents s) line (of_routine r) (routine_words r) vs (routine_spelled (extents s) r)))
applied_typed s types line a_printf h vs hs =
    judged_typed OfType s (printed line None vs s) types
    (operand_of_type (extents s) (formatted (extents s) line None vs) (formatted_type (extents s) line None vs))
applied_typed s types line (a_pointer v) h vs hs = pointer_applied_typed s types line v vs h hs

printed_typed : (s : State) → Types s → (line : ℕ) (f : Option Format) (vs : List Value)
    → Typed OfType (judged (printed line f vs) s)
printed_typed s types line f vs =
    judged_typed OfType s (printed line f vs s) types
    (operand_of_type (extents s) (formatted (extents s) line f vs) (formatted_type (extents s) line f vs))

called_kept : (es more : Structures) → AreMore es more → (c : Called) → IsCalled es c → IsCalled more c
called_kept es more h (a_function n type) is = spelled_kept es more h type is
called_kept es more h (a_routine r) is = tt
called_kept es more h a_printf is = tt
called_kept es more h (a_pointer v) is = value_kept es more h v.type is

pub values_kept : (es more : Structures) → AreMore es more → (vs : List Value) → OfValueTypes es vs
    → OfValueTypes more vs
values_kept es more h vs is = each_map (OfValueType es) (OfValueType more) (λ v. value_kept es more h v.type) vs is

values_by : (line : ℕ) (c : Called) (values : Typing (List Value)) (s : State) → IsCalled (extents s) c
    → Extending false s anything (values s) → Typed OfValueTypes (values s)
    → Typed OfType ((values >>> λ vs. applied line c vs) s)
values_by line c values s k e h =
    then_typed false s anything OfValueTypes OfType (values s) (λ vs. applied line c vs) e h
    (λ t vs g w types is. applied_typed t types line c (called_kept (extents s) (extents t) g.more c k) vs is)

printing_by : (line : ℕ) (printing : Typing Printing) (s : State) → Extending false s anything (printing s)
    → Typed nothing (printing s) → Typed OfType ((printing >>> λ p. judged (printed line p.format p.values)) s)
printing_by line printing s e h =
    then_typed false s anything nothing OfType (printing s) (λ p. judged (printed line p.format p.values)) e h
    (λ t p g w types is. printed_typed t types line p.format p.values)

pub applied_to_typed : (line : ℕ) (values : Typing (List Value)) (printing : Typing Printing) (c : Called) (s : State)
    → IsCalled (extents s) c → Extending false s anything (values s) → Typed OfValueTypes (values s)
    → Extending false s anything (printing s) → Typed nothing (printing s)
    → Typed OfType (applied_to line values printing c s)
applied_to_typed line values printing (a_function n type) s k e h f g =
    values_by line (a_function n type) values s k e h
applied_to_typed line values printing (a_routine r) s k e h f g = values_by line (a_routine r) values s k e h
applied_to_typed line values printing a_printf s k e h f g = printing_by line printing s f g
applied_to_typed line values printing (a_pointer v) s k e h f g = values_by line (a_pointer v) values s k e h

pub format_typed : (names : Option (List Name)) (operand : Typing Operand) (s : State) → Types s
    → Extending false s OperandHasWords (operand s) → Typed OfType (operand s)
    → Typed nothing (format_by names operand s)
format_typed (Some names) operand s types e h = (types, tt)
format_typed None operand s types e h = by (valued operand s) (valued_typed s operand e h)
  where
    by : (a : Answer (State × Value)) → Typed OfValueType a
        → Typed nothing (a >>= λ r. Ok (r.0, another r.1))
    by (Ok r) is = (is.0, tt)
    by (Err f) is = tt

-- typedef names and enumerators

typedef_by : (es : Structures) (line : ℕ) (m : Option Meaning) → ((x : Meaning) → m ≡ Some x → IsNamed es x)
    → IfAnswer (IsSpelled es) (typedef_meant line m)
typedef_by es line None h = tt
typedef_by es line (Some (meaning.Typedef type)) h = h (meaning.Typedef type) refl
typedef_by es line (Some (meaning.Constant w)) h = tt
typedef_by es line (Some (meaning.Named d type)) h = tt

pub typedef_spelled : (s : State) → Types s → (name : Name) (line : ℕ)
    → IfAnswer (IsSpelled (extents s)) (typedef_type name line s)
typedef_spelled s types name line =
    typedef_by (extents s) line (names.meaning name s.environment.names) (names_typed s types name)

enumerator_by : (s : State) → Types s → (name : Name) (line : ℕ) (o : Option ℕ)
    → Typed nothing
    (with_value name line o s.environment >>= λ env. Ok (record s { environment = env }, next_value o))
enumerator_by s types name line None = tt
enumerator_by s types name line (Some w) = (name_types s name (meaning.Constant w) types tt, tt)

unless_there : (s : State) → Types s → (name : Name) (line : ℕ) (o : Option ℕ) (is : Bool)
    → Typed nothing
    ((if is then violates rule.Redeclared line else with_value name line o s.environment)
    >>= λ env. Ok (record s { environment = env }, next_value o))
unless_there s types name line o true = tt
unless_there s types name line o false = enumerator_by s types name line o

pub enumerated_typed : (s : State) → Types s → (name : Name) (line : ℕ) (o : Option ℕ)
    → Typed nothing (enumerated_as name line o s)
enumerated_typed s types name line o =
    unless_there s types name line o (is_some (declared name s.environment.names.current))
