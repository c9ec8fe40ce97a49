-- Each construct of an expression gives what is valid, behind its operands.
use Rattle.std.proofs.Common.{◌≡◌, ℕ, Bool, true, false, refl, sym, subst, List, [], ◌∷◌}
use Rattle.std.proofs.Common.{Option, Some, None, if◌then◌else◌}
use Rattle.std.specs.Prelude.{Ok, Err, option_map}
use Rattle.c_lexer.specs.declared.punctuator.Punctuator.{Punctuator}
use Rattle.c_lexer.specs.declared.punctuator.Punctuator.TheVariants as sign
use Rattle.c_tree.specs.declared.c_type.TypeWord.{TypeWord}
use Rattle.c_tree.specs.declared.c_type.TypeWord.TheVariants as word
use Rattle.c_tree.specs.declared.expression.Fixity.{Fixity}
use Rattle.c_tree.specs.declared.expression.Fixity.TheVariants as fixity
use Rattle.c_tree.specs.Kinds.{pointer, routine_signature}
use Rattle.c_tree.specs.TypesAgree.{kind_of_type}
use Rattle.c_tree.specs.Valid.{Scope}
use Rattle.c_faults.specs.Answer.{Answer, ◌>>=◌}
use Rattle.c_rules.specs.Fine.{IfFine, IsFine}
use Rattle.c_rules.specs.Types.{unqualified}
use Rattle.c_rules.specs.Values.{Value}
use Rattle.c_tree.specs.declared.member.Member as code_member
use Rattle.c_place_rules.specs.Operands.{Operand}
use Rattle.c_place_rules.specs.Places.{Member, address, member_view, structure_of, type_in}
use Rattle.c_place_rules.specs.Targets.{pointee_of}
use Rattle.c_place_laws.specs.FinePlaces.{IfFineOperand, IsFineOperand, IsFound, IsFoundBehind}
use Rattle.c_place_laws.proofs.FineOperands.{address_fine, arrow_fine, selected_fine}
use Rattle.c_call_rules.specs.Calls.{of_function, of_routine}
use Rattle.c_call_rules.specs.Printing.{Format}
use Rattle.c_tree.specs.Routines.{routine_words}
use Rattle.c_call_rules.proofs.FineCalls.{called_fine}
use Rattle.c_call_rules.proofs.FinePrinting.{formatted_fine}
use Rattle.c_call_rules.proofs.RoutineTypes.{routines_spell}
use Rattle.c_scope.specs.declared.meaning.Designated.TheVariants as what
use Rattle.c_scope.specs.declared.meaning.LibraryFunction.{LibraryFunction}
use Rattle.c_scope.specs.declared.meaning.LibraryFunction.TheVariants as library
use Rattle.c_scope.specs.declared.meaning.Meaning.{Meaning}
use Rattle.c_scope.specs.declared.meaning.Meaning.TheVariants as meaning
use Rattle.c_scope.specs.Names.{Name}
use Rattle.c_scope.specs.Names as names
use Rattle.c_scope.specs.Structures.{member_of}
use Rattle.c_operand_typing.specs.declared.forms.PrefixForm.{PrefixForm}
use Rattle.c_operand_typing.specs.declared.forms.PrefixForm.TheVariants as form
use Rattle.c_operand_typing.specs.Calls.{Called, a_function, a_pointer, a_printf, a_routine, applied}
use Rattle.c_operand_typing.specs.Calls.{called_by_value, called_plainly, library_called, name_called, plainly_applied}
use Rattle.c_operand_typing.specs.Calls.{plainly_or, pointer_applied, pointer_called, printed}
use Rattle.c_operand_typing.specs.Operators.{arrowed, as_value, dotted, member_in}
use Rattle.c_operand_typing.specs.Operators.{object_taken, stepped_by, structure_behind, unary_value}
use Rattle.c_operand_typing.specs.Operators.{value_among}
use Rattle.c_operand_typing.specs.Primaries.{is_undefined, literal, meant, named, used_as}
use Rattle.c_typing_state.specs.State.{State, Typing, extents, judged, ◌>>>◌}
use Rattle.c_expression_typing.specs.Constructs.{accessed, prefixed, valued}
use Rattle.typing_laws.specs.Validity.More.{AreMore}
use Rattle.typing_laws.specs.Validity.Names.{IsFunctionOf, IsMeant}
use Rattle.typing_laws.specs.Validity.Sound.{Covers, IsFormed, Knows, Sound}
use Rattle.typing_laws.proofs.Validity.PointerCalls.{function_called}
use Rattle.typing_laws.specs.Validity.Steps.{Fine, FineAll, FineValue, PointerCalls, Structures, Written, nothing}
use Rattle.typing_laws.specs.Validity.Typed.{HaveMembers}
use Rattle.typing_laws.proofs.Validity.Constructs.{among_fine, operand_from, with_state, place_from, stepped_fine_by}
use Rattle.typing_laws.proofs.Validity.Constructs.{address_made, as_made, unary_fine_by}
use Rattle.typing_laws.proofs.Validity.Kept.{arguments_kept, earlier_kept, operand_kept, value_kept}
use Rattle.typing_laws.proofs.Validity.Moved.{address_keeps, literal_fine, literal_keeps, used_keeps}
use Rattle.typing_laws.proofs.Validity.Primaries.{defined_by, meant_fine, used_extents}
use Rattle.typing_laws.proofs.Validity.Sound.{IfAnswer, Stays, both, keeps_same, same_more, sound_judged, sound_then}
use Rattle.typing_laws.proofs.Validity.Sound.{with_given}

-- what is evaluated is valid

pub written_stays : (scope : Scope) (is : Bool) (o : Operand) → Stays (λ es. Written scope is es o)
written_stays scope is o = λ es more h f p. earlier_kept scope es more h o (f p)

pub fine_written : (scope : Scope) (is : Bool) (es : Structures) (o : Operand) → Fine scope is es o
    → Written scope is es o
fine_written scope is es o f = λ p. operand_kept scope es es (same_more es) o (f p)

pub value_stays : (scope : Scope) (is : Bool) (v : Value) → Stays (λ es. FineValue scope is es v)
value_stays scope is v = λ es more h f p. value_kept scope es more h v (f p)

pub all_stays : (scope : Scope) (is : Bool) (vs : List Value) → Stays (λ es. FineAll scope is es vs)
all_stays scope is vs = λ es more h f p. arguments_kept scope es more h vs (f p)

pub nothing_stays : Stays nothing
nothing_stays = λ es more h x. tt

pub both_stay : {A : Type 0} (given : Structures → Type 0) (p : Structures → A → Type 0) (x : A) → Stays given
    → Stays (λ es. p es x) → Stays (both given p x)
both_stay given p x h g = λ es more more_of is. (h es more more_of is.0, g es more more_of is.1)

-- answers

if_true : {A : Type 0} (is : Bool) (p : A → Type 0) (a : Answer A) → (is ≡ true → IfAnswer p a)
    → IfAnswer (λ x. is ≡ true → p x) a
if_true is p (Ok x) h = h
if_true is p (Err f) h = tt

if_operand : (scope : Scope) (es : Structures) (a : Answer Operand) → IfFineOperand scope es a
    → IfAnswer (IsFineOperand scope es) a
if_operand scope es (Ok o) h = h
if_operand scope es (Err f) h = tt

if_value : (scope : Scope) (es : Structures) (a : Answer Value) → IfFine scope es a → IfAnswer (IsFine scope es) a
if_value scope es (Ok v) h = h
if_value scope es (Err f) h = tt

-- an operand that is judged in a state
pub judged_sound : (scope : Scope) (last : Structures) (s : State) (given : Structures → Type 0) (is : Bool)
    (a : Answer Operand) → (Knows scope last s → given (extents s) → Covers scope last s → is ≡ true
    → IfFineOperand scope (extents s) a)
    → Sound scope last s given (Fine scope is) (a >>= λ x. Ok (s, x))
judged_sound scope last s given is a h =
    sound_judged scope last s given (Fine scope is) a
    (λ knows g covers. if_true is (IsFineOperand scope (extents s)) a (λ p. if_operand scope (extents s) a
    (h knows g covers p)))

judged_value : (scope : Scope) (last : Structures) (s : State) (given : Structures → Type 0) (is : Bool)
    (a : Answer Value) → (Knows scope last s → given (extents s) → Covers scope last s → is ≡ true
    → IfFine scope (extents s) a)
    → Sound scope last s given (FineValue scope is) (a >>= λ x. Ok (s, x))
judged_value scope last s given is a h =
    sound_judged scope last s given (FineValue scope is) a
    (λ knows g covers. if_true is (IsFine scope (extents s)) a (λ p. if_value scope (extents s) a (h knows g covers p)))

-- the value of an operand

pub as_value_sound : (scope : Scope) (last : Structures) (s : State) (given : Structures → Type 0) (is : Bool)
    (o : Operand) → (given (extents s) → Fine scope is (extents s) o)
    → Sound scope last s given (FineValue scope is) (as_value o s)
as_value_sound scope last s given is o h =
    judged_value scope last s given is (value_among (extents s) o)
    (λ knows g covers p. among_fine scope (extents s) o (h g p))

pub valued_sound : (scope : Scope) (last : Structures) (s : State) (given : Structures → Type 0) → Stays given
    → (is : Bool) (operand : Typing Operand) → Sound scope last s given (Fine scope is) (operand s)
    → Sound scope last s given (FineValue scope is) (valued operand s)
valued_sound scope last s given stays is operand h =
    sound_then scope last s given stays (Fine scope is) (FineValue scope is) (operand s) as_value h
    (λ t o. as_value_sound scope last t (both given (Fine scope is) o) is o (λ g. g.1))

-- names and literals

meant_as : (scope : Scope) (last : Structures) (is : Bool) (line : ℕ) (m : Option Meaning) (s : State)
    → AreMore (extents s) last → IsMeant scope last s m
    → (used_as is line m s).undefined ≡ None → is ≡ true → IfFineOperand scope (extents s) (meant is line m s)
meant_as scope last true line m s more h unused p = meant_fine scope last line m s more h unused
meant_as scope last false line m s more h unused p = cc

used_sound : (scope : Scope) (last : Structures) (is : Bool) (line : ℕ) (m : Option Meaning) (s : State)
    (a : Answer Operand)
    → (Knows scope last s → AreMore (extents s) last → (used_as is line m s).undefined ≡ None → is ≡ true
    → IfFineOperand scope (extents s) a)
    → Sound scope last s nothing (Fine scope is) (a >>= λ o. Ok (used_as is line m s, o))
used_sound scope last is line m s (Ok o) h = λ formed. (
  used_keeps scope last is line m s formed,
  λ knows g covers p.
      subst (λ es. IsFineOperand scope es o) (sym (used_extents is line m s))
      (h knows (subst (λ es. AreMore es last) (used_extents is line m s) covers.more) covers.undefined p),
)
used_sound scope last is line m s (Err f) h = tt

pub named_sound : (scope : Scope) (last : Structures) (is : Bool) (name : Name) (line : ℕ) (s : State)
    → Sound scope last s nothing (Fine scope is) (named is name line s)
named_sound scope last is name line s =
    let m = names.meaning name s.environment.names in
    used_sound scope last is line m s (meant is line m s)
    (λ knows more unused p. meant_as scope last is line m s more (knows.names name) unused p)

pub literal_sound : (scope : Scope) (last : Structures) (is : Bool) (bytes : List ℕ) (line : ℕ) (s : State)
    → Sound scope last s nothing (Fine scope is) (literal is bytes line s)
literal_sound scope last true bytes line s =
    λ formed. (
      literal_keeps scope last bytes s formed,
      λ knows g covers p. literal_fine scope last
          (extents s) bytes line s covers,
    )
literal_sound scope last false bytes line s = λ formed. (keeps_same scope last s formed, λ knows g covers p. cc)

-- a unary operator, or `&`, `++` or `--`, before its operand

taken_extents : (scope : Scope) (last : Structures) (is : Bool) (o : Operand) (s : State) (v : Value) → IsFormed s
    → IsFine scope (extents s) v
    → IsFine scope (extents (if is then object_taken o s else s)) v
taken_extents scope last is o s v formed h =
    value_kept scope (extents s) _ (address_keeps scope last is o s formed).more v h

address_sound : (scope : Scope) (last : Structures) (s : State) (given : Structures → Type 0) (is : Bool) (o : Operand)
    (a : Answer Value) → (given (extents s) → is ≡ true → IfFine scope (extents s) a)
    → Sound scope last s given (Fine scope is) (a >>= address_made is o s >>= as_made)
address_sound scope last s given is o (Ok v) h =
    λ formed. (
      address_keeps scope last is o s formed,
      λ knows g covers p. taken_extents scope last is o s v formed
          (h g p),
    )
address_sound scope last s given is o (Err f) h = tt

-- the value of an operand, and what is made of it in the same state
value_first : {A : Type 0} (scope : Scope) (last : Structures) (s : State) (given : Structures → Type 0) (is : Bool)
    (p : Structures → A → Type 0) (next : Value → Typing A) (a : Answer Value)
    → (given (extents s) → is ≡ true → IfFine scope (extents s) a)
    → ((v : Value) → Sound scope last s (λ es. FineValue scope is es v) p (next v s))
    → Sound scope last s given p (a >>= with_state s >>= λ r. next r.1 r.0)
value_first scope last s given is p next (Ok v) h f =
    with_given scope last s (λ es. FineValue scope is es v) given p (next v s) h (f v)
value_first scope last s given is p next (Err e) h f = tt

as_value_then : {A : Type 0} (scope : Scope) (last : Structures) (s : State) (given : Structures → Type 0) (is : Bool)
    (p : Structures → A → Type 0) (next : Value → Typing A) (o : Operand)
    → (given (extents s) → Fine scope is (extents s) o)
    → ((v : Value) → Sound scope last s (λ es. FineValue scope is es v) p (next v s))
    → Sound scope last s given p ((as_value o >>> next) s)
as_value_then scope last s given is p next o h f =
    value_first scope last s given is p next (value_among (extents s) o)
    (λ g e. among_fine scope (extents s) o (h g e)) f

value_then : (scope : Scope) (last : Structures) (s : State) (given : Structures → Type 0) (is : Bool)
    (f : PrefixForm) (line : ℕ) (o : Operand) → (given (extents s) → Fine scope is (extents s) o)
    → Sound scope last s given (Fine scope is) ((as_value o >>> λ v. judged (unary_value f line v)) s)
value_then scope last s given is f line o h =
    as_value_then scope last s given is (Fine scope is) (λ v. judged (unary_value f line v)) o h
    (λ v. judged_sound scope last s (λ es. FineValue scope is es v) is (unary_value f line v s)
    (λ knows g covers p. unary_fine_by scope f line v s (g p)))

pub stepped_sound : (scope : Scope) (last : Structures) (s : State) (given : Structures → Type 0) (is : Bool)
    (f : PrefixForm) (fix : Fixity) (line : ℕ) (o : Operand) → (given (extents s) → Fine scope is (extents s) o)
    → Sound scope last s given (Fine scope is) (judged (stepped_by f fix line o) s)
stepped_sound scope last s given is f fix line o h =
    judged_sound scope last s given is (stepped_by f fix line o s)
    (λ knows g covers p. stepped_fine_by scope f fix line o s (h g p))

pub prefixed_sound : (scope : Scope) (last : Structures) (s : State) (given : Structures → Type 0) (is : Bool)
    (f : PrefixForm) (line : ℕ) (o : Operand) → (given (extents s) → Fine scope is (extents s) o)
    → Sound scope last s given (Fine scope is) (prefixed is f line o s)
prefixed_sound scope last s given is form.Address line o h =
    address_sound scope last s given is o (address line o) (λ g p. address_fine scope (extents s) line o (h g p))
prefixed_sound scope last s given is (form.Step op) line o h =
    stepped_sound scope last s given is (form.Step op) fixity.Prefix line o h
prefixed_sound scope last s given is form.Dereference line o h =
    value_then scope last s given is form.Dereference line o h
prefixed_sound scope last s given is (form.Value op) line o h =
    value_then scope last s given is (form.Value op) line o h
prefixed_sound scope last s given is form.Nothing line o h =
    value_then scope last s given is form.Nothing line o h

-- `.` and `->`

found_by : (s : State) → HaveMembers s → (n : ℕ) (name : Name) (o : Option code_member.Member)
    → member_of n name s.environment.structures.bodies ≡ o → IsFound (extents s) (Some n) (option_map member_view o)
found_by s h n name None e = tt
found_by s h n name (Some m) e = h.each n name m e

found_in : (s : State) → HaveMembers s → (n : Option ℕ) (name : Name) → IsFound (extents s) n (member_in n name s)
found_in s h None name = tt
found_in s h (Some n) name = found_by s h n name (member_of n name s.environment.structures.bodies) refl

dotted_sound : (scope : Scope) (last : Structures) (s : State) (given : Structures → Type 0) (is : Bool) (line : ℕ)
    (name : Name) (o : Operand) → (given (extents s) → Fine scope is (extents s) o)
    → Sound scope last s given (Fine scope is) (judged (dotted line name o) s)
dotted_sound scope last s given is line name o h =
    let n = structure_of (type_in o) in
    judged_sound scope last s given is (dotted line name o s)
    (λ knows g covers p. place_from scope (extents s) _
    (selected_fine scope (extents s) line (member_in n name s) o (h g p) (found_in s knows.members n name)))

pair_found : (es : Structures) (ws : List TypeWord) → kind_of_type es ws ≡ Some pointer → (found : Option Member)
    → IsFound es (structure_of (pointee_of ws)) found → IsFoundBehind es ws found
pair_found es ws k None h = tt
pair_found es ws k (Some m) h = (k, h)

const_found : (es : Structures) (ws : List TypeWord) (found : Option Member) → IsFoundBehind es ws found
    → IsFoundBehind es (word.Const ∷ ws) found
const_found es ws None h = tt
const_found es ws (Some m) h = h

found_behind : (s : State) → HaveMembers s → (ws : List TypeWord) (name : Name)
    → IsFoundBehind (extents s) ws (member_in (structure_behind (unqualified ws)) name s)
found_behind s h [] name = tt
found_behind s h (word.Const ∷ ws) name = const_found (extents s) ws _ (found_behind s h ws name)
found_behind s h (word.Pointer ∷ target) name =
    pair_found (extents s) (word.Pointer ∷ target) refl _ (found_in s h (structure_of target) name)
found_behind s h (word.Void ∷ ws) name = tt
found_behind s h (word.Integer t ∷ ws) name = tt
found_behind s h (word.Enumeration n ∷ ws) name = tt
found_behind s h (word.Array c b ∷ ws) name = tt
found_behind s h (word.OpenArray ∷ ws) name = tt
found_behind s h (word.Structure n ∷ ws) name = tt
found_behind s h (word.Takes ∷ ws) name = tt
found_behind s h (word.Gives ∷ ws) name = tt

arrowed_sound : (scope : Scope) (last : Structures) (s : State) (given : Structures → Type 0) (is : Bool) (line : ℕ)
    (name : Name) (v : Value) → (given (extents s) → FineValue scope is (extents s) v)
    → Sound scope last s given (Fine scope is) (judged (arrowed line name v) s)
arrowed_sound scope last s given is line name v h =
    judged_sound scope last s given is (arrowed line name v s)
    (λ knows g covers p. place_from scope (extents s) _
    (arrow_fine scope (extents s) line (member_in (structure_behind (unqualified v.type)) name s) v (h g p)
    (found_behind s knows.members v.type name)))

pub accessed_sound : (scope : Scope) (last : Structures) (s : State) (given : Structures → Type 0) (is : Bool)
    (w : Punctuator) (line : ℕ) (name : Name) (o : Operand)
    → (given (extents s) → Fine scope is (extents s) o)
    → Sound scope last s given (Fine scope is) (accessed w line name o s)
accessed_sound scope last s given is sign.Dot line name o h = dotted_sound scope last s given is line name o h
accessed_sound scope last s given is sign.Arrow line name o h =
    as_value_then scope last s given is (Fine scope is) (λ v. judged (arrowed line name v)) o h
    (λ v. arrowed_sound scope last s (λ es. FineValue scope is es v) is line name v (λ g. g))
accessed_sound scope last s given is w line name o h = tt

-- calls

abbrev pub IsCalled : Scope → (last : Structures) → Structures → Called → Type 0
IsCalled scope last es (a_function n type) = IsFunctionOf scope last n type
IsCalled scope last es (a_routine r) = Unit {0}
IsCalled scope last es a_printf = Unit {0}
IsCalled scope last es (a_pointer v) = IsFine scope es v

abbrev pub FineCalled : Scope → (last : Structures) → Bool → Structures → Called → Type 0
FineCalled scope last is es c = is ≡ true → IsCalled scope last es c

called_kept : (scope : Scope) (last : Structures) (es more : Structures) → AreMore es more → (c : Called)
    → IsCalled scope last es c
    → IsCalled scope last more c
called_kept scope last es more h (a_function n type) is = is
called_kept scope last es more h (a_routine r) is = tt
called_kept scope last es more h a_printf is = tt
called_kept scope last es more h (a_pointer v) is = value_kept scope es more h v is

pub called_stays : (scope : Scope) (last : Structures) (is : Bool) (c : Called)
    → Stays (λ es. FineCalled scope last is es c)
called_stays scope last is c = λ es more h f p. called_kept scope last es more h c (f p)

pointer_if : (scope : Scope) (last : Structures) (es : Structures) (a : Answer Value) → IfFine scope es a
    → IfAnswer (IsCalled scope last es) (a >>= λ v. Ok (a_pointer v))
pointer_if scope last es (Ok v) h = h
pointer_if scope last es (Err f) h = tt

value_called : (scope : Scope) (last : Structures) (s : State) (a : Answer Operand) → IfFineOperand scope (extents s) a
    → IfAnswer (IsCalled scope last (extents s)) (a >>= λ o. pointer_called o s)
value_called scope last s (Ok o) h =
    pointer_if scope last (extents s) (value_among (extents s) o) (among_fine scope (extents s) o h)
value_called scope last s (Err f) h = tt

library_if : (scope : Scope) (last : Structures) (es : Structures) (f : LibraryFunction)
    → IsCalled scope last es (library_called f)
library_if scope last es (library.Routine r) = tt
library_if scope last es library.Printf = tt

called_if : (scope : Scope) (last : Structures) (line : ℕ) (m : Option Meaning) (s : State)
    → AreMore (extents s) last → IsMeant scope last s m
    → (used_as true line m s).undefined ≡ None
    → IfAnswer (IsCalled scope last (extents s)) (plainly_or (called_plainly m) (called_by_value true line m s))
called_if scope last line None s more h unused = tt
called_if scope last line (Some (meaning.Typedef type)) s more h unused = tt
called_if scope last line (Some (meaning.Constant w)) s more h unused =
    value_called scope last s (meant true line (Some (meaning.Constant w)) s)
    (meant_fine scope last line (Some (meaning.Constant w)) s more h unused)
called_if scope last line (Some (meaning.Named (what.Function n) type)) s more h unused =
    h (defined_by line s (is_undefined n s) unused)
called_if scope last line (Some (meaning.Named (what.Library f) type)) s more h unused =
    library_if scope last (extents s) f
called_if scope last line (Some (meaning.Named (what.Object n) type)) s more h unused =
    value_called scope last s (meant true line (Some (meaning.Named (what.Object n) type)) s)
    (meant_fine scope last line (Some (meaning.Named (what.Object n) type)) s more h unused)
called_if scope last line (Some (meaning.Named (what.Static n) type)) s more h unused =
    value_called scope last s (meant true line (Some (meaning.Named (what.Static n) type)) s)
    (meant_fine scope last line (Some (meaning.Named (what.Static n) type)) s more h unused)
called_if scope last line (Some (meaning.Named (what.Variable n) type)) s more h unused =
    value_called scope last s (meant true line (Some (meaning.Named (what.Variable n) type)) s)
    (meant_fine scope last line (Some (meaning.Named (what.Variable n) type)) s more h unused)

called_as_is : (scope : Scope) (last : Structures) (is : Bool) (line : ℕ) (m : Option Meaning) (s : State)
    → AreMore (extents s) last → IsMeant scope last s m
    → (used_as is line m s).undefined ≡ None → is ≡ true
    → IfAnswer (IsCalled scope last (extents s)) (plainly_or (called_plainly m) (called_by_value is line m s))
called_as_is scope last true line m s more h unused p = called_if scope last line m s more h unused
called_as_is scope last false line m s more h unused p = cc

called_used : (scope : Scope) (last : Structures) (is : Bool) (line : ℕ) (m : Option Meaning) (s : State)
    (a : Answer Called)
    → (Knows scope last s → AreMore (extents s) last → (used_as is line m s).undefined ≡ None → is ≡ true
    → IfAnswer (IsCalled scope last (extents s)) a)
    → Sound scope last s nothing (FineCalled scope last is) (a >>= λ c. Ok (used_as is line m s, c))
called_used scope last is line m s (Ok c) h = λ formed. (
  used_keeps scope last is line m s formed,
  λ knows g covers p.
      subst (λ es. IsCalled scope last es c) (sym (used_extents is line m s))
      (h knows (subst (λ es. AreMore es last) (used_extents is line m s) covers.more) covers.undefined p),
)
called_used scope last is line m s (Err f) h = tt

pub name_called_sound : (scope : Scope) (last : Structures) (is : Bool) (name : Name) (line : ℕ) (s : State)
    → Sound scope last s nothing (FineCalled scope last is) (name_called is name line s)
name_called_sound scope last is name line s =
    let m = names.meaning name s.environment.names in
    called_used scope last is line m s (plainly_or (called_plainly m) (called_by_value is line m s))
    (λ knows more unused p. called_as_is scope last is line m s more (knows.names name) unused p)

pub pointer_called_sound : (scope : Scope) (last : Structures) (s : State) (given : Structures → Type 0) (is : Bool)
    (o : Operand) → (given (extents s) → Fine scope is (extents s) o)
    → Sound scope last s given (FineCalled scope last is) (judged (pointer_called o) s)
pointer_called_sound scope last s given is o h =
    sound_judged scope last s given (FineCalled scope last is) (pointer_called o s)
    (λ knows g covers. if_true is (IsCalled scope last (extents s)) (pointer_called o s)
    (λ p. pointer_if scope last (extents s) (value_among (extents s) o) (among_fine scope (extents s) o (h g p))))

pub printed_sound : (scope : Scope) (last : Structures) (s : State) (given : Structures → Type 0) (is : Bool) (line : ℕ)
    (format : Option Format) (vs : List Value) → (given (extents s) → FineAll scope is (extents s) vs)
    → Sound scope last s given (Fine scope is) (judged (printed line format vs) s)
printed_sound scope last s given is line format vs h =
    judged_sound scope last s given is (printed line format vs s)
    (λ knows g covers p. operand_from scope (extents s) _ (formatted_fine scope (extents s) line format vs (h g p)))

pub applied_sound : (scope : Scope) (last : Structures) → PointerCalls scope last → (s : State)
    (given : Structures → Type 0) (is : Bool) (line : ℕ) (c : Called) (vs : List Value)
    → (given (extents s) → FineCalled scope last is (extents s) c) → (given (extents s)
    → FineAll scope is (extents s) vs)
    → Sound scope last s given (Fine scope is) (applied line c vs s)
applied_sound scope last through s given is line (a_function n type) vs h g =
    judged_sound scope last s given is (plainly_applied line (of_function n) type vs s)
    (λ knows x covers p. operand_from scope (extents s) _
    (function_called scope (extents s) last covers.more line n type vs (h x p) (g x p)))
applied_sound scope last through s given is line (a_routine r) vs h g =
    judged_sound scope last s given is (plainly_applied line (of_routine r) (routine_words r) vs s)
    (λ knows x covers p. operand_from scope (extents s) _
    (called_fine scope (extents s) line (of_routine r) (routine_signature r) (routine_words r) vs refl
    (routines_spell (extents s) r) (g x p)))
applied_sound scope last through s given is line a_printf vs h g =
    printed_sound scope last s given is line None vs g
applied_sound scope last through s given is line (a_pointer v) vs h g =
    with_given scope last s (λ es. FineValue scope is es v × FineAll scope is es vs) given (Fine scope is)
    (pointer_applied line v vs s) (λ x. (h x, g x)) (through.each s is line v vs)
