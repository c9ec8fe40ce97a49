-- Constructs whose parts are typed give what is valid.
use Rattle.std.proofs.Common.{◌≡◌, ℕ, Bool, true, false, refl, sym, subst, List, [], ◌∷◌, Option, Some, None}
use Rattle.std.proofs.Common.{if◌then◌else◌}
use Rattle.std.specs.Prelude.{◌||◌, is_none, is_some, Ok, Err}
use Rattle.c_tree.specs.declared.c_type.TypeWord.{TypeWord}
use Rattle.c_tree.specs.declared.c_type.TypeWord.TheVariants as word
use Rattle.c_tree.specs.declared.expression.Fixity.{Fixity}
use Rattle.c_tree.specs.declared.expression.Fixity.TheVariants as fixity
use Rattle.c_tree.specs.Extents.{TypeExtent, extent_of, structure_extent}
use Rattle.c_tree.specs.Tree.{lvalue_line}
use Rattle.c_tree.specs.Valid.{Scope}
use Rattle.c_faults.specs.Answer.{Answer, ◌>>=◌}
use Rattle.c_rules.specs.Fine.{IfFine, IsFine}
use Rattle.c_rules.specs.Types.{unqualified}
use Rattle.c_rules.specs.Values.{Value}
use Rattle.c_place_rules.specs.Operands.{Operand, Place, a_value, a_place, a_variable, a_function, enclosed}
use Rattle.c_place_rules.specs.Places.{address}
use Rattle.c_place_laws.specs.FinePlaces.{IfFineOperand, IfFinePlace, IsEarlierOperand, IsFineOperand}
use Rattle.c_place_laws.specs.FinePlaces.{IsReadable, is_incomplete_structure}
use Rattle.c_call_rules.specs.FineCalls.{AreFine}
use Rattle.c_call_rules.specs.Printing.{Format}
use Rattle.c_rules.proofs.FineBinary.{binary_fine}
use Rattle.c_rules.proofs.FineConversions.{cast_fine}
use Rattle.c_rules.proofs.FineUnary.{logical_fine, comma_fine, unary_fine}
use Rattle.c_place_laws.proofs.FineOperands.{value_fine, enclosed_fine, dereferenced_fine, address_fine, indexed_fine}
use Rattle.c_place_laws.proofs.FineOperands.{size_fine}
use Rattle.c_assignment_rules.proofs.FineWriting.{assignment_fine, compound_fine, stepped_fine}
use Rattle.c_condition_rules.proofs.FineConditions.{conditional_fine}
use Rattle.c_call_rules.proofs.FinePrinting.{formatted_fine}
use Rattle.c_operand_typing.specs.declared.forms.AssignmentForm.{AssignmentForm}
use Rattle.c_operand_typing.specs.declared.forms.AssignmentForm.TheVariants as assignment_form
use Rattle.c_operand_typing.specs.declared.forms.BinaryForm.{BinaryForm}
use Rattle.c_operand_typing.specs.declared.forms.BinaryForm.TheVariants as binary_form
use Rattle.c_operand_typing.specs.declared.forms.PrefixForm.{PrefixForm}
use Rattle.c_operand_typing.specs.declared.forms.PrefixForm.TheVariants as form
use Rattle.c_operand_typing.specs.Calls.{printed}
use Rattle.c_operand_typing.specs.Operators.{as_operand, as_place, as_value, assigned_by, combined, indexed}
use Rattle.c_operand_typing.specs.Operators.{is_array_type, is_readable, object_taken, read_unless, stepped_by}
use Rattle.c_operand_typing.specs.Operators.{unary_value}
use Rattle.c_operand_typing.specs.Operators.{unreadable, value_among}
use Rattle.c_operand_typing.specs.Operators.{variable_named, with_taken}
use Rattle.c_typing_state.specs.State.{State, extents, judged, with_const}
use Rattle.c_expression_typing.specs.Constructs.{cast_to, chosen, prefixed, sized}
use Rattle.typing_laws.specs.Validity.Typed.{IfTyped, IfValued}
use Rattle.typing_laws.proofs.Validity.Kept.{operand_kept}
use Rattle.typing_laws.proofs.Validity.Sound.{same_more}

pub operand_from : (scope : Scope) (es : List (Option TypeExtent)) (a : Answer Value) → IfFine scope es a
    → IfFineOperand scope es (as_operand a)
operand_from scope es (Ok v) is = is
operand_from scope es (Err f) is = is

pub place_from : (scope : Scope) (es : List (Option TypeExtent)) (a : Answer Place) → IfFinePlace scope es a
    → IfFineOperand scope es (as_place a)
place_from scope es (Ok p) is = is
place_from scope es (Err f) is = is

typed_from : (scope : Scope) (s : State) (a : Answer Operand) → IfFineOperand scope (extents s) a
    → IfTyped scope (a >>= λ x. Ok (s, x))
typed_from scope s (Ok o) is = is
typed_from scope s (Err f) is = is

valued_from : (scope : Scope) (s : State) (a : Answer Value) → IfFine scope (extents s) a
    → IfValued scope (a >>= λ x. Ok (s, x))
valued_from scope s (Ok v) is = is
valued_from scope s (Err f) is = is

-- values of operands

-- what may be read is complete, or an array
readable_words : (es : List (Option TypeExtent)) (ws : List TypeWord)
    → (is_array_type (unqualified ws) || is_some (extent_of es ws)) ≡ true → is_incomplete_structure es ws ≡ false
unfolding extent_of
readable_words es [] e = refl
readable_words es (word.Void ∷ ws) e = refl
readable_words es (word.Integer t ∷ ws) e = refl
readable_words es (word.Enumeration n ∷ ws) e = refl
readable_words es (word.Pointer ∷ ws) e = refl
readable_words es (word.Array c b ∷ ws) e = refl
readable_words es (word.OpenArray ∷ ws) e = refl
readable_words es (word.Structure n ∷ ws) e = some_none (structure_extent es n) e
  where
    some_none : (o : Option TypeExtent) → is_some o ≡ true → is_none o ≡ false
    some_none None e = absurd cc
    some_none (Some x) e = refl
readable_words es (word.Const ∷ ws) e = readable_words es ws e
readable_words es (word.Takes ∷ ws) e = refl
readable_words es (word.Gives ∷ ws) e = refl

readable_place : (es : List (Option TypeExtent)) (p : Place) (b : Bool) → is_readable es p.type ≡ b
    → (if b then None else Some (lvalue_line p.tree)) ≡ None → is_incomplete_structure es p.type ≡ false
readable_place es p true e u = readable_words es p.type e
readable_place es p false e u = absurd cc

readable : (es : List (Option TypeExtent)) (o : Operand) → unreadable es o ≡ None → IsReadable es o
readable es (a_value v) u = tt
readable es (a_place p) u = readable_place es p (is_readable es p.type) refl u
readable es (a_variable x) u = tt
readable es (a_function f) u = tt

among_cases : (scope : Scope) (es : List (Option TypeExtent)) (o : Operand) (line : Option ℕ)
    → unreadable es o ≡ line → IsFineOperand scope es o → IfFine scope es (read_unless line o)
among_cases scope es o None e is = value_fine scope es o is (readable es o e)
among_cases scope es o (Some line) e is = tt

pub among_fine : (scope : Scope) (es : List (Option TypeExtent)) (o : Operand) → IsFineOperand scope es o
    → IfFine scope es (value_among es o)
among_fine scope es o is = among_cases scope es o (unreadable es o) refl is

pub value_typed : (scope : Scope) (s : State) (o : Operand) → IsFineOperand scope (extents s) o
    → IfValued scope (as_value o s)
value_typed scope s o is = valued_from scope s (value_among (extents s) o) (among_fine scope (extents s) o is)

pub enclosed_typed : (scope : Scope) (s : State) (line : ℕ) (o : Operand) → IsFineOperand scope (extents s) o
    → IfTyped scope (judged (λ s. enclosed line o) s)
enclosed_typed scope s line o is = typed_from scope s (enclosed line o) (enclosed_fine scope (extents s) line o is)

-- operators

pub combined_fine : (scope : Scope) (f : BinaryForm) (line : ℕ) (a b : Value) (s : State) → IsFine scope (extents s) a
    → IsFine scope (extents s) b → IfFineOperand scope (extents s) (combined f line a b s)
combined_fine scope binary_form.Comma line a b s x y =
    operand_from scope (extents s) _ (comma_fine scope (extents s) line a b x y)
combined_fine scope (binary_form.Logical op) line a b s x y =
    operand_from scope (extents s) _ (logical_fine scope (extents s) op line a b x y)
combined_fine scope (binary_form.Value op) line a b s x y =
    operand_from scope (extents s) _ (binary_fine scope (extents s) op line a b x y)
combined_fine scope binary_form.Nothing line a b s x y = tt

pub combined_typed : (scope : Scope) (f : BinaryForm) (line : ℕ) (a b : Value) (s : State)
    → IsFine scope (extents s) a → IsFine scope (extents s) b → IfTyped scope (judged (combined f line a b) s)
combined_typed scope f line a b s x y =
    typed_from scope s (combined f line a b s) (combined_fine scope f line a b s x y)

pub assigned_fine : (scope : Scope) (f : AssignmentForm) (line : ℕ) (o : Operand) (v : Value) (s : State)
    → IsEarlierOperand scope (extents s) o → IsFine scope (extents s) v
    → IfFineOperand scope (extents s) (assigned_by f line o v s)
assigned_fine scope assignment_form.Simple line o v s x y =
    operand_from scope (extents s) _ (assignment_fine scope (extents s) (with_const s) line o v x y)
assigned_fine scope (assignment_form.Compound op) line o v s x y =
    operand_from scope (extents s) _ (compound_fine scope (extents s) (with_const s) op line o v x y)
assigned_fine scope assignment_form.Nothing line o v s x y = tt

pub assigned_typed : (scope : Scope) (f : AssignmentForm) (line : ℕ) (o : Operand) (v : Value) (s : State)
    → IsEarlierOperand scope (extents s) o → IsFine scope (extents s) v
    → IfTyped scope (judged (assigned_by f line o v) s)
assigned_typed scope f line o v s x y =
    typed_from scope s (assigned_by f line o v s) (assigned_fine scope f line o v s x y)

pub stepped_fine_by : (scope : Scope) (f : PrefixForm) (fix : Fixity) (line : ℕ) (o : Operand) (s : State)
    → IsFineOperand scope (extents s) o → IfFineOperand scope (extents s) (stepped_by f fix line o s)
stepped_fine_by scope (form.Step op) fix line o s x =
    operand_from scope (extents s) _ (stepped_fine scope (extents s) (with_const s) op fix line o
    (operand_kept scope (extents s) (extents s) (same_more (extents s)) o x))
stepped_fine_by scope form.Address fix line o s x = tt
stepped_fine_by scope form.Dereference fix line o s x = tt
stepped_fine_by scope (form.Value op) fix line o s x = tt
stepped_fine_by scope form.Nothing fix line o s x = tt

pub stepped_typed : (scope : Scope) (f : PrefixForm) (fix : Fixity) (line : ℕ) (o : Operand) (s : State)
    → IsFineOperand scope (extents s) o → IfTyped scope (judged (stepped_by f fix line o) s)
stepped_typed scope f fix line o s x =
    typed_from scope s (stepped_by f fix line o s) (stepped_fine_by scope f fix line o s x)

pub indexed_typed : (scope : Scope) (line : ℕ) (a b : Value) (s : State) → IsFine scope (extents s) a
    → IsFine scope (extents s) b → IfTyped scope (judged (indexed line a b) s)
indexed_typed scope line a b s x y =
    typed_from scope s (indexed line a b s)
    (place_from scope (extents s) _ (indexed_fine scope (extents s) line a b x y))

pub sized_typed : (scope : Scope) (line : ℕ) (type : List TypeWord) (s : State)
    → IfTyped scope (judged (sized line type) s)
sized_typed scope line type s =
    typed_from scope s (sized line type s)
    (operand_from scope (extents s) _ (size_fine scope (extents s) line type))

pub cast_typed : (scope : Scope) (line : ℕ) (type : List TypeWord) (v : Value) (s : State)
    → IsFine scope (extents s) v → IfTyped scope (judged (cast_to line type v) s)
cast_typed scope line type v s x =
    typed_from scope s (cast_to line type v s)
    (operand_from scope (extents s) _ (cast_fine scope (extents s) line type v x))

pub chosen_typed : (scope : Scope) (line : ℕ) (c a b : Value) (s : State) → IsFine scope (extents s) c
    → IsFine scope (extents s) a → IsFine scope (extents s) b → IfTyped scope (judged (chosen line c a b) s)
chosen_typed scope line c a b s x y z =
    typed_from scope s (chosen line c a b s)
    (operand_from scope (extents s) _ (conditional_fine scope (extents s) line c a b x y z))

pub printed_typed : (scope : Scope) (line : ℕ) (format : Option Format) (vs : List Value) (s : State)
    → AreFine scope (extents s) vs → IfTyped scope (judged (printed line format vs) s)
printed_typed scope line format vs s x =
    typed_from scope s (printed line format vs s)
    (operand_from scope (extents s) _ (formatted_fine scope (extents s) line format vs x))

-- a unary operator before its operand

taken_extents : (x : Option ℕ) (s : State) → extents (with_taken x s) ≡ extents s
taken_extents None s = refl
taken_extents (Some n) s = refl

object_extents : (o : Operand) (s : State) → extents (object_taken o s) ≡ extents s
object_extents (a_value v) s = refl
object_extents (a_place p) s = taken_extents (variable_named p.tree) s
object_extents (a_variable x) s = refl
object_extents (a_function f) s = refl

address_extents : (is : Bool) (o : Operand) (s : State) → extents (if is then object_taken o s else s) ≡ extents s
address_extents true o s = object_extents o s
address_extents false o s = refl

abbrev pub address_made : (is : Bool) → Operand → State → Value → Answer (State × Value)
address_made is o s v = Ok (if is then object_taken o s else s, v)

abbrev pub as_made : State × Value → Answer (State × Operand)
as_made r = Ok (r.0, a_value r.1)

abbrev pub with_state : State → Value → Answer (State × Value)
with_state s v = Ok (s, v)

addressed_from : (scope : Scope) (is : Bool) (o : Operand) (s : State) (a : Answer Value)
    → IfFine scope (extents s) a
    → IfTyped scope (a >>= address_made is o s >>= as_made)
addressed_from scope is o s (Ok v) fine = subst (λ es. IsFine scope es v) (sym (address_extents is o s)) fine
addressed_from scope is o s (Err f) fine = tt

pub unary_fine_by : (scope : Scope) (f : PrefixForm) (line : ℕ) (v : Value) (s : State) → IsFine scope (extents s) v
    → IfFineOperand scope (extents s) (unary_value f line v s)
unary_fine_by scope (form.Value op) line v s x =
    operand_from scope (extents s) _ (unary_fine scope (extents s) op line v x)
unary_fine_by scope form.Dereference line v s x = dereferenced_fine scope (extents s) line v x
unary_fine_by scope form.Address line v s x = tt
unary_fine_by scope (form.Step op) line v s x = tt
unary_fine_by scope form.Nothing line v s x = tt

value_then : (scope : Scope) (f : PrefixForm) (line : ℕ) (s : State) (a : Answer Value) → IfFine scope (extents s) a
    → IfTyped scope (a >>= with_state s >>= λ r. judged (unary_value f line r.1) r.0)
value_then scope f line s (Ok v) fine =
    typed_from scope s (unary_value f line v s) (unary_fine_by scope f line v s fine)
value_then scope f line s (Err e) fine = tt

pub prefixed_typed : (scope : Scope) (is : Bool) (f : PrefixForm) (line : ℕ) (o : Operand) (s : State)
    → IsFineOperand scope (extents s) o → IfTyped scope (prefixed is f line o s)
prefixed_typed scope is form.Address line o s x =
    addressed_from scope is o s (address line o) (address_fine scope (extents s) line o x)
prefixed_typed scope is (form.Step op) line o s x = stepped_typed scope (form.Step op) fixity.Prefix line o s x
prefixed_typed scope is form.Dereference line o s x =
    value_then scope form.Dereference line s (value_among (extents s) o)
    (among_fine scope (extents s) o x)
prefixed_typed scope is (form.Value op) line o s x =
    value_then scope (form.Value op) line s (value_among (extents s) o)
    (among_fine scope (extents s) o x)
prefixed_typed scope is form.Nothing line o s x =
    value_then scope form.Nothing line s (value_among (extents s) o)
    (among_fine scope (extents s) o x)
