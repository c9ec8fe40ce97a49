-- What the constructs of an expression make of operands whose types are spelled.
use Rattle.std.proofs.Common.{◌≡◌, ℕ, Bool, true, false, ◌||◌, refl, ap, ◌∙◌, List, [], ◌∷◌}
use Rattle.std.proofs.Common.{Option, Some, None, if◌then◌else◌}
use Rattle.std.specs.Prelude.{Ok, Err, is_some}
use Rattle.obj_memory.specs.declared.int_type.IntType.{IntType}
use Rattle.obj_memory.specs.declared.int_type.IntType.TheVariants.{Int, Long}
use Rattle.obj_memory.specs.declared.operator.BinaryOperator.{BinaryOperator}
use Rattle.obj_memory.specs.declared.operator.UnaryOperator.{UnaryOperator}
use Rattle.obj_memory.specs.declared.operator.UnaryOperator.TheVariants as unary_operator
use Rattle.c_tree.specs.declared.c_type.TypeWord.{TypeWord}
use Rattle.c_tree.specs.declared.c_type.TypeWord.TheVariants as word
use Rattle.c_tree.specs.declared.expression.Fixity.{Fixity}
use Rattle.c_tree.specs.declared.expression.Kind.{Kind}
use Rattle.c_tree.specs.declared.expression.OffsetForm.TheVariants.{IndexPlusPointer, PointerMinusIndex}
use Rattle.c_tree.specs.declared.expression.OffsetForm.TheVariants.{PointerPlusIndex}
use Rattle.c_tree.specs.Extents.{TypeExtent, extent_of, structure_extent}
use Rattle.c_tree.specs.Tree.{LvalueNode, deref, index as index_node, lvalue_kind}
use Rattle.c_rules.specs.declared.class.Class.{Class}
use Rattle.c_rules.specs.declared.class.Class.TheVariants as class
use Rattle.c_rules.specs.declared.class.Target.{Target}
use Rattle.c_rules.specs.declared.class.Target.TheVariants as target
use Rattle.c_faults.specs.declared.fault.Rule.TheVariants as rule
use Rattle.c_rules.specs.declared.row.Row.{Row}
use Rattle.c_rules.specs.declared.row.Row.TheVariants as row
use Rattle.c_rules.specs.declared.unary.LogicalOperator.{LogicalOperator}
use Rattle.c_faults.specs.Answer.{Answer, violates, ◌>>=◌}
use Rattle.c_rules.specs.Binary.{binary, built, pair_of}
use Rattle.c_rules.specs.Conversions as conversions
use Rattle.c_rules.specs.Rows.{row_of}
use Rattle.c_rules.specs.Types.{class_of, object_of, target_of, unqualified}
use Rattle.c_rules.specs.Unary as unary_rules
use Rattle.c_rules.specs.Values.{Value}
use Rattle.c_place_rules.specs.Operands.{Operand, Place, a_value, a_place, a_variable, a_function, enclosed}
use Rattle.c_place_rules.specs.Operands.{decayed_to, element_of, loaded_as}
use Rattle.c_place_rules.specs.Places.{address, address_to, dereferenced, dereferenced_as, element_as}
use Rattle.c_place_rules.specs.Places.{element_at, indexed, object_at, size_in, size_of, subscript}
use Rattle.c_place_rules.specs.Places.{type_in}
use Rattle.c_place_rules.specs.Targets.{is_const, pointee_of, qualified}
use Rattle.c_tree.specs.Valid.{is_lvalue}
use Rattle.c_condition_rules.specs.Conditions.{conditional, meeting_in, merged_pointer, shape_in, shape_of}
use Rattle.c_condition_rules.specs.declared.choice.Meeting.{Meeting}
use Rattle.c_condition_rules.specs.declared.choice.Meeting.TheVariants as meeting
use Rattle.c_condition_rules.specs.Conditions as conditions
use Rattle.c_assignment_rules.specs.declared.operators.StepOperator.{StepOperator}
use Rattle.c_assignment_rules.specs.Assignable.{assignable, has_const, is_unsized_structure, lowest, where_none}
use Rattle.c_assignment_rules.specs.Assignments.{assignment, change_between, change_to, compound, operator_of, step_to}
use Rattle.c_assignment_rules.specs.Assignments.{stepped}
use Rattle.c_assignment_rules.specs.Writing.{Writing, set, written}
use Rattle.c_operand_typing.specs.declared.forms.AssignmentForm.{AssignmentForm}
use Rattle.c_operand_typing.specs.declared.forms.AssignmentForm.TheVariants as assignment_form
use Rattle.c_operand_typing.specs.declared.forms.BinaryForm.{BinaryForm}
use Rattle.c_operand_typing.specs.declared.forms.BinaryForm.TheVariants as binary_form
use Rattle.c_operand_typing.specs.declared.forms.PrefixForm.{PrefixForm}
use Rattle.c_operand_typing.specs.declared.forms.PrefixForm.TheVariants as form
use Rattle.c_operand_typing.specs.Operators.{as_operand, as_place, assigned_by, combined, is_readable as may_be_read}
use Rattle.c_operand_typing.specs.Operators.{read_unless, stepped_by, unary_value, unreadable, value_among}
use Rattle.c_operand_typing.specs.Operators as operators
use Rattle.c_typing_state.specs.State.{State, extents, with_const}
use Rattle.c_expression_typing.specs.Constructs.{cast_to, chosen, sized}
use Rattle.typing_laws.proofs.Validity.Common.{first as left, second as right}
use Rattle.typing_laws.proofs.Validity.Sound.{IfAnswer}
use Rattle.typing_laws.specs.Validity.Steps.{Structures}
use Rattle.typing_laws.specs.SpelledTypes.Spelled.{IsValueType, is_readable}
use Rattle.typing_laws.proofs.SpelledTypes.Words.{element_spelled, pointee_spelled}
use Rattle.typing_laws.proofs.SpelledTypes.Words.{qualified_spelled, unqualified_readable}
use Rattle.typing_laws.proofs.SpelledTypes.Words.{unqualified_spelled}
use Rattle.typing_laws.specs.Types.Typed.{IsPlaceType, IsSpelled, OfType, OfValueType}

abbrev pub IfValue : Structures → Answer Value → Type 0
IfValue es a = IfAnswer (OfValueType es) a

abbrev pub IfOperand : Structures → Answer Operand → Type 0
IfOperand es a = IfAnswer (OfType es) a

pub then_value : {A : Type 0} (es : Structures) (a : Answer A) (next : A → Answer Value)
    → ((x : A) → IfValue es (next x)) → IfValue es (a >>= next)
then_value es (Ok x) next h = h x
then_value es (Err f) next h = tt

pub operand_of_type : (es : Structures) (a : Answer Value) → IfValue es a → IfOperand es (as_operand a)
operand_of_type es (Ok v) h = h
operand_of_type es (Err f) h = tt

is_known : (o : Option TypeExtent) (e : TypeExtent) → o ≡ Some e → is_some o ≡ true
is_known o e g = ap is_some g

-- what is complete may be read
pub complete_readable : (es : Structures) (ws : List TypeWord) → is_some (extent_of es ws) ≡ true
    → is_readable es ws ≡ true
unfolding extent_of
complete_readable es [] e = refl
complete_readable es (word.Structure n ∷ ws) e = e
complete_readable es (word.Const ∷ ws) e = complete_readable es ws e
complete_readable es (word.Void ∷ ws) e = refl
complete_readable es (word.Integer t ∷ ws) e = refl
complete_readable es (word.Enumeration n ∷ ws) e = refl
complete_readable es (word.Pointer ∷ ws) e = refl
complete_readable es (word.Array c b ∷ ws) e = refl
complete_readable es (word.OpenArray ∷ ws) e = refl
complete_readable es (word.Takes ∷ ws) e = refl
complete_readable es (word.Gives ∷ ws) e = refl

-- the value of an operand

pointer_type : (es : Structures) (type : List TypeWord) → IsSpelled es type → IsValueType es (word.Pointer ∷ type)
pointer_type es type e = record { spelled = e; readable = refl }

decayed_type : (es : Structures) (b : Bool) (line : ℕ) (p : Place) → IsSpelled es p.type
    → IfValue es ((if b then Ok (word.Pointer ∷ element_of p.type) else violates rule.ArrayOfValue line)
    >>= λ type. Ok (decayed_to type p.tree))
decayed_type es true line p e = pointer_type es (element_of p.type) (element_spelled es 0 p.type e)
decayed_type es false line p e = tt

read_type : (es : Structures) (p : Place) → IsSpelled es p.type → is_some (extent_of es p.type) ≡ true
    → IsValueType es (unqualified p.type)
read_type es p e g = record {
  spelled = unqualified_spelled es 0 p.type e;
  readable = unqualified_readable es p.type (complete_readable es p.type g);
}

loaded_type : (es : Structures) (ws : List TypeWord) (p : Place) → IsSpelled es p.type
    → (operators.is_array_type ws || is_some (extent_of es p.type)) ≡ true → IfValue es (loaded_as ws p)
loaded_type es (word.Array c b ∷ ws) p e g = decayed_type es (is_lvalue p.tree) _ p e
loaded_type es (word.OpenArray ∷ ws) p e g = decayed_type es (is_lvalue p.tree) _ p e
loaded_type es [] p e g = read_type es p e g
loaded_type es (word.Void ∷ ws) p e g = read_type es p e g
loaded_type es (word.Integer t ∷ ws) p e g = read_type es p e g
loaded_type es (word.Enumeration n ∷ ws) p e g = read_type es p e g
loaded_type es (word.Pointer ∷ ws) p e g = read_type es p e g
loaded_type es (word.Structure n ∷ ws) p e g = read_type es p e g
loaded_type es (word.Const ∷ ws) p e g = read_type es p e g
loaded_type es (word.Takes ∷ ws) p e g = read_type es p e g
loaded_type es (word.Gives ∷ ws) p e g = read_type es p e g

place_value : (es : Structures) (p : Place) (line : ℕ) (b : Bool) → may_be_read es p.type ≡ b → IsSpelled es p.type
    → IfValue es (read_unless (if b then None else Some line) (a_place p))
place_value es p line true e is = loaded_type es (unqualified p.type) p is e
place_value es p line false e is = tt

pub among_type : (es : Structures) (o : Operand) → OfType es o → IfValue es (value_among es o)
among_type es (a_value v) h = h
among_type es (a_place p) h = place_value es p _ (may_be_read es p.type) refl h.spelled
among_type es (a_variable x) h = record {
  spelled = unqualified_spelled es 0 x.type h.spelled;
  readable = unqualified_readable es x.type h.readable;
}
among_type es (a_function f) h = pointer_type es f.type h

pub enclosed_type : (es : Structures) (line : ℕ) (o : Operand) → OfType es o → IfOperand es (enclosed line o)
enclosed_type es line (a_value v) h = h
enclosed_type es line (a_place p) h = record { spelled = h.spelled; readable = h.readable }
enclosed_type es line (a_variable x) h = h
enclosed_type es line (a_function f) h = h

pub of_type_spelled : (es : Structures) (o : Operand) → OfType es o → IsSpelled es (type_in o)
of_type_spelled es (a_value v) h = h.spelled
of_type_spelled es (a_place p) h = h.spelled
of_type_spelled es (a_variable x) h = h.spelled
of_type_spelled es (a_function f) h = h

-- operators

integer_type : (es : Structures) (t : IntType) → IsValueType es (word.Integer t ∷ [])
integer_type es t = record { spelled = refl; readable = refl }

built_type : (es : Structures) (r : Row) (op : BinaryOperator) (line : ℕ) (a b : Value) → OfValueType es a
    → OfValueType es b → IfValue es (built r op line a b)
built_type es (row.Arithmetic t) op line a b x y = integer_type es t
built_type es (row.Shift t u) op line a b x y = integer_type es t
built_type es (row.Comparison t) op line a b x y = integer_type es Int
built_type es row.PointerComparison op line a b x y = integer_type es Int
built_type es (row.Offset PointerPlusIndex size) op line a b x y = x
built_type es (row.Offset IndexPlusPointer size) op line a b x y = y
built_type es (row.Offset PointerMinusIndex size) op line a b x y = x
built_type es (row.Difference size) op line a b x y = integer_type es Long
built_type es row.NoRow op line a b x y = tt

binary_type : (es : Structures) (op : BinaryOperator) (line : ℕ) (a b : Value) → OfValueType es a → OfValueType es b
    → IfValue es (binary es op line a b)
unfolding binary
binary_type es op line a b x y =
    built_type es (row_of op (pair_of a b) (class_of es a.type) (class_of es b.type)) op line a b x y

logical_by : (es : Structures) (op : LogicalOperator) (line : ℕ) (are : Bool) (a b : Value)
    → IfValue es (unary_rules.logical_of op line are a b)
logical_by es op line true a b = integer_type es Int
logical_by es op line false a b = tt

logical_type : (es : Structures) (op : LogicalOperator) (line : ℕ) (a b : Value)
    → IfValue es (unary_rules.combined es op line a b)
unfolding unary_rules.combined
logical_type es op line a b = logical_by es op line _ a b

comma_type : (es : Structures) (line : ℕ) (a b : Value) → OfValueType es b → IfValue es (unary_rules.comma line a b)
unfolding unary_rules.comma
comma_type es line a b y = record { spelled = y.spelled; readable = y.readable }

pub combined_type : (s : State) (f : BinaryForm) (line : ℕ) (a b : Value) → OfValueType (extents s) a
    → OfValueType (extents s) b → IfOperand (extents s) (combined f line a b s)
combined_type s binary_form.Comma line a b x y =
    operand_of_type (extents s) (unary_rules.comma line a b) (comma_type (extents s) line a b y)
combined_type s (binary_form.Logical op) line a b x y =
    operand_of_type (extents s) (unary_rules.combined (extents s) op line a b) (logical_type (extents s) op line a b)
combined_type s (binary_form.Value op) line a b x y =
    operand_of_type (extents s) (binary (extents s) op line a b) (binary_type (extents s) op line a b x y)
combined_type s binary_form.Nothing line a b x y = tt

promoting_type : (es : Structures) (op : UnaryOperator) (line : ℕ) (c : Class) (v : Value)
    → IfValue es (unary_rules.promoting op line c v)
promoting_type es op line (class.Integer t) v = integer_type es _
promoting_type es op line (class.Pointer t) v = tt
promoting_type es op line class.Other v = tt

negating_type : (es : Structures) (line : ℕ) (is : Bool) (v : Value) → IfValue es (unary_rules.negating line is v)
negating_type es line true v = integer_type es Int
negating_type es line false v = tt

unary_of_type : (es : Structures) (op : UnaryOperator) (line : ℕ) (c : Class) (v : Value)
    → IfValue es (unary_rules.unary_of op line c v)
unary_of_type es unary_operator.Plus line c v = promoting_type es unary_operator.Plus line c v
unary_of_type es unary_operator.Negate line c v = promoting_type es unary_operator.Negate line c v
unary_of_type es unary_operator.Complement line c v = promoting_type es unary_operator.Complement line c v
unary_of_type es unary_operator.Not line c v = negating_type es line (unary_rules.is_scalar c) v

unary_type : (es : Structures) (op : UnaryOperator) (line : ℕ) (v : Value) → IfValue es (unary_rules.unary es op line v)
unfolding unary_rules.unary
unary_type es op line v = unary_of_type es op line (class_of es v.type) v

-- a type that is no incomplete one may be read

abbrev pub is_incomplete : Target → Bool
is_incomplete target.Incomplete = true
is_incomplete t = false

pub target_readable : (es : Structures) (ws : List TypeWord) → is_incomplete (target_of es ws) ≡ false
    → is_readable es ws ≡ true
unfolding extent_of
target_readable es [] e = refl
target_readable es (word.Structure n ∷ ws) e = by (structure_extent es n) e
  where
    by : (o : Option TypeExtent) → is_incomplete (object_of o) ≡ false → is_some o ≡ true
    by None e = absurd cc
    by (Some x) e = refl
target_readable es (word.Const ∷ ws) e = target_readable es ws e
target_readable es (word.Void ∷ ws) e = refl
target_readable es (word.Integer t ∷ ws) e = refl
target_readable es (word.Enumeration n ∷ ws) e = refl
target_readable es (word.Pointer ∷ ws) e = refl
target_readable es (word.Array c b ∷ ws) e = refl
target_readable es (word.OpenArray ∷ ws) e = refl
target_readable es (word.Takes ∷ ws) e = refl
target_readable es (word.Gives ∷ ws) e = refl

-- what a pointer to an object points to
pointee_readable : (es : Structures) (ws : List TypeWord) (t : Target) → class_of es ws ≡ class.Pointer t
    → is_incomplete t ≡ false → is_readable es (pointee_of ws) ≡ true
pointee_readable es [] t e g = refl
pointee_readable es (word.Pointer ∷ ws) t e g = target_readable es ws (ap is_incomplete (the_same e) ∙ g)
  where
    the_same : class.Pointer (target_of es ws) ≡ class.Pointer t → target_of es ws ≡ t
    the_same e = cc
pointee_readable es (word.Const ∷ ws) t e g = pointee_readable es ws t e g
pointee_readable es (word.Structure n ∷ ws) t e g = absurd cc
pointee_readable es (word.Void ∷ ws) t e g = refl
pointee_readable es (word.Integer i ∷ ws) t e g = refl
pointee_readable es (word.Enumeration n ∷ ws) t e g = refl
pointee_readable es (word.Array c b ∷ ws) t e g = refl
pointee_readable es (word.OpenArray ∷ ws) t e g = refl
pointee_readable es (word.Takes ∷ ws) t e g = refl
pointee_readable es (word.Gives ∷ ws) t e g = refl

pointee_type : (es : Structures) (v : Value) (size : ℕ) → class_of es v.type ≡ class.Pointer (target.Object size)
    → OfValueType es v → IsValueType es (pointee_of v.type)
pointee_type es v size e h = record {
  spelled = pointee_spelled es 0 v.type h.spelled;
  readable = pointee_readable es v.type (target.Object size) e refl;
}

pub object_type : (es : Structures) (type : List TypeWord) (size line : ℕ) (node : LvalueNode) → IsValueType es type
    → IsPlaceType es (object_at type size line node)
object_type es type size line node h = record { spelled = h.spelled; readable = λ e. h.readable }

dereferenced_by : (es : Structures) (line : ℕ) (c : Class) (v : Value) → class_of es v.type ≡ c → OfValueType es v
    → IfOperand es (dereferenced_as line c v)
dereferenced_by es line (class.Pointer (target.Object size)) v e h =
    object_type es (pointee_of v.type) size line (deref v.tree) (pointee_type es v size e h)
dereferenced_by es line (class.Pointer target.Function) v e h = pointee_spelled es 0 v.type h.spelled
dereferenced_by es line (class.Pointer target.Void) v e h = tt
dereferenced_by es line (class.Pointer target.Incomplete) v e h = tt
dereferenced_by es line (class.Integer t) v e h = tt
dereferenced_by es line class.Other v e h = tt

dereferenced_type : (es : Structures) (line : ℕ) (v : Value) → OfValueType es v → IfOperand es (dereferenced es line v)
unfolding dereferenced
dereferenced_type es line v h = dereferenced_by es line (class_of es v.type) v refl h

pub unary_value_type : (s : State) (f : PrefixForm) (line : ℕ) (v : Value) → OfValueType (extents s) v
    → IfOperand (extents s) (unary_value f line v s)
unary_value_type s (form.Value op) line v h =
    operand_of_type (extents s) (unary_rules.unary (extents s) op line v) (unary_type (extents s) op line v)
unary_value_type s form.Dereference line v h = dereferenced_type (extents s) line v h
unary_value_type s form.Address line v h = tt
unary_value_type s (form.Step op) line v h = tt
unary_value_type s form.Nothing line v h = tt

place_address_type : (es : Structures) (b : Bool) (line : ℕ) (p : Place) → IsSpelled es p.type
    → IfValue es ((if b then Ok (word.Pointer ∷ p.type) else violates rule.NoAddress line)
    >>= λ type. Ok (address_to line type p.tree))
place_address_type es true line p h = pointer_type es p.type h
place_address_type es false line p h = tt

pub address_type : (es : Structures) (line : ℕ) (o : Operand) → OfType es o → IfValue es (address line o)
address_type es line (a_value v) h = tt
address_type es line (a_place p) h = place_address_type es (is_lvalue p.tree) line p h.spelled
address_type es line (a_variable x) h = tt
address_type es line (a_function f) h = pointer_type es f.type h

indexed_by : (es : Structures) (line : ℕ) (c d : Class) (a b : Value) → class_of es a.type ≡ c → class_of es b.type ≡ d
    → OfValueType es a → OfValueType es b
    → IfOperand es (as_place (element_as line (subscript c d) a b >>= λ e. Ok (element_at line a b e)))
indexed_by es line (class.Pointer (target.Object size)) (class.Integer k) a b e g x y =
    object_type es (pointee_of a.type) size line (index_node PointerPlusIndex size a.tree b.tree)
    (pointee_type es a size e x)
indexed_by es line (class.Integer j) (class.Pointer (target.Object size)) a b e g x y =
    object_type es (pointee_of b.type) size line (index_node IndexPlusPointer size a.tree b.tree)
    (pointee_type es b size g y)
indexed_by es line (class.Pointer (target.Object size)) (class.Pointer t) a b e g x y = tt
indexed_by es line (class.Pointer (target.Object size)) class.Other a b e g x y = tt
indexed_by es line (class.Pointer target.Function) d a b e g x y = tt
indexed_by es line (class.Pointer target.Void) d a b e g x y = tt
indexed_by es line (class.Pointer target.Incomplete) d a b e g x y = tt
indexed_by es line (class.Integer j) (class.Pointer target.Function) a b e g x y = tt
indexed_by es line (class.Integer j) (class.Pointer target.Void) a b e g x y = tt
indexed_by es line (class.Integer j) (class.Pointer target.Incomplete) a b e g x y = tt
indexed_by es line (class.Integer j) (class.Integer k) a b e g x y = tt
indexed_by es line (class.Integer j) class.Other a b e g x y = tt
indexed_by es line class.Other d a b e g x y = tt

pub indexed_type : (s : State) (line : ℕ) (a b : Value) → OfValueType (extents s) a → OfValueType (extents s) b
    → IfOperand (extents s) (operators.indexed line a b s)
unfolding indexed
indexed_type s line a b x y =
    indexed_by (extents s) line (class_of (extents s) a.type) (class_of (extents s) b.type) a b refl refl x y

-- what may be written is complete, where it is a structure or union

place_written_type : (es : Structures) (p : Place) → IsSpelled es p.type → is_readable es p.type ≡ true
    → IsValueType es (unqualified p.type)
place_written_type es p e g = record {
  spelled = unqualified_spelled es 0 p.type e;
  readable = unqualified_readable es p.type g;
}

-- an operand behind the test of whether it may be written

place_then : (es : Structures) (p : Place) (line : ℕ) (next : Operand → Answer Value) (incomplete other : Bool)
    → (incomplete ≡ false → IfValue es (next (a_place p)))
    → IfValue es
    (where_none (lowest ((rule.Incomplete, incomplete) ∷ (rule.NotAssignable, other) ∷ [])) line (a_place p) >>= next)
place_then es p line next true other h = tt
place_then es p line next false true h = tt
place_then es p line next false false h = h refl

variable_then : (es : Structures) (x : Operand) (line : ℕ) (next : Operand → Answer Value) (other : Bool)
    → IfValue es (next x)
    → IfValue es (where_none (lowest ((rule.NotAssignable, other) ∷ [])) line x >>= next)
variable_then es x line next true h = tt
variable_then es x line next false h = h

assignable_then : (es : Structures) (marks : List Bool) (line : ℕ) (o : Operand) (next : Operand → Answer Value)
    → OfType es o
    → ((p : Operand) → IsValueType es (unqualified (type_in p)) → IfValue es (next p))
    → IfValue es (assignable marks line o >>= next)
assignable_then es marks line (a_value v) next h g = tt
assignable_then es marks line (a_place p) next h g =
    place_then es p line next (is_unsized_structure (lvalue_kind p.tree)) _
    (λ e. g (a_place p) (place_written_type es p h.spelled (h.readable e)))
assignable_then es marks line (a_variable x) next h g =
    variable_then es (a_variable x) line next (has_const marks x.type)
    (g (a_variable x) (record {
      spelled = unqualified_spelled es 0 x.type h.spelled;
      readable = unqualified_readable es x.type h.readable;
    }))
assignable_then es marks line (a_function f) next h g = tt

written_type : (es : Structures) (line : ℕ) (o : Operand) (w : Writing) → IsValueType es (unqualified (type_in o))
    → IfValue es (written line o w)
written_type es line (a_value v) w h = tt
written_type es line (a_place p) w h = h
written_type es line (a_variable x) w h = h
written_type es line (a_function f) w h = tt

assignment_type : (es : Structures) (marks : List Bool) (line : ℕ) (o : Operand) (v : Value) → OfType es o
    → IfValue es (assignment es marks line o v)
unfolding assignment
assignment_type es marks line o v h =
    assignable_then es marks line o _ h
    (λ p g. then_value es (conversions.assigned es line (type_in p) v) _ (λ e. written_type es line p (set e) g))

compound_type : (es : Structures) (marks : List Bool) (op : BinaryOperator) (line : ℕ) (o : Operand) (v : Value)
    → OfType es o → IfValue es (compound es marks op line o v)
unfolding compound
compound_type es marks op line o v h =
    assignable_then es marks line o _ h
    (λ p g. then_value es (change_to line (change_between op (class_of es (type_in p)) (class_of es v.type)) v)
    (λ w. written line p w) (λ w. written_type es line p w g))

stepped_type : (es : Structures) (marks : List Bool) (op : StepOperator) (fix : Fixity) (line : ℕ) (o : Operand)
    → OfType es o → IfValue es (stepped es marks op fix line o)
unfolding stepped
stepped_type es marks op fix line o h =
    assignable_then es marks line o _ h
    (λ p g. then_value es
    (step_to line fix (change_between (operator_of op) (class_of es (type_in p)) (class.Integer Int)))
    (λ w. written line p w) (λ w. written_type es line p w g))

pub assigned_type : (s : State) (f : AssignmentForm) (line : ℕ) (o : Operand) (v : Value) → OfType (extents s) o
    → IfOperand (extents s) (assigned_by f line o v s)
assigned_type s assignment_form.Simple line o v h =
    operand_of_type (extents s) (assignment (extents s) (with_const s) line o v)
    (assignment_type (extents s) (with_const s) line o v h)
assigned_type s (assignment_form.Compound op) line o v h =
    operand_of_type (extents s) (compound (extents s) (with_const s) op line o v)
    (compound_type (extents s) (with_const s) op line o v h)
assigned_type s assignment_form.Nothing line o v h = tt

pub stepped_by_type : (s : State) (f : PrefixForm) (fix : Fixity) (line : ℕ) (o : Operand) → OfType (extents s) o
    → IfOperand (extents s) (stepped_by f fix line o s)
stepped_by_type s (form.Step op) fix line o h =
    operand_of_type (extents s) (stepped (extents s) (with_const s) op fix line o)
    (stepped_type (extents s) (with_const s) op fix line o h)
stepped_by_type s form.Address fix line o h = tt
stepped_by_type s form.Dereference fix line o h = tt
stepped_by_type s (form.Value op) fix line o h = tt
stepped_by_type s form.Nothing fix line o h = tt

-- sizes, casts and the conditional operator

size_in_type : (es : Structures) (line : ℕ) (t : Target) → IfValue es (size_in line t)
size_in_type es line (target.Object n) = record { spelled = refl; readable = refl }
size_in_type es line target.Void = tt
size_in_type es line target.Function = tt
size_in_type es line target.Incomplete = tt

size_type : (es fs : Structures) (line : ℕ) (type : List TypeWord) → IfValue es (size_of fs line type)
unfolding size_of
size_type es fs line type = size_in_type es line (target_of fs type)

pub sized_type : (s : State) (line : ℕ) (type : List TypeWord) → IfOperand (extents s) (sized line type s)
sized_type s line type =
    operand_of_type (extents s) (size_of (extents s) line type) (size_type (extents s) (extents s) line type)

scalar_readable : (es : Structures) (ws : List TypeWord) (from : Class) (k : Kind) (void : Bool)
    → conversions.is_void_type (unqualified ws) ≡ void
    → conversions.cast_kind void (class_of es ws) from ≡ Some k → is_readable es ws ≡ true
scalar_readable es [] from k v e g = refl
scalar_readable es (word.Structure n ∷ ws) from k true e g = absurd cc
scalar_readable es (word.Structure n ∷ ws) from k false e g = absurd cc
scalar_readable es (word.Const ∷ ws) from k v e g = scalar_readable es ws from k v e g
scalar_readable es (word.Void ∷ ws) from k v e g = refl
scalar_readable es (word.Integer t ∷ ws) from k v e g = refl
scalar_readable es (word.Enumeration n ∷ ws) from k v e g = refl
scalar_readable es (word.Pointer ∷ ws) from k v e g = refl
scalar_readable es (word.Array c b ∷ ws) from k v e g = refl
scalar_readable es (word.OpenArray ∷ ws) from k v e g = refl
scalar_readable es (word.Takes ∷ ws) from k v e g = refl
scalar_readable es (word.Gives ∷ ws) from k v e g = refl

cast_by : (es : Structures) (type : List TypeWord) (line : ℕ) (o : Option Kind) (v : Value) → IsSpelled es type
    → ((k : Kind) → o ≡ Some k → is_readable es type ≡ true) → IfValue es (conversions.cast_to type line o v)
cast_by es type line None v h g = tt
cast_by es type line (Some k) v h g = record {
  spelled = unqualified_spelled es 0 type h;
  readable = unqualified_readable es type (g k refl);
}

cast_type : (es : Structures) (line : ℕ) (type : List TypeWord) (v : Value) → IsSpelled es type
    → IfValue es (conversions.cast es line type v)
unfolding conversions.cast
cast_type es line type v h =
    cast_by es type line _ v h
    (λ k g. scalar_readable es type (class_of es v.type) k (conversions.is_void_type (unqualified type)) refl g)

pub cast_to_type : (s : State) (line : ℕ) (type : List TypeWord) (v : Value) → IsSpelled (extents s) type
    → IfOperand (extents s) (cast_to line type v s)
cast_to_type s line type v h =
    operand_of_type (extents s) (conversions.cast (extents s) line type v) (cast_type (extents s) line type v h)

merged_type : (es : Structures) (type left right : List TypeWord) → IsSpelled es type
    → IsValueType es (merged_pointer type left right)
merged_type es type left right h =
    pointer_type es (qualified (is_const (pointee_of left) || is_const (pointee_of right)) type)
    (qualified_spelled es (is_const (pointee_of left) || is_const (pointee_of right)) type h)

abbrev choice : (line : ℕ) → Value → Value → Value → conditions.Shape → Answer Value
choice line c a b s = Ok (record { type = s.type; tree = conditions.chosen line s.kind c.tree a.tree b.tree })

shape_type : (es : Structures) (m : Meeting) (line : ℕ) (c a b : Value) → OfValueType es a → OfValueType es b
    → IfValue es (shape_of m line a b >>= choice line c a b)
shape_type es (meeting.Arithmetic t) line c a b x y = integer_type es t
shape_type es meeting.SamePointee line c a b x y =
    merged_type es (unqualified (pointee_of a.type)) a.type b.type
    (unqualified_spelled es 0 (pointee_of a.type) (pointee_spelled es 0 a.type x.spelled))
shape_type es meeting.ToVoid line c a b x y = merged_type es (word.Void ∷ []) a.type b.type refl
shape_type es meeting.AsLeft line c a b x y = record { spelled = x.spelled; readable = x.readable }
shape_type es meeting.AsRight line c a b x y = record { spelled = y.spelled; readable = y.readable }
shape_type es meeting.AsTheyAre line c a b x y = record { spelled = x.spelled; readable = x.readable }
shape_type es meeting.NoMeeting line c a b x y = tt

chosen_by : (es : Structures) (scalar : Bool) (m : Meeting) (line : ℕ) (c a b : Value) → OfValueType es a
    → OfValueType es b
    → IfValue es ((if scalar then shape_of m line a b else violates rule.Operands line) >>= choice line c a b)
chosen_by es true m line c a b x y = shape_type es m line c a b x y
chosen_by es false m line c a b x y = tt

conditional_type : (es : Structures) (line : ℕ) (c a b : Value) → OfValueType es a → OfValueType es b
    → IfValue es (conditional es line c a b)
unfolding conditional
conditional_type es line c a b x y =
    chosen_by es (unary_rules.is_scalar (class_of es c.type)) (meeting_in es a b) line c a b x y

pub chosen_type : (s : State) (line : ℕ) (c a b : Value) → OfValueType (extents s) a → OfValueType (extents s) b
    → IfOperand (extents s) (chosen line c a b s)
chosen_type s line c a b x y =
    operand_of_type (extents s) (conditional (extents s) line c a b) (conditional_type (extents s) line c a b x y)
