-- What the constructs of an expression make of operands whose constants are words.
use Rattle.std.proofs.Common.{◌≡◌, ℕ, ◌^◌, ◌<◌, Bool, true, false, ◌&&◌, refl, subst, List, [], ◌∷◌}
use Rattle.std.proofs.Common.{Option, Some, None, if◌then◌else◌, arith}
use Rattle.std.specs.Prelude.{Ok, Err}
use Rattle.obj_memory.specs.declared.int_type.IntType.TheVariants.{Char, Int}
use Rattle.obj_memory.specs.declared.operator.BinaryOperator.{BinaryOperator}
use Rattle.obj_memory.specs.declared.operator.UnaryOperator.{UnaryOperator}
use Rattle.obj_memory.specs.declared.operator.UnaryOperator.TheVariants as unary_operator
use Rattle.obj_memory.proofs.Words.{fit_below}
use Rattle.c_lexer.specs.declared.integer.IntegerConstant.{IntegerConstant}
use Rattle.c_lexer.specs.Constants.{constant_of}
use Rattle.c_lexer.specs.Literals.{character_value}
use Rattle.c_tree.specs.declared.c_type.TypeWord.{TypeWord}
use Rattle.c_tree.specs.declared.c_type.TypeWord.TheVariants as word
use Rattle.c_tree.specs.declared.expression.Fixity.{Fixity}
use Rattle.c_tree.specs.declared.expression.Kind.{Kind}
use Rattle.c_tree.specs.declared.format.Directive.{Directive}
use Rattle.c_tree.specs.Extents.{TypeExtent, extent_of}
use Rattle.c_tree.specs.Kinds.{integer, is_kind, is_size, pointer}
use Rattle.c_tree.specs.Tree.{Expression, convert, expression, kind_of, line_of}
use Rattle.c_rules.specs.declared.class.Class.{Class}
use Rattle.c_rules.specs.declared.class.Class.TheVariants as class
use Rattle.c_rules.specs.declared.class.Target.{Target}
use Rattle.c_rules.specs.declared.class.Target.TheVariants as target
use Rattle.c_rules.specs.declared.row.Row.{Row}
use Rattle.c_rules.specs.declared.row.Row.TheVariants as row
use Rattle.c_rules.specs.declared.unary.LogicalOperator.{LogicalOperator}
use Rattle.c_rules.specs.declared.unary.LogicalOperator.TheVariants as logical
use Rattle.c_faults.specs.declared.fault.Rule.TheVariants.{MistakenFormat}
use Rattle.c_faults.specs.Answer.{Answer, violates, ◌>>=◌}
use Rattle.c_rules.specs.Binary.{binary, built, pair_of}
use Rattle.c_rules.specs.Conversions as conversions
use Rattle.c_rules.specs.Rows.{row_of}
use Rattle.c_rules.specs.Types.{class_of, object_of, target_of, unqualified}
use Rattle.c_rules.specs.Unary as unary_rules
use Rattle.c_rules.specs.Values.{Value, converted}
use Rattle.c_rules.specs.Values as values
use Rattle.c_place_rules.specs.Operands.{Operand, Place, a_value, a_place, a_variable, a_function, enclosed}
use Rattle.c_place_rules.specs.Operands.{decayed_to, element_pointer, loaded_as, value_in}
use Rattle.c_place_rules.specs.Places.{address, dereferenced, dereferenced_as, place_pointer, size_in, size_of, type_in}
use Rattle.c_condition_rules.specs.Conditions.{conditional, shape_in}
use Rattle.c_assignment_rules.specs.declared.operators.StepOperator.{StepOperator}
use Rattle.c_assignment_rules.specs.Assignable.{assignable}
use Rattle.c_assignment_rules.specs.Assignments.{assignment, change_between, change_to, compound, operator_of, step_to}
use Rattle.c_assignment_rules.specs.Assignments.{stepped}
use Rattle.c_assignment_rules.specs.Writing.{Writing, change, set, step_by, written}
use Rattle.c_call_rules.specs.Calls.{Callee, call_tree, called, called_if, called_through, of_function, of_pointer}
use Rattle.c_call_rules.specs.Calls.{of_routine, outcome_in, passed}
use Rattle.c_call_rules.specs.FunctionTypes.{callee_type}
use Rattle.c_call_rules.specs.Printing.{Format, a_literal, another, directives_in, formatted, printed, printed_by}
use Rattle.c_call_rules.specs.Printing.{printf_tree}
use Rattle.c_operand_typing.specs.declared.forms.AssignmentForm.{AssignmentForm}
use Rattle.c_operand_typing.specs.declared.forms.AssignmentForm.TheVariants as assignment_form
use Rattle.c_operand_typing.specs.declared.forms.BinaryForm.{BinaryForm}
use Rattle.c_operand_typing.specs.declared.forms.BinaryForm.TheVariants as binary_form
use Rattle.c_operand_typing.specs.declared.forms.PrefixForm.{PrefixForm}
use Rattle.c_operand_typing.specs.declared.forms.PrefixForm.TheVariants as form
use Rattle.c_operand_typing.specs.Operators.{as_operand, as_place, assigned_by, combined, read_unless, stepped_by}
use Rattle.c_operand_typing.specs.Operators.{unary_value}
use Rattle.c_operand_typing.specs.Operators.{unreadable, value_among}
use Rattle.c_operand_typing.specs.Primaries.{character_constant, integer_as, integer_constant, or_zero}
use Rattle.c_operand_typing.specs.Primaries.{type_of_constant}
use Rattle.c_typing_state.specs.State.{State, extents, with_const}
use Rattle.c_expression_typing.specs.Constructs.{cast_to, chosen, sized}
use Rattle.typing_laws.proofs.Validity.Constants.{IsHeld, constant_held, within_type}
use Rattle.typing_laws.proofs.Validity.Moved.{size_high}
use Rattle.typing_laws.proofs.Validity.Sound.{IfAnswer}
use Rattle.typing_laws.specs.Declarators.Given.{HasWords, OperandHasWords, ValueHasWords}

abbrev Words : Answer Value → Type 0
Words a = IfAnswer (λ v. HasWords v.tree) a

then_words : {A : Type 0} (a : Answer A) (next : A → Answer Value) → ((x : A) → Words (next x)) → Words (a >>= next)
then_words (Ok x) next h = h x
then_words (Err f) next h = tt

pub operand_words : (s : State) (a : Answer Value) → IfAnswer (ValueHasWords s) a
    → IfAnswer (OperandHasWords s) (as_operand a)
operand_words s (Ok v) h = h
operand_words s (Err f) h = tt

pub place_words : (s : State) (a : Answer Place) → IfAnswer (OperandHasWords s) (as_place a)
place_words s (Ok p) = tt
place_words s (Err f) = tt

convert_by : (b : Bool) (k : Kind) (e : Expression) → HasWords e → HasWords (if b then e else
    expression k (line_of e) (convert e))
convert_by true k e h = h
convert_by false k e h = tt

converted_words : (k : Kind) (e : Expression) → HasWords e → HasWords (converted k e)
converted_words k e h = convert_by (is_kind k (kind_of e)) k e h

-- the value of an operand

decayed_words : (a : Answer (List TypeWord)) (p : Place)
    → Words (a >>= λ type. Ok (decayed_to type p.tree))
decayed_words (Ok type) p = tt
decayed_words (Err f) p = tt

loaded_words : (ws : List TypeWord) (p : Place) → Words (loaded_as ws p)
loaded_words [] p = tt
loaded_words (word.Void ∷ ws) p = tt
loaded_words (word.Integer t ∷ ws) p = tt
loaded_words (word.Enumeration n ∷ ws) p = tt
loaded_words (word.Pointer ∷ ws) p = tt
loaded_words (word.Array count bytes ∷ ws) p = decayed_words (element_pointer p) p
loaded_words (word.OpenArray ∷ ws) p = decayed_words (element_pointer p) p
loaded_words (word.Structure n ∷ ws) p = tt
loaded_words (word.Const ∷ ws) p = tt
loaded_words (word.Takes ∷ ws) p = tt
loaded_words (word.Gives ∷ ws) p = tt

value_words : (s : State) (o : Operand) → OperandHasWords s o → Words (value_in o)
value_words s (a_value v) h = h
value_words s (a_place p) h = loaded_words (unqualified p.type) p
value_words s (a_variable x) h = h
value_words s (a_function f) h = h

read_words : (s : State) (line : Option ℕ) (o : Operand) → OperandHasWords s o → Words (read_unless line o)
read_words s None o h = value_words s o h
read_words s (Some line) o h = tt

pub among_words : (s : State) (es : List (Option TypeExtent)) (o : Operand) → OperandHasWords s o
    → IfAnswer (ValueHasWords s) (value_among es o)
among_words s es o h = read_words s (unreadable es o) o h

pub enclosed_words : (s : State) (line : ℕ) (o : Operand) → OperandHasWords s o
    → IfAnswer (OperandHasWords s) (enclosed line o)
enclosed_words s line (a_value v) h = h
enclosed_words s line (a_place p) h = tt
enclosed_words s line (a_variable x) h = h
enclosed_words s line (a_function f) h = h

-- operators

built_words : (r : Row) (op : BinaryOperator) (line : ℕ) (a b : Value) → HasWords a.tree → HasWords b.tree
    → Words (built r op line a b)
built_words (row.Arithmetic t) op line a b x y =
    (converted_words (integer t) a.tree x, converted_words (integer t) b.tree y)
built_words (row.Shift t u) op line a b x y =
    (converted_words (integer t) a.tree x, converted_words (integer u) b.tree y)
built_words (row.Comparison t) op line a b x y =
    (converted_words (integer t) a.tree x, converted_words (integer t) b.tree y)
built_words row.PointerComparison op line a b x y =
    (converted_words pointer a.tree x, converted_words pointer b.tree y)
built_words (row.Offset form size) op line a b x y = tt
built_words (row.Difference size) op line a b x y = tt
built_words row.NoRow op line a b x y = tt

binary_words : (es : List (Option TypeExtent)) (op : BinaryOperator) (line : ℕ) (a b : Value) → HasWords a.tree
    → HasWords b.tree → Words (binary es op line a b)
unfolding binary
binary_words es op line a b x y =
    built_words (row_of op (pair_of a b) (class_of es a.type) (class_of es b.type)) op line a b x y

logical_by : (op : LogicalOperator) (line : ℕ) (are : Bool) (a b : Value)
    → Words (unary_rules.logical_of op line are a b)
logical_by logical.And line true a b = tt
logical_by logical.Or line true a b = tt
logical_by op line false a b = tt

logical_words : (es : List (Option TypeExtent)) (op : LogicalOperator) (line : ℕ) (a b : Value)
    → Words (unary_rules.combined es op line a b)
unfolding unary_rules.combined
logical_words es op line a b =
    logical_by op line (unary_rules.is_scalar (class_of es a.type) && unary_rules.is_scalar (class_of es b.type)) a b

comma_words : (line : ℕ) (a b : Value) → Words (unary_rules.comma line a b)
unfolding unary_rules.comma
comma_words line a b = tt

pub combined_words : (s : State) (f : BinaryForm) (line : ℕ) (a b : Value) → HasWords a.tree → HasWords b.tree
    → IfAnswer (OperandHasWords s) (combined f line a b s)
combined_words s binary_form.Comma line a b x y =
    operand_words s (unary_rules.comma line a b) (comma_words line a b)
combined_words s (binary_form.Logical op) line a b x y =
    operand_words s (unary_rules.combined (extents s) op line a b) (logical_words (extents s) op line a b)
combined_words s (binary_form.Value op) line a b x y =
    operand_words s (binary (extents s) op line a b) (binary_words (extents s) op line a b x y)
combined_words s binary_form.Nothing line a b x y = tt

written_words : (line : ℕ) (o : Operand) (w : Writing) → Words (written line o w)
written_words line (a_value v) w = tt
written_words line (a_place p) (set e) = tt
written_words line (a_place p) (change u e) = tt
written_words line (a_place p) (step_by u fixity) = tt
written_words line (a_variable x) (set e) = tt
written_words line (a_variable x) (change u e) = tt
written_words line (a_variable x) (step_by u fixity) = tt
written_words line (a_function f) w = tt

assignment_words : (es : List (Option TypeExtent)) (marks : List Bool) (line : ℕ) (o : Operand) (v : Value)
    → Words (assignment es marks line o v)
unfolding assignment
assignment_words es marks line o v =
    then_words (assignable marks line o) _
    (λ p. then_words (conversions.assigned es line _ v) _ (λ e. written_words line p (set e)))

compound_words : (es : List (Option TypeExtent)) (marks : List Bool) (op : BinaryOperator) (line : ℕ) (o : Operand)
    (v : Value)
    → Words (compound es marks op line o v)
unfolding compound
compound_words es marks op line o v =
    then_words (assignable marks line o) _
    (λ p. then_words (change_to line (change_between op (class_of es (type_in p)) (class_of es v.type)) v)
    (λ w. written line p w) (λ w. written_words line p w))

stepped_words : (es : List (Option TypeExtent)) (marks : List Bool)
    (op : StepOperator) (fix : Fixity) (line : ℕ)
    (o : Operand) → Words (stepped es marks op fix line o)
unfolding stepped
stepped_words es marks op fix line o =
    then_words (assignable marks line o) _
    (λ p. then_words
    (step_to line fix (change_between (operator_of op) (class_of es (type_in p)) (class.Integer Int)))
    (λ w. written line p w) (λ w. written_words line p w))

pub assigned_words : (s : State) (f : AssignmentForm) (line : ℕ) (o : Operand) (v : Value)
    → IfAnswer (OperandHasWords s) (assigned_by f line o v s)
assigned_words s assignment_form.Simple line o v =
    operand_words s (assignment (extents s) (with_const s) line o v)
    (assignment_words (extents s) (with_const s) line o v)
assigned_words s (assignment_form.Compound op) line o v =
    operand_words s (compound (extents s) (with_const s) op line o v)
    (compound_words (extents s) (with_const s) op line o v)
assigned_words s assignment_form.Nothing line o v = tt

pub stepped_by_words : (s : State) (f : PrefixForm) (fix : Fixity) (line : ℕ) (o : Operand)
    → IfAnswer (OperandHasWords s) (stepped_by f fix line o s)
stepped_by_words s (form.Step op) fix line o =
    operand_words s (stepped (extents s) (with_const s) op fix line o)
    (stepped_words (extents s) (with_const s) op fix line o)
stepped_by_words s form.Address fix line o = tt
stepped_by_words s form.Dereference fix line o = tt
stepped_by_words s (form.Value op) fix line o = tt
stepped_by_words s form.Nothing fix line o = tt

promoting_words : (op : UnaryOperator) (line : ℕ) (c : Class) (v : Value) → Words (unary_rules.promoting op line c v)
promoting_words op line (class.Integer t) v = tt
promoting_words op line (class.Pointer t) v = tt
promoting_words op line class.Other v = tt

negating_words : (line : ℕ) (is : Bool) (v : Value) → Words (unary_rules.negating line is v)
negating_words line true v = tt
negating_words line false v = tt

unary_of_words : (op : UnaryOperator) (line : ℕ) (c : Class) (v : Value) → Words (unary_rules.unary_of op line c v)
unary_of_words unary_operator.Plus line c v = promoting_words unary_operator.Plus line c v
unary_of_words unary_operator.Negate line c v = promoting_words unary_operator.Negate line c v
unary_of_words unary_operator.Complement line c v = promoting_words unary_operator.Complement line c v
unary_of_words unary_operator.Not line c v = negating_words line (unary_rules.is_scalar c) v

unary_words : (es : List (Option TypeExtent)) (op : UnaryOperator) (line : ℕ) (v : Value)
    → Words (unary_rules.unary es op line v)
unfolding unary_rules.unary
unary_words es op line v = unary_of_words op line (class_of es v.type) v

dereferenced_by : (s : State) (line : ℕ) (c : Class) (v : Value)
    → IfAnswer (OperandHasWords s) (dereferenced_as line c v)
dereferenced_by s line (class.Pointer (target.Object size)) v = tt
dereferenced_by s line (class.Pointer target.Function) v = tt
dereferenced_by s line (class.Pointer target.Void) v = tt
dereferenced_by s line (class.Pointer target.Incomplete) v = tt
dereferenced_by s line (class.Integer t) v = tt
dereferenced_by s line class.Other v = tt

dereferenced_words : (s : State) (line : ℕ) (v : Value) → IfAnswer (OperandHasWords s) (dereferenced (extents s) line v)
unfolding dereferenced
dereferenced_words s line v = dereferenced_by s line (class_of (extents s) v.type) v

pub unary_value_words : (s : State) (f : PrefixForm) (line : ℕ) (v : Value)
    → IfAnswer (OperandHasWords s) (unary_value f line v s)
unary_value_words s (form.Value op) line v =
    operand_words s (unary_rules.unary (extents s) op line v) (unary_words (extents s) op line v)
unary_value_words s form.Dereference line v = dereferenced_words s line v
unary_value_words s form.Address line v = tt
unary_value_words s (form.Step op) line v = tt
unary_value_words s form.Nothing line v = tt

pub address_words : (line : ℕ) (o : Operand) → Words (address line o)
address_words line (a_value v) = tt
address_words line (a_place p) = then_words (place_pointer line p) _ (λ type. tt)
address_words line (a_variable x) = tt
address_words line (a_function f) = tt

-- sizes and casts

abbrev SmallTarget : Target → Type 0
SmallTarget (target.Object n) = n < 2 ^ 64
SmallTarget t = Unit {0}

small_by : (n : ℕ) (b : Bool) → is_size n ≡ b → SmallTarget (if b then target.Object n else target.Incomplete)
small_by n true e = let high = size_high n e in omega arith
small_by n false e = tt

small_object : (o : Option TypeExtent) → SmallTarget (object_of o)
small_object None = tt
small_object (Some e) = small_by e.size (is_size e.size) refl

small_target : (es : List (Option TypeExtent)) (ws : List TypeWord) → SmallTarget (target_of es ws)
small_target es [] = small_object (extent_of es [])
small_target es (word.Void ∷ ws) = tt
small_target es (word.Integer t ∷ ws) = small_object (extent_of es (word.Integer t ∷ ws))
small_target es (word.Enumeration n ∷ ws) = small_object (extent_of es (word.Enumeration n ∷ ws))
small_target es (word.Pointer ∷ ws) = small_object (extent_of es (word.Pointer ∷ ws))
small_target es (word.Array count bytes ∷ ws) = small_object (extent_of es (word.Array count bytes ∷ ws))
small_target es (word.OpenArray ∷ ws) = small_object (extent_of es (word.OpenArray ∷ ws))
small_target es (word.Structure n ∷ ws) = small_object (extent_of es (word.Structure n ∷ ws))
small_target es (word.Const ∷ ws) = small_target es ws
small_target es (word.Takes ∷ ws) = tt
small_target es (word.Gives ∷ ws) = tt

size_in_words : (line : ℕ) (t : Target) → SmallTarget t → Words (size_in line t)
size_in_words line (target.Object n) h = h
size_in_words line target.Void h = tt
size_in_words line target.Function h = tt
size_in_words line target.Incomplete h = tt

size_words : (es : List (Option TypeExtent)) (line : ℕ) (type : List TypeWord) → Words (size_of es line type)
unfolding size_of
size_words es line type = size_in_words line (target_of es type) (small_target es type)

pub sized_words : (s : State) (line : ℕ) (type : List TypeWord) → IfAnswer (OperandHasWords s) (sized line type s)
sized_words s line type = operand_words s (size_of (extents s) line type) (size_words (extents s) line type)

cast_by : (type : List TypeWord) (line : ℕ) (o : Option Kind) (v : Value) → Words (conversions.cast_to type line o v)
cast_by type line None v = tt
cast_by type line (Some k) v = tt

cast_words : (es : List (Option TypeExtent)) (line : ℕ) (type : List TypeWord) (v : Value)
    → Words (conversions.cast es line type v)
unfolding conversions.cast
cast_words es line type v = cast_by type line _ v

pub cast_to_words : (s : State) (line : ℕ) (type : List TypeWord) (v : Value)
    → IfAnswer (OperandHasWords s) (cast_to line type v s)
cast_to_words s line type v =
    operand_words s (conversions.cast (extents s) line type v) (cast_words (extents s) line type v)

conditional_words : (es : List (Option TypeExtent)) (line : ℕ) (c a b : Value) → HasWords a.tree → HasWords b.tree
    → Words (conditional es line c a b)
unfolding conditional
conditional_words es line c a b x y =
    then_words (shape_in es line c a b) _
    (λ s. (converted_words s.kind a.tree x, converted_words s.kind b.tree y))

pub chosen_words : (s : State) (line : ℕ) (c a b : Value) → HasWords a.tree → HasWords b.tree
    → IfAnswer (OperandHasWords s) (chosen line c a b s)
chosen_words s line c a b x y =
    operand_words s (conditional (extents s) line c a b) (conditional_words (extents s) line c a b x y)

-- calls

call_by : (line : ℕ) (k : Kind) (callee : Callee) (es : List Expression)
    → HasWords (call_tree line k callee es)
call_by line k (of_function n) es = tt
call_by line k (of_pointer n e) es = tt
call_by line k (of_routine r) es = tt

called_words : (es : List (Option TypeExtent)) (line : ℕ) (callee : Callee) (type : List TypeWord) (vs : List Value)
    → Words (called es line callee type vs)
unfolding called
called_words es line callee type vs =
    then_words (outcome_in es line type) _
    (λ o. then_words (passed es line type [] vs)
    (λ args. Ok (record { type = o.type; tree = call_tree line o.kind callee args }))
    (λ args. call_by line o.kind callee args))

pub plainly_words : (s : State) (line : ℕ) (callee : Callee) (type : List TypeWord) (vs : List Value)
    → IfAnswer (OperandHasWords s) (as_operand (called (extents s) line callee type vs))
plainly_words s line callee type vs =
    operand_words s (called (extents s) line callee type vs) (called_words (extents s) line callee type vs)

through_by : (es : List (Option TypeExtent)) (line n : ℕ) (o : Option (List TypeWord)) (v : Value) (vs : List Value)
    → Words (called_if es line n o v vs)
through_by es line n None v vs = tt
through_by es line n (Some type) v vs = called_words es line (of_pointer n v.tree) type vs

pub through_words : (es : List (Option TypeExtent)) (line n : ℕ) (v : Value) (vs : List Value)
    → Words (called_through es line n v vs)
unfolding called_through
through_words es line n v vs = through_by es line n (callee_type v.type) v vs

printed_by_words : (es : List (Option TypeExtent)) (line : ℕ) (bytes : List ℕ) (o : Option (List Directive))
    (vs : List Value)
    → Words (printed_by es line bytes o vs)
printed_by_words es line bytes None vs = tt
printed_by_words es line bytes (Some ds) vs =
    then_words (printed es line ds [] vs)
    (λ args. Ok (record { type = values.integer_words Int; tree = printf_tree line bytes args })) (λ args. tt)

formatted_words : (es : List (Option TypeExtent)) (line : ℕ) (f : Option Format) (vs : List Value)
    → Words (formatted es line f vs)
formatted_words es line None vs = tt
formatted_words es line (Some (another v)) vs =
    then_words (conversions.assigned es line (word.Pointer ∷ word.Const ∷ word.Integer Char ∷ []) v)
    (λ e. violates MistakenFormat line) (λ e. tt)
formatted_words es line (Some (a_literal bytes)) vs = printed_by_words es line bytes (directives_in bytes) vs

pub printed_words : (s : State) (line : ℕ) (f : Option Format) (vs : List Value)
    → IfAnswer (OperandHasWords s) (as_operand (formatted (extents s) line f vs))
printed_words s line f vs = operand_words s (formatted (extents s) line f vs) (formatted_words (extents s) line f vs)

-- constants

integer_by : (line : ℕ) (o : Option IntegerConstant) → IsHeld o → HasWords (integer_as line o).tree
integer_by line None h = omega arith
integer_by line (Some c) h =
    subst (λ n. n < 2 ^ 64) (within_type c.integer_type c.value h)
    (fit_below (type_of_constant c.integer_type) c.value)

pub integer_words : (spelling : List ℕ) (line : ℕ) → HasWords (integer_constant spelling line).tree
integer_words spelling line = integer_by line (constant_of spelling) (constant_held spelling)

pub character_words : (spelling : List ℕ) (line : ℕ) → HasWords (character_constant spelling line).tree
character_words spelling line = fit_below Int (or_zero (character_value spelling))
