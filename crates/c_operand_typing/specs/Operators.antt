-- The operators of the syntax, on operands that are typed (C99 6.5.2 to 6.5.17).
use Rattle.std.specs.Prelude.{ℕ, zero, suc, Bool, true, false, ◌||◌, if◌then◌else◌, List, [], ◌∷◌, Option, Some, None}
use Rattle.std.specs.Prelude.{Ok, ◌+◌, ◌-◌, ◌++◌, length, is_some, option_map, slice_set}
use Rattle.obj_memory.specs.declared.operator.BinaryOperator.TheVariants as binary_operator
use Rattle.obj_memory.specs.declared.operator.UnaryOperator.TheVariants as unary_operator
use Rattle.c_lexer.specs.declared.punctuator.Punctuator.{Punctuator}
use Rattle.c_lexer.specs.declared.punctuator.Punctuator.TheVariants as sign
use Rattle.c_tree.specs.declared.c_type.TypeWord.{TypeWord}
use Rattle.c_tree.specs.declared.c_type.TypeWord.TheVariants as word
use Rattle.c_tree.specs.declared.expression.Fixity.{Fixity}
use Rattle.c_tree.specs.Extents.{TypeExtent, extent_of}
use Rattle.c_tree.specs.Tree.{Lvalue, lvalue, LvalueNode, automatic, parenthesized_lvalue, lvalue_line}
use Rattle.c_faults.specs.declared.fault.Rule.TheVariants.{Incomplete, Operands}
use Rattle.c_rules.specs.declared.unary.LogicalOperator.TheVariants as logical_operator
use Rattle.c_faults.specs.Answer.{Answer, violates, ◌>>=◌}
use Rattle.c_rules.specs.Binary.{binary}
use Rattle.c_rules.specs.Types.{unqualified}
use Rattle.c_rules.specs.Unary as unary_rules
use Rattle.c_rules.specs.Values.{Value}
use Rattle.c_place_rules.specs.Operands.{Operand, Place, a_value, a_place, value_in}
use Rattle.c_place_rules.specs.Places as places
use Rattle.c_place_rules.specs.Places.{address, arrow, dereferenced, selected, structure_of}
use Rattle.c_assignment_rules.specs.declared.operators.StepOperator.TheVariants as step_operator
use Rattle.c_assignment_rules.specs.Assignments.{assignment, compound, stepped}
use Rattle.c_scope.specs.Names.{Name}
use Rattle.c_scope.specs.Structures.{member_of}
use Rattle.c_operand_typing.specs.declared.forms.AssignmentForm.{AssignmentForm}
use Rattle.c_operand_typing.specs.declared.forms.AssignmentForm.TheVariants as assignment_form
use Rattle.c_operand_typing.specs.declared.forms.BinaryForm.{BinaryForm}
use Rattle.c_operand_typing.specs.declared.forms.BinaryForm.TheVariants as binary_form
use Rattle.c_operand_typing.specs.declared.forms.PrefixForm.{PrefixForm}
use Rattle.c_operand_typing.specs.declared.forms.PrefixForm.TheVariants as prefix_form
use Rattle.c_typing_state.specs.State.{State, Typing, extents, judged, with_const}

-- which operator a punctuator is

abbrev pub prefix_form_of : Punctuator → PrefixForm
prefix_form_of sign.Ampersand = prefix_form.Address
prefix_form_of sign.Star = prefix_form.Dereference
prefix_form_of sign.Increment = prefix_form.Step step_operator.Increment
prefix_form_of sign.Decrement = prefix_form.Step step_operator.Decrement
prefix_form_of sign.Plus = prefix_form.Value unary_operator.Plus
prefix_form_of sign.Minus = prefix_form.Value unary_operator.Negate
prefix_form_of sign.Tilde = prefix_form.Value unary_operator.Complement
prefix_form_of sign.Exclamation = prefix_form.Value unary_operator.Not
prefix_form_of _ = prefix_form.Nothing

abbrev pub binary_form_of : Punctuator → BinaryForm
binary_form_of sign.Comma = binary_form.Comma
binary_form_of sign.And = binary_form.Logical logical_operator.And
binary_form_of sign.Or = binary_form.Logical logical_operator.Or
binary_form_of sign.Star = binary_form.Value binary_operator.Multiply
binary_form_of sign.Slash = binary_form.Value binary_operator.Divide
binary_form_of sign.Percent = binary_form.Value binary_operator.Remainder
binary_form_of sign.Plus = binary_form.Value binary_operator.Add
binary_form_of sign.Minus = binary_form.Value binary_operator.Subtract
binary_form_of sign.ShiftLeft = binary_form.Value binary_operator.ShiftLeft
binary_form_of sign.ShiftRight = binary_form.Value binary_operator.ShiftRight
binary_form_of sign.Less = binary_form.Value binary_operator.Less
binary_form_of sign.Greater = binary_form.Value binary_operator.Greater
binary_form_of sign.LessOrEqual = binary_form.Value binary_operator.LessOrEqual
binary_form_of sign.GreaterOrEqual = binary_form.Value binary_operator.GreaterOrEqual
binary_form_of sign.Equal = binary_form.Value binary_operator.Equal
binary_form_of sign.NotEqual = binary_form.Value binary_operator.NotEqual
binary_form_of sign.Ampersand = binary_form.Value binary_operator.BitAnd
binary_form_of sign.Caret = binary_form.Value binary_operator.BitXor
binary_form_of sign.Bar = binary_form.Value binary_operator.BitOr
binary_form_of _ = binary_form.Nothing

abbrev pub assignment_form_of : Punctuator → AssignmentForm
assignment_form_of sign.Assign = assignment_form.Simple
assignment_form_of sign.MultiplyAssign = assignment_form.Compound binary_operator.Multiply
assignment_form_of sign.DivideAssign = assignment_form.Compound binary_operator.Divide
assignment_form_of sign.RemainderAssign = assignment_form.Compound binary_operator.Remainder
assignment_form_of sign.AddAssign = assignment_form.Compound binary_operator.Add
assignment_form_of sign.SubtractAssign = assignment_form.Compound binary_operator.Subtract
assignment_form_of sign.ShiftLeftAssign = assignment_form.Compound binary_operator.ShiftLeft
assignment_form_of sign.ShiftRightAssign = assignment_form.Compound binary_operator.ShiftRight
assignment_form_of sign.AndAssign = assignment_form.Compound binary_operator.BitAnd
assignment_form_of sign.XorAssign = assignment_form.Compound binary_operator.BitXor
assignment_form_of sign.OrAssign = assignment_form.Compound binary_operator.BitOr
assignment_form_of _ = assignment_form.Nothing

-- The value of an operand (6.3.2.1). What an lvalue holds is read where its type is complete (paragraph 2); an array is
-- not read.

abbrev pub is_array_type : List TypeWord → Bool
is_array_type (word.Array count bytes ∷ element) = true
is_array_type (word.OpenArray ∷ element) = true
is_array_type type = false

abbrev pub is_readable : List (Option TypeExtent) → (type : List TypeWord) → Bool
is_readable es type = is_array_type (unqualified type) || is_some (extent_of es type)

-- the line of an lvalue that is not read, since its type is incomplete
abbrev pub unreadable : List (Option TypeExtent) → Operand → Option ℕ
unreadable es (a_place p) = if is_readable es p.type then None else Some (lvalue_line p.tree)
unreadable es o = None

abbrev pub read_unless : (unreadable_line : Option ℕ) → Operand → Answer Value
read_unless None o = value_in o
read_unless (Some line) o = violates Incomplete line

abbrev pub value_among : List (Option TypeExtent) → Operand → Answer Value
value_among es o = read_unless (unreadable es o) o

abbrev pub as_value : Operand → Typing Value
as_value o = judged (λ s. value_among (extents s) o)

-- `&` takes the address of the variable that its operand names, parentheses aside

abbrev mutual
  pub variable_named : Lvalue → Option ℕ
  variable_named (lvalue kind line node) = variable_in node

  pub variable_in : LvalueNode → Option ℕ
  variable_in (automatic n) = Some n
  variable_in (parenthesized_lvalue p) = variable_named p
  variable_in _ = None

abbrev pub unmarked : (count : ℕ) → List Bool
unmarked zero = []
unmarked (suc n) = false ∷ unmarked n

-- marks of at least so many
abbrev pub lengthened : (count : ℕ) → List Bool → List Bool
lengthened n marks = marks ++ unmarked (n - length marks)

abbrev pub marked : (number : ℕ) → List Bool → List Bool
marked n marks = slice_set (lengthened (n + 1) marks) n true

abbrev pub with_taken : Option ℕ → State → State
with_taken None s = s
with_taken (Some n) s = record s { taken = marked n s.taken }

abbrev pub object_taken : Operand → State → State
object_taken (a_place p) s = with_taken (variable_named p.tree) s
object_taken o s = s

abbrev pub addressed : (is_evaluated : Bool) → (line : ℕ) → Operand → Typing Value
addressed is_evaluated line o s =
    address line o >>= λ v. Ok (if is_evaluated then object_taken o s else s, v)

-- `*`
abbrev pub pointed : (line : ℕ) → Value → Typing Operand
pointed line v = judged (λ s. dereferenced (extents s) line v)

abbrev pub as_operand : Answer Value → Answer Operand
as_operand answer = answer >>= λ v. Ok (a_value v)

abbrev pub as_place : Answer Place → Answer Operand
as_place answer = answer >>= λ p. Ok (a_place p)

-- a unary operator on a value
abbrev pub unary_value : PrefixForm → (line : ℕ) → Value → State → Answer Operand
unary_value (prefix_form.Value op) line v s = as_operand (unary_rules.unary (extents s) op line v)
unary_value prefix_form.Dereference line v s = dereferenced (extents s) line v
unary_value _ line v s = violates Operands line

-- `++` and `--`
abbrev pub step_form : Punctuator → PrefixForm
step_form sign.Increment = prefix_form.Step step_operator.Increment
step_form sign.Decrement = prefix_form.Step step_operator.Decrement
step_form _ = prefix_form.Nothing

abbrev pub stepped_by : PrefixForm → Fixity → (line : ℕ) → Operand → State → Answer Operand
stepped_by (prefix_form.Step op) fix line o s = as_operand (stepped (extents s) (with_const s) op fix line o)
stepped_by _ fix line o s = violates Operands line

-- `[]`
abbrev pub indexed : (line : ℕ) → Value → Value → State → Answer Operand
indexed line left right s = as_place (places.indexed (extents s) line left right)

-- `.` and `->`

abbrev pub member_in : Option ℕ → Name → State → Option places.Member
member_in None name s = None
member_in (Some n) name s = option_map places.member_view (member_of n name s.environment.structures.bodies)

abbrev pub dotted : (line : ℕ) → Name → Operand → State → Answer Operand
dotted line name o s = as_place (selected line (member_in (structure_of (places.type_in o)) name s) o)

-- the structure that a pointer points to
abbrev pub structure_behind : (type : List TypeWord) → Option ℕ
structure_behind (word.Pointer ∷ target) = structure_of target
structure_behind type = None

abbrev pub arrowed : (line : ℕ) → Name → Value → State → Answer Operand
arrowed line name v s = as_place (arrow line (member_in (structure_behind (unqualified v.type)) name s) v)

-- two operands
abbrev pub combined : BinaryForm → (line : ℕ) → Value → Value → State → Answer Operand
combined binary_form.Comma line a b s = as_operand (unary_rules.comma line a b)
combined (binary_form.Logical op) line a b s = as_operand (unary_rules.combined (extents s) op line a b)
combined (binary_form.Value op) line a b s = as_operand (binary (extents s) op line a b)
combined binary_form.Nothing line a b s = violates Operands line

abbrev pub assigned_by : AssignmentForm → (line : ℕ) → Operand → Value → State → Answer Operand
assigned_by assignment_form.Simple line o v s = as_operand (assignment (extents s) (with_const s) line o v)
assigned_by (assignment_form.Compound op) line o v s =
    as_operand (compound (extents s) (with_const s) op line o v)
assigned_by assignment_form.Nothing line o v s = violates Operands line
