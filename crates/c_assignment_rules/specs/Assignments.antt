-- `=`, the compound assignments, `++` and `--` (C99 6.5.2.4, 6.5.3.1, 6.5.16).
use Rattle.std.specs.Prelude.{ℕ, Bool, false, List, Option, Some, None, Ok}
use Rattle.obj_memory.specs.declared.int_type.IntType.TheVariants.{Int}
use Rattle.obj_memory.specs.declared.operator.BinaryOperator.{BinaryOperator}
use Rattle.obj_memory.specs.declared.operator.BinaryOperator.TheVariants.{Add, Subtract}
use Rattle.c_tree.specs.declared.expression.Kind.{Kind}
use Rattle.c_tree.specs.declared.expression.Fixity.{Fixity}
use Rattle.c_tree.specs.declared.expression.OffsetForm.TheVariants.{PointerPlusIndex, PointerMinusIndex}
use Rattle.c_tree.specs.declared.expression.Update.TheVariants as update
use Rattle.c_tree.specs.Extents.{TypeExtent}
use Rattle.c_tree.specs.Kinds.{integer}
use Rattle.c_tree.specs.Tree.{Expression}
use Rattle.c_rules.specs.declared.class.Class.{Class}
use Rattle.c_rules.specs.declared.class.Class.TheVariants as class
use Rattle.c_faults.specs.declared.fault.Rule.TheVariants.{Operands}
use Rattle.c_rules.specs.declared.row.Row.{Row}
use Rattle.c_rules.specs.declared.row.Row.TheVariants as row
use Rattle.c_rules.specs.declared.row.Pair.{Pair}
use Rattle.c_faults.specs.Answer.{Answer, violates, ◌>>=◌}
use Rattle.c_rules.specs.Types.{class_of}
use Rattle.c_rules.specs.Values.{Value, converted}
use Rattle.c_rules.specs.Rows.{row_of}
use Rattle.c_rules.specs.Conversions.{assigned}
use Rattle.c_place_rules.specs.Operands.{Operand}
use Rattle.c_place_rules.specs.Places.{type_in}
use Rattle.c_assignment_rules.specs.declared.operators.Change.{Change}
use Rattle.c_assignment_rules.specs.declared.operators.StepOperator.{StepOperator}
use Rattle.c_assignment_rules.specs.declared.operators.StepOperator.TheVariants.{Increment, Decrement}
use Rattle.c_assignment_rules.specs.Assignable.{assignable}
use Rattle.c_assignment_rules.specs.Writing.{Writing, set, change, step_by, written}

-- `=`: the right operand as one of the type of the left one
unfoldable pub assignment : List (Option TypeExtent) → (with_const : List Bool) → (line : ℕ) → Operand → Value
    → Answer Value
assignment structures with_const line o a =
    assignable with_const line o >>= λ p. assigned structures line (type_in p) a >>= λ e.
    written line p (set e)

-- no two pointers are operands of a compound assignment
abbrev pub no_pair : Pair
no_pair = record { same_pointee = false; left_is_null = false; right_is_null = false }

-- what an operator does to its left operand, and the kind to which the right one is converted; a pointer is moved by an
-- index, which counts as it stands
abbrev pub change_of : BinaryOperator → Row → Option Change
change_of op (row.Arithmetic t) = Some (record { update = update.Arithmetic op t; operand = Some (integer t) })
change_of op (row.Shift t u) = Some (record { update = update.Arithmetic op t; operand = Some (integer u) })
change_of op (row.Offset PointerPlusIndex size) = Some (record { update = update.Forward size; operand = None })
change_of op (row.Offset PointerMinusIndex size) = Some (record { update = update.Back size; operand = None })
change_of op r = None

-- the row of the operator between operands of two classes (6.5.16.2 paragraphs 1 and 2)
abbrev pub change_between : BinaryOperator → Class → Class → Option Change
change_between op c d = change_of op (row_of op no_pair c d)

abbrev pub converted_if : Option Kind → Expression → Expression
converted_if None e = e
converted_if (Some k) e = converted k e

abbrev pub change_to : (line : ℕ) → Option Change → Value → Answer Writing
change_to line None a = violates Operands line
change_to line (Some c) a = Ok (change c.update (converted_if c.operand a.tree))

unfoldable pub compound : List (Option TypeExtent) → (with_const : List Bool) → BinaryOperator → (line : ℕ) → Operand
    → Value → Answer Value
compound structures with_const op line o a =
    assignable with_const line o >>= λ p.
    change_to line (change_between op (class_of structures (type_in p)) (class_of structures a.type)) a >>= λ w.
    written line p w

-- `++` adds the int 1, `--` subtracts it (6.5.2.4 paragraph 2, 6.5.3.1 paragraph 2)
abbrev pub operator_of : StepOperator → BinaryOperator
operator_of Increment = Add
operator_of Decrement = Subtract

abbrev pub step_to : (line : ℕ) → Fixity → Option Change → Answer Writing
step_to line fixity None = violates Operands line
step_to line fixity (Some c) = Ok (step_by c.update fixity)

unfoldable pub stepped : List (Option TypeExtent) → (with_const : List Bool) → StepOperator → Fixity → (line : ℕ)
    → Operand → Answer Value
stepped structures with_const op fixity line o =
    assignable with_const line o >>= λ p.
    step_to line fixity (change_between (operator_of op) (class_of structures (type_in p)) (class.Integer Int)) >>= λ w.
    written line p w
