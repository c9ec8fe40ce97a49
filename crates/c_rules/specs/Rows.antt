-- The tables of the operators between two operands (C99 6.5.5 to 6.5.12): for the classes of the operands, what the
-- operator does. A pair of classes without a row violates the rule on operands.
use Rattle.std.specs.Prelude.{Bool, true, false, ◌||◌, ◌&&◌, if◌then◌else◌}
use Rattle.obj_memory.specs.Integers.{common_type, promoted}
use Rattle.obj_memory.specs.declared.operator.BinaryOperator.{BinaryOperator}
use Rattle.obj_memory.specs.declared.operator.BinaryOperator.TheVariants.{Add, Subtract, Multiply, Divide, Remainder}
use Rattle.obj_memory.specs.declared.operator.BinaryOperator.TheVariants.{ShiftLeft, ShiftRight, BitAnd, BitXor, BitOr}
use Rattle.obj_memory.specs.declared.operator.BinaryOperator.TheVariants.{Less, Greater, LessOrEqual, GreaterOrEqual}
use Rattle.obj_memory.specs.declared.operator.BinaryOperator.TheVariants.{Equal, NotEqual}
use Rattle.c_tree.specs.declared.expression.OffsetForm.TheVariants.{PointerPlusIndex, IndexPlusPointer}
use Rattle.c_tree.specs.declared.expression.OffsetForm.TheVariants.{PointerMinusIndex}
use Rattle.c_rules.specs.declared.class.Class.{Class}
use Rattle.c_rules.specs.declared.class.Class.TheVariants.{Integer, Pointer}
use Rattle.c_rules.specs.declared.class.Target.{Target}
use Rattle.c_rules.specs.declared.class.Target.TheVariants.{Object, Void, Function}
use Rattle.c_rules.specs.declared.row.Row.{Row}
use Rattle.c_rules.specs.declared.row.Row.TheVariants as row
use Rattle.c_rules.specs.declared.row.Pair.{Pair}

-- `*`, `/`, `%`, `&`, `^`, `|`: two integers (6.5.5, 6.5.10 to 6.5.12)
abbrev pub integer_row : Class → Class → Row
integer_row (Integer j) (Integer k) = row.Arithmetic (common_type j k)
integer_row _ _ = row.NoRow

-- `<<`, `>>`: each operand is promoted, and the type is that of the left one (6.5.7)
abbrev pub shift_row : Class → Class → Row
shift_row (Integer j) (Integer k) = row.Shift (promoted j) (promoted k)
shift_row _ _ = row.NoRow

-- `+`: two integers, or an integer and a pointer to an object of a complete type (6.5.6 paragraph 2)
abbrev pub sum_row : Class → Class → Row
sum_row (Integer j) (Integer k) = row.Arithmetic (common_type j k)
sum_row (Pointer (Object size)) (Integer k) = row.Offset PointerPlusIndex size
sum_row (Integer j) (Pointer (Object size)) = row.Offset IndexPlusPointer size
sum_row _ _ = row.NoRow

-- `-`: two integers, such a pointer and an integer, or two such pointers to one type (6.5.6 paragraph 3)
abbrev pub difference_row : (same_pointee : Bool) → Class → Class → Row
difference_row same (Integer j) (Integer k) = row.Arithmetic (common_type j k)
difference_row same (Pointer (Object size)) (Integer k) = row.Offset PointerMinusIndex size
difference_row true (Pointer (Object size)) (Pointer target) = row.Difference size
difference_row _ _ _ = row.NoRow

-- a pointer to an object, or to void (6.3.2.3 paragraph 1)
abbrev pub is_object : Target → Bool
is_object Function = false
is_object target = true

abbrev pub is_void : Target → Bool
is_void Void = true
is_void target = false

-- two pointers that may meet: to one type, or one of them to void and the other to an object (6.5.8, 6.5.9, 6.5.16.1)
abbrev pub may_meet : (same_pointee : Bool) → Target → Target → Bool
may_meet same s t = same || (is_void s && is_object t || is_object s && is_void t)

-- the comparisons: two integers, two pointers that may meet, or a pointer and a null pointer constant (6.5.8, 6.5.9)
abbrev pub comparison_row : Pair → Class → Class → Row
comparison_row p (Integer j) (Integer k) = row.Comparison (common_type j k)
comparison_row p (Pointer s) (Pointer t) =
    if may_meet p.same_pointee s t || (p.left_is_null || p.right_is_null) then row.PointerComparison else row.NoRow
comparison_row p (Pointer s) (Integer k) = if p.right_is_null then row.PointerComparison else row.NoRow
comparison_row p (Integer j) (Pointer t) = if p.left_is_null then row.PointerComparison else row.NoRow
comparison_row p _ _ = row.NoRow

unfoldable pub row_of : BinaryOperator → Pair → Class → Class → Row
row_of Add p c d = sum_row c d
row_of Subtract p c d = difference_row p.same_pointee c d
row_of Multiply p c d = integer_row c d
row_of Divide p c d = integer_row c d
row_of Remainder p c d = integer_row c d
row_of ShiftLeft p c d = shift_row c d
row_of ShiftRight p c d = shift_row c d
row_of BitAnd p c d = integer_row c d
row_of BitXor p c d = integer_row c d
row_of BitOr p c d = integer_row c d
row_of Less p c d = comparison_row p c d
row_of Greater p c d = comparison_row p c d
row_of LessOrEqual p c d = comparison_row p c d
row_of GreaterOrEqual p c d = comparison_row p c d
row_of Equal p c d = comparison_row p c d
row_of NotEqual p c d = comparison_row p c d
