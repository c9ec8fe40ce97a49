-- What an operator between two operands makes of them (C99 6.5.5 to 6.5.12).
use Rattle.std.specs.Prelude.{ℕ, List, Option, Ok}
use Rattle.obj_memory.specs.declared.int_type.IntType.{IntType}
use Rattle.obj_memory.specs.declared.int_type.IntType.TheVariants.{Int, Long}
use Rattle.obj_memory.specs.declared.operator.BinaryOperator.{BinaryOperator}
use Rattle.c_tree.specs.declared.c_type.TypeWord.{TypeWord}
use Rattle.c_tree.specs.declared.expression.Kind.{Kind}
use Rattle.c_tree.specs.declared.expression.OffsetForm.{OffsetForm}
use Rattle.c_tree.specs.declared.expression.OffsetForm.TheVariants.{PointerPlusIndex, IndexPlusPointer}
use Rattle.c_tree.specs.declared.expression.OffsetForm.TheVariants.{PointerMinusIndex}
use Rattle.c_tree.specs.Extents.{TypeExtent}
use Rattle.c_tree.specs.Kinds.{integer, pointer}
use Rattle.c_tree.specs.Tree.{expression, binary as binary_node, offset_by, difference}
use Rattle.c_faults.specs.declared.fault.Rule.TheVariants.{Operands}
use Rattle.c_rules.specs.declared.row.Row.{Row}
use Rattle.c_rules.specs.declared.row.Row.TheVariants as row
use Rattle.c_rules.specs.declared.row.Pair.{Pair}
use Rattle.c_faults.specs.Answer.{Answer, violates}
use Rattle.c_rules.specs.Types.{class_of, same_pointee}
use Rattle.c_rules.specs.Values.{Value, integer_words, converted, is_null}
use Rattle.c_rules.specs.Rows.{row_of}

abbrev pub pair_of : Value → Value → Pair
pair_of a b = record { same_pointee = same_pointee a.type b.type; left_is_null = is_null a; right_is_null = is_null b }

-- which operand is the pointer
abbrev pub offset_type : OffsetForm → Value → Value → List TypeWord
offset_type PointerPlusIndex a b = a.type
offset_type IndexPlusPointer a b = b.type
offset_type PointerMinusIndex a b = a.type

-- an operator on operands that are converted to two kinds, with a result of an integer type
abbrev pub operated : BinaryOperator → (line : ℕ) → IntType → (left right : Kind) → Value → Value → Answer Value
operated op line t k l a b = Ok (record {
  type = integer_words t;
  tree = expression (integer t) line (binary_node op (converted k a.tree) (converted l b.tree));
})

-- a pointer moved by an index, which counts as it stands
abbrev pub moved : OffsetForm → (size line : ℕ) → Value → Value → Answer Value
moved form size line a b = Ok (record {
  type = offset_type form a b;
  tree = expression pointer line (offset_by form size a.tree b.tree);
})

-- the elements between two pointers
abbrev pub counted : (size line : ℕ) → Value → Value → Answer Value
counted size line a b = Ok (record {
  type = integer_words Long;
  tree = expression (integer Long) line (difference size a.tree b.tree);
})

-- the node of a row, with the conversions of its operands
abbrev pub built : Row → BinaryOperator → (line : ℕ) → Value → Value → Answer Value
built (row.Arithmetic t) op line a b = operated op line t (integer t) (integer t) a b
built (row.Shift t u) op line a b = operated op line t (integer t) (integer u) a b
built (row.Comparison t) op line a b = operated op line Int (integer t) (integer t) a b
built row.PointerComparison op line a b = operated op line Int pointer pointer a b
built (row.Offset form size) op line a b = moved form size line a b
built (row.Difference size) op line a b = counted size line a b
built row.NoRow op line a b = violates Operands line

unfoldable pub binary : List (Option TypeExtent) → BinaryOperator → (line : ℕ) → Value → Value → Answer Value
binary structures op line a b =
    built (row_of op (pair_of a b) (class_of structures a.type) (class_of structures b.type)) op line a b
