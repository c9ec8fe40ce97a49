-- What the unary operators, `&&`, `||` and `,` make of their operands (C99 6.5.3.3, 6.5.13, 6.5.14, 6.5.17).
use Rattle.std.specs.Prelude.{ℕ, Bool, true, false, ◌&&◌, List, Option, Ok}
use Rattle.obj_memory.specs.declared.int_type.IntType.TheVariants.{Int}
use Rattle.obj_memory.specs.declared.operator.UnaryOperator.{UnaryOperator}
use Rattle.obj_memory.specs.declared.operator.UnaryOperator.TheVariants.{Plus, Negate, Complement, Not}
use Rattle.obj_memory.specs.Integers.{promoted}
use Rattle.c_tree.specs.Extents.{TypeExtent}
use Rattle.c_tree.specs.Kinds.{integer}
use Rattle.c_tree.specs.Tree.{Node, expression, unary as unary_node, logical_and, logical_or, comma as comma_node}
use Rattle.c_tree.specs.Tree.{kind_of}
use Rattle.c_rules.specs.declared.class.Class.{Class}
use Rattle.c_rules.specs.declared.class.Class.TheVariants as class
use Rattle.c_faults.specs.declared.fault.Rule.TheVariants.{Operands}
use Rattle.c_rules.specs.declared.unary.LogicalOperator.{LogicalOperator}
use Rattle.c_rules.specs.declared.unary.LogicalOperator.TheVariants as logical
use Rattle.c_faults.specs.Answer.{Answer, violates}
use Rattle.c_rules.specs.Types.{class_of}
use Rattle.c_rules.specs.Values.{Value, integer_words, converted}

abbrev pub is_scalar : Class → Bool
is_scalar (class.Integer t) = true
is_scalar (class.Pointer target) = true
is_scalar class.Other = false

-- `+`, `-`, `~` of an integer, which is promoted
abbrev pub promoting : UnaryOperator → (line : ℕ) → Class → Value → Answer Value
promoting op line (class.Integer t) a = Ok (record {
  type = integer_words (promoted t);
  tree = expression (integer (promoted t)) line (unary_node op (converted (integer (promoted t)) a.tree));
})
promoting op line _ a = violates Operands line

-- `!` of a scalar
abbrev pub negating : (line : ℕ) → (is_scalar : Bool) → Value → Answer Value
negating line true a = Ok
    (record { type = integer_words Int; tree = expression (integer Int) line (unary_node Not a.tree) })
negating line false a = violates Operands line

abbrev pub unary_of : UnaryOperator → (line : ℕ) → Class → Value → Answer Value
unary_of Plus line c a = promoting Plus line c a
unary_of Negate line c a = promoting Negate line c a
unary_of Complement line c a = promoting Complement line c a
unary_of Not line c a = negating line (is_scalar c) a

unfoldable pub unary : List (Option TypeExtent) → UnaryOperator → (line : ℕ) → Value → Answer Value
unary structures op line a = unary_of op line (class_of structures a.type) a

-- `&&`, `||` of two scalars
abbrev pub logical_node : LogicalOperator → Value → Value → Node
logical_node logical.And a b = logical_and a.tree b.tree
logical_node logical.Or a b = logical_or a.tree b.tree

abbrev pub logical_of : LogicalOperator → (line : ℕ) → (are_scalars : Bool) → Value → Value → Answer Value
logical_of op line true a b = Ok
    (record { type = integer_words Int; tree = expression (integer Int) line (logical_node op a b) })
logical_of op line false a b = violates Operands line

unfoldable pub combined : List (Option TypeExtent) → LogicalOperator → (line : ℕ) → Value → Value → Answer Value
combined structures op line a b = logical_of op line
    (is_scalar (class_of structures a.type) && is_scalar (class_of structures b.type)) a b

-- `,` of any two
unfoldable pub comma : (line : ℕ) → Value → Value → Answer Value
comma line a b = Ok (record { type = b.type; tree = expression (kind_of b.tree) line (comma_node a.tree b.tree) })
