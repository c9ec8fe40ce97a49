-- How many nodes operators add to their operands (C99 6.3, 6.5).
use Rattle.std.proofs.Common.{ℕ, ◌+◌, ◌≤◌, Bool, true, false, List, ◌∷◌, Option, Some, None, arith, if◌then◌else◌}
use Rattle.std.specs.Prelude.{Ok}
use Rattle.obj_memory.specs.declared.int_type.IntType.TheVariants.{Int}
use Rattle.obj_memory.specs.declared.operator.BinaryOperator.{BinaryOperator}
use Rattle.obj_memory.specs.declared.operator.UnaryOperator.{UnaryOperator}
use Rattle.obj_memory.specs.declared.operator.UnaryOperator.TheVariants.{Plus, Negate, Complement, Not}
use Rattle.c_tree.specs.declared.c_type.TypeWord.{TypeWord}
use Rattle.c_tree.specs.declared.c_type.TypeWord.TheVariants as word
use Rattle.c_tree.specs.declared.expression.Fixity.{Fixity}
use Rattle.c_tree.specs.declared.expression.Kind.{Kind}
use Rattle.c_tree.specs.Extents.{TypeExtent}
use Rattle.c_tree.specs.Kinds.{is_kind}
use Rattle.c_tree.specs.Tree.{Expression, expression, convert, kind_of, line_of}
use Rattle.c_rules.specs.declared.class.Class.{Class}
use Rattle.c_rules.specs.declared.class.Class.TheVariants as class
use Rattle.c_rules.specs.declared.class.Target.{Target}
use Rattle.c_rules.specs.declared.class.Target.TheVariants as target
use Rattle.c_rules.specs.declared.conversion.Passing.{Passing}
use Rattle.c_rules.specs.declared.conversion.Passing.TheVariants as passing
use Rattle.c_faults.specs.declared.fault.Rule.{Rule}
use Rattle.c_faults.specs.declared.fault.Rule.TheVariants.{NoCondition}
use Rattle.c_rules.specs.declared.row.Row.{Row}
use Rattle.c_rules.specs.declared.row.Row.TheVariants as row
use Rattle.c_rules.specs.declared.unary.LogicalOperator.{LogicalOperator}
use Rattle.c_rules.specs.declared.unary.LogicalOperator.TheVariants as logical
use Rattle.c_faults.specs.Answer.{violates}
use Rattle.c_rules.specs.Binary.{binary, built}
use Rattle.c_rules.specs.Conversions.{assigned, cast, cast_to, passed}
use Rattle.c_rules.specs.Types.{class_of}
use Rattle.c_rules.specs.Unary.{combined, comma, logical_of, negating, promoting, unary, unary_of}
use Rattle.c_rules.specs.Values.{Value, converted}
use Rattle.c_place_rules.specs.Operands.{Operand, Place, a_function, a_place, a_value, a_variable, decayed}
use Rattle.c_place_rules.specs.Operands.{element_pointer, enclosed, loaded_as, value_in}
use Rattle.c_place_rules.specs.Places.{Member, address, arrow, dereferenced, dereferenced_as, designated, indexed}
use Rattle.c_place_rules.specs.Places.{place_pointer, selected, selected_in, size_in, size_of, type_in}
use Rattle.c_assignment_rules.specs.declared.operators.Change.{Change}
use Rattle.c_assignment_rules.specs.declared.operators.StepOperator.{StepOperator}
use Rattle.c_assignment_rules.specs.Assignable.{where_none, write_rule}
use Rattle.c_assignment_rules.specs.Assignments.{assignment, change_between, change_to, compound, converted_if}
use Rattle.c_assignment_rules.specs.Assignments.{operator_of, step_to, stepped}
use Rattle.c_assignment_rules.specs.Writing.{Writing, change, set, step_by, written}
use Rattle.c_condition_rules.specs.Conditions.{condition, conditional, shape_in, switch_value, switched}
use Rattle.program_laws.specs.TreeSizes.AtMost.{AtMost, operand_size, value_size}
use Rattle.program_laws.specs.TreeSizes.Nodes.{nodes}
use Rattle.program_laws.proofs.TreeSizes.Bounded.{anything, gives, more, refuses, then_gives}

-- conversions

converted_by : (b : Bool) (k : Kind) (e : Expression)
    → nodes (if b then e else expression k (line_of e) (convert e)) ≤ 1 + nodes e
converted_by true k e = omega arith
converted_by false k e = omega arith

pub converted_nodes : (k : Kind) (e : Expression) → nodes (converted k e) ≤ 1 + nodes e
converted_nodes k e = converted_by (is_kind k (kind_of e)) k e

passed_nodes : (p : Passing) (line : ℕ) (e : Expression) → AtMost nodes (1 + nodes e) (passed p line e)
passed_nodes (passing.Convert k) line e = gives (converted_nodes k e)
passed_nodes passing.AsItIs line e = gives (omega arith)
passed_nodes passing.NoWay line e = refuses

pub assigned_nodes : (es : List (Option TypeExtent)) (line : ℕ) (to : List TypeWord) (v : Value)
    → AtMost nodes (1 + nodes v.tree) (assigned es line to v)
unfolding assigned
assigned_nodes es line to v = passed_nodes _ line v.tree

cast_by : (to : List TypeWord) (line : ℕ) (k : Option Kind) (v : Value)
    → AtMost value_size (1 + value_size v) (cast_to to line k v)
cast_by to line None v = refuses
cast_by to line (Some k) v = gives (omega arith)

pub cast_nodes : (es : List (Option TypeExtent)) (line : ℕ) (to : List TypeWord) (v : Value)
    → AtMost value_size (1 + value_size v) (cast es line to v)
unfolding cast
cast_nodes es line to v = cast_by to line _ v

-- unary operators, and those between two operands

promoting_nodes : (op : UnaryOperator) (line : ℕ) (c : Class) (v : Value)
    → AtMost value_size (2 + value_size v) (promoting op line c v)
promoting_nodes op line (class.Integer t) v = gives (omega (arith, converted_nodes))
promoting_nodes op line _ v = refuses

negating_nodes : (line : ℕ) (b : Bool) (v : Value) → AtMost value_size (2 + value_size v) (negating line b v)
negating_nodes line true v = gives (omega arith)
negating_nodes line false v = refuses

unary_by : (op : UnaryOperator) (line : ℕ) (c : Class) (v : Value)
    → AtMost value_size (2 + value_size v) (unary_of op line c v)
unary_by Plus line c v = promoting_nodes Plus line c v
unary_by Negate line c v = promoting_nodes Negate line c v
unary_by Complement line c v = promoting_nodes Complement line c v
unary_by Not line c v = negating_nodes line _ v

pub unary_nodes : (es : List (Option TypeExtent)) (op : UnaryOperator) (line : ℕ) (v : Value)
    → AtMost value_size (2 + value_size v) (unary es op line v)
unfolding unary
unary_nodes es op line v = unary_by op line _ v

logical_by : (op : LogicalOperator) (line : ℕ) (b : Bool) (v w : Value)
    → AtMost value_size (1 + value_size v + value_size w) (logical_of op line b v w)
logical_by logical.And line true v w = gives (omega arith)
logical_by logical.Or line true v w = gives (omega arith)
logical_by op line false v w = refuses

pub logical_nodes : (es : List (Option TypeExtent)) (op : LogicalOperator) (line : ℕ) (v w : Value)
    → AtMost value_size (1 + value_size v + value_size w) (combined es op line v w)
unfolding combined
logical_nodes es op line v w = logical_by op line _ v w

pub comma_nodes : (line : ℕ) (v w : Value) → AtMost value_size (1 + value_size v + value_size w) (comma line v w)
unfolding comma
comma_nodes line v w = gives (omega arith)

built_nodes : (r : Row) (op : BinaryOperator) (line : ℕ) (v w : Value)
    → AtMost value_size (3 + value_size v + value_size w) (built r op line v w)
built_nodes (row.Arithmetic t) op line v w = gives (omega (arith, converted_nodes))
built_nodes (row.Shift t u) op line v w = gives (omega (arith, converted_nodes))
built_nodes (row.Comparison t) op line v w = gives (omega (arith, converted_nodes))
built_nodes row.PointerComparison op line v w = gives (omega (arith, converted_nodes))
built_nodes (row.Offset form size) op line v w = gives (omega arith)
built_nodes (row.Difference size) op line v w = gives (omega arith)
built_nodes row.NoRow op line v w = refuses

pub binary_nodes : (es : List (Option TypeExtent)) (op : BinaryOperator) (line : ℕ) (v w : Value)
    → AtMost value_size (3 + value_size v + value_size w) (binary es op line v w)
unfolding binary
binary_nodes es op line v w = built_nodes _ op line v w

-- conditions

pub conditional_nodes : (es : List (Option TypeExtent)) (line : ℕ) (c v w : Value)
    → AtMost value_size (3 + value_size c + value_size v + value_size w) (conditional es line c v w)
unfolding conditional
conditional_nodes es line c v w =
    then_gives (anything (shape_in es line c v w)) (λ s h. gives (omega (arith, converted_nodes)))

condition_by : (b : Bool) (line : ℕ) (v : Value)
    → AtMost nodes (nodes v.tree) (if b then Ok v.tree else violates NoCondition line)
condition_by true line v = gives (omega arith)
condition_by false line v = refuses

pub condition_nodes : (es : List (Option TypeExtent)) (line : ℕ) (v : Value)
    → AtMost nodes (nodes v.tree) (condition es line v)
unfolding condition
condition_nodes es line v = condition_by _ line v

switched_nodes : (c : Class) (line : ℕ) (v : Value) → AtMost value_size (1 + value_size v) (switched c line v)
switched_nodes (class.Integer t) line v = gives (omega (arith, converted_nodes))
switched_nodes _ line v = refuses

pub switch_nodes : (es : List (Option TypeExtent)) (line : ℕ) (v : Value)
    → AtMost value_size (1 + value_size v) (switch_value es line v)
unfolding switch_value
switch_nodes es line v = switched_nodes _ line v

-- operands

decayed_nodes : (p : Place) → AtMost value_size (operand_size (a_place p)) (decayed p)
decayed_nodes p = then_gives (anything (element_pointer p)) (λ type h. gives (omega arith))

loaded_nodes : (type : List TypeWord) (p : Place) → AtMost value_size (operand_size (a_place p)) (loaded_as type p)
loaded_nodes (word.Array count bytes ∷ element) p = decayed_nodes p
loaded_nodes (word.OpenArray ∷ element) p = decayed_nodes p
loaded_nodes type p = gives (omega arith)

pub value_nodes : (o : Operand) → AtMost value_size (operand_size o) (value_in o)
value_nodes (a_value v) = gives (omega arith)
value_nodes (a_place p) = loaded_nodes _ p
value_nodes (a_variable x) = gives (omega arith)
value_nodes (a_function f) = gives (omega arith)

pub enclosed_nodes : (line : ℕ) (o : Operand) → AtMost operand_size (1 + operand_size o) (enclosed line o)
enclosed_nodes line (a_value v) = gives (omega arith)
enclosed_nodes line (a_place p) = gives (omega arith)
enclosed_nodes line (a_variable x) = gives (omega arith)
enclosed_nodes line (a_function f) = gives (omega arith)

dereferenced_by : (line : ℕ) (c : Class) (v : Value)
    → AtMost operand_size (2 + value_size v) (dereferenced_as line c v)
dereferenced_by line (class.Pointer (target.Object size)) v = gives (omega arith)
dereferenced_by line (class.Pointer target.Function) v = gives (omega arith)
dereferenced_by line _ v = refuses

pub dereferenced_nodes : (es : List (Option TypeExtent)) (line : ℕ) (v : Value)
    → AtMost operand_size (2 + value_size v) (dereferenced es line v)
unfolding dereferenced
dereferenced_nodes es line v = dereferenced_by line _ v

pub address_nodes : (line : ℕ) (o : Operand) → AtMost value_size (1 + operand_size o) (address line o)
address_nodes line (a_value v) = refuses
address_nodes line (a_place p) = then_gives (anything (place_pointer line p)) (λ type h. gives (omega arith))
address_nodes line (a_variable x) = refuses
address_nodes line (a_function f) = gives (omega arith)

abbrev pub place_size : Place → ℕ
place_size p = operand_size (a_place p)

pub indexed_nodes : (es : List (Option TypeExtent)) (line : ℕ) (v w : Value)
    → AtMost place_size (2 + value_size v + value_size w) (indexed es line v w)
unfolding indexed
indexed_nodes es line v w = then_gives (anything (designated es line v w)) (λ e h. gives (omega arith))

selected_by : (line : ℕ) (m : Member) (o : Operand) → AtMost place_size (2 + operand_size o) (selected_in line m o)
selected_by line m (a_value v) = gives (omega arith)
selected_by line m (a_place p) = gives (omega arith)
selected_by line m (a_variable x) = refuses
selected_by line m (a_function f) = refuses

pub selected_nodes : (line : ℕ) (m : Option Member) (o : Operand)
    → AtMost place_size (2 + operand_size o) (selected line m o)
selected_nodes line None o = refuses
selected_nodes line (Some m) o = selected_by line m o

pub arrow_nodes : (line : ℕ) (m : Option Member) (v : Value)
    → AtMost place_size (2 + value_size v) (arrow line m v)
arrow_nodes line None v = refuses
arrow_nodes line (Some m) v = gives (omega arith)

size_by : (line : ℕ) (t : Target) → AtMost value_size 1 (size_in line t)
size_by line (target.Object size) = gives (omega arith)
size_by line target.Function = refuses
size_by line _ = refuses

pub size_nodes : (es : List (Option TypeExtent)) (line : ℕ) (type : List TypeWord)
    → AtMost value_size 1 (size_of es line type)
unfolding size_of
size_nodes es line type = size_by line _

-- assignments

abbrev writing_nodes : Writing → ℕ
writing_nodes (set e) = nodes e
writing_nodes (change u e) = nodes e
writing_nodes (step_by u fixity) = 0

written_nodes : (line : ℕ) (o : Operand) (w : Writing)
    → AtMost value_size (1 + operand_size o + writing_nodes w) (written line o w)
written_nodes line (a_value v) w = refuses
written_nodes line (a_place p) (set e) = gives (omega arith)
written_nodes line (a_place p) (change u e) = gives (omega arith)
written_nodes line (a_place p) (step_by u fixity) = gives (omega arith)
written_nodes line (a_variable x) (set e) = gives (omega arith)
written_nodes line (a_variable x) (change u e) = gives (omega arith)
written_nodes line (a_variable x) (step_by u fixity) = gives (omega arith)
written_nodes line (a_function f) w = refuses

none_nodes : (r : Option Rule) (line : ℕ) (o : Operand) → AtMost operand_size (operand_size o) (where_none r line o)
none_nodes None line o = gives (omega arith)
none_nodes (Some r) line o = refuses

pub assignment_nodes : (es : List (Option TypeExtent)) (cs : List Bool) (line : ℕ) (o : Operand) (v : Value)
    → AtMost value_size (2 + operand_size o + value_size v) (assignment es cs line o v)
unfolding assignment
assignment_nodes es cs line o v =
    then_gives (none_nodes (write_rule cs o) line o) (λ p h. then_gives (assigned_nodes es line (type_in p) v)
    (λ e g. more (omega arith) (written_nodes line p (set e))))

converted_if_nodes : (k : Option Kind) (e : Expression) → nodes (converted_if k e) ≤ 1 + nodes e
converted_if_nodes None e = omega arith
converted_if_nodes (Some k) e = converted_nodes k e

change_nodes : (line : ℕ) (c : Option Change) (v : Value)
    → AtMost writing_nodes (1 + nodes v.tree) (change_to line c v)
change_nodes line None v = refuses
change_nodes line (Some c) v = gives (converted_if_nodes c.operand v.tree)

pub compound_nodes : (es : List (Option TypeExtent)) (cs : List Bool) (op : BinaryOperator) (line : ℕ) (o : Operand)
    (v : Value) → AtMost value_size (2 + operand_size o + value_size v) (compound es cs op line o v)
unfolding compound
compound_nodes es cs op line o v =
    then_gives (none_nodes (write_rule cs o) line o)
    (λ p h. then_gives (change_nodes line (change_between op (class_of es (type_in p)) (class_of es v.type)) v)
    (λ w g. more (omega arith) (written_nodes line p w)))

step_nodes : (line : ℕ) (fixity : Fixity) (c : Option Change) → AtMost writing_nodes 0 (step_to line fixity c)
step_nodes line fixity None = refuses
step_nodes line fixity (Some c) = gives (omega arith)

pub stepped_nodes : (es : List (Option TypeExtent)) (cs : List Bool) (op : StepOperator) (fixity : Fixity) (line : ℕ)
    (o : Operand) → AtMost value_size (1 + operand_size o) (stepped es cs op fixity line o)
unfolding stepped
stepped_nodes es cs op fixity line o =
    then_gives (none_nodes (write_rule cs o) line o)
    (λ p h. then_gives
    (step_nodes line fixity (change_between (operator_of op) (class_of es (type_in p)) (class.Integer Int)))
    (λ w g. more (omega arith) (written_nodes line p w)))
