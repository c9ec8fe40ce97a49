use Rattle.std.proofs.Common.{◌+◌, ◌*◌, map, drop}
use Rattle.c_tree.specs.Tree.{expressions_in}
use Rattle.c_tree.specs.View.{expression_of, lvalue_of}
use Rattle.program_lowering.specs.ExpressionCode.Emitted.{ArgumentsCode}
use Rattle.program_lowering.specs.ExpressionCode.Sizes.{nodes, lvalue_nodes, arguments_nodes}
use Rattle.program_lowering.specs.ExpressionCode.Nodes.{node_of, lvalue_node_of}
use Rattle.program_lowering.specs.ExpressionCode.Shapes.{operands_in, operands_at, operands_nodes}
use Rattle.program_lowering.proofs.expressions.emitter.Emitter.+lowering.Given as goal

abbrev pub invariant-arguments-loop-i : goal.invariant-arguments-loop-i
invariant-arguments-loop-i l =
    ArgumentsCode l.fn.self l.self (expressions_in (map expression_of (drop l.i l.args))) (l.d + l.i) l.node l.next

-- what is lowered has ever fewer nodes

abbrev pub decreases-expression : goal.decreases-expression
decreases-expression l = 3 * nodes (expression_of l.e.now)

abbrev pub decreases-operands : goal.decreases-operands
decreases-operands l = 3 * operands_nodes (operands_in (node_of l.node.now)) + 2

abbrev pub decreases-lvalue : goal.decreases-lvalue
decreases-lvalue l = 3 * lvalue_nodes (lvalue_of l.p.now)

abbrev pub decreases-lvalue_operands : goal.decreases-lvalue_operands
decreases-lvalue_operands l = 3 * operands_nodes (operands_at (lvalue_node_of l.node.now)) + 2

abbrev pub decreases-arguments : goal.decreases-arguments
decreases-arguments l = 3 * arguments_nodes (expressions_in (map expression_of l.args.now)) + 1
