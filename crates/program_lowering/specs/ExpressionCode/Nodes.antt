-- What an expression or an lvalue is, as plain data.
use Rattle.c_tree.specs.declared.expression.Node as rn
use Rattle.c_tree.specs.declared.expression.LvalueNode as rp
use Rattle.c_tree.specs.Tree.{Expression, Node, Lvalue, LvalueNode}
use Rattle.c_tree.specs.View.{lvalue_node_step, node_step, expression_step, lvalue_step}

abbrev pub node_of : rn.Node → Node
node_of = rn.fold-Node LvalueNode Node Expression Lvalue lvalue_node_step node_step expression_step lvalue_step

abbrev pub lvalue_node_of : rp.LvalueNode → LvalueNode
lvalue_node_of = rp.fold-LvalueNode LvalueNode Node Expression Lvalue lvalue_node_step node_step expression_step
    lvalue_step
