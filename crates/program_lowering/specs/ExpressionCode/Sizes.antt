-- How many expressions and lvalues a tree has: recursion over it goes by this.
use Rattle.std.specs.Prelude.{ℕ, ◌+◌, List}
use Rattle.c_tree.specs.Tree.{Expression, Expressions, no_expressions, expressions, Lvalue}
use Rattle.c_tree.specs.Walk.{Visited, walk, walk_lvalue, sum_of}

abbrev pub nodes_made : Visited → List ℕ → ℕ
nodes_made v ns = 1 + sum_of ns

abbrev pub nodes : Expression → ℕ
nodes = walk nodes_made

abbrev pub lvalue_nodes : Lvalue → ℕ
lvalue_nodes = walk_lvalue nodes_made

abbrev pub arguments_nodes : Expressions → ℕ
arguments_nodes no_expressions = 0
arguments_nodes (expressions e es) = nodes e + arguments_nodes es
