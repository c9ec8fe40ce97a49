use Rattle.std.proofs.Common.{◌≡◌, map, drop}
use Rattle.c_tree.specs.Tree.{expressions_in}
use Rattle.c_tree.specs.View.{expression_of}
use Rattle.compiled_programs.specs.Programs.{are_integer_expressions}
use Rattle.compiled_programs.proofs.expression.+expression.Given as goal

abbrev pub invariant-are_integer_expressions-loop-first : goal.invariant-are_integer_expressions-loop-first
invariant-are_integer_expressions-loop-first l =
    are_integer_expressions (expressions_in (map expression_of (drop l.first-index l.args)))
    ≡ are_integer_expressions (expressions_in (map expression_of l.fn.args))
