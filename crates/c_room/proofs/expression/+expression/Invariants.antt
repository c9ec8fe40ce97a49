use Rattle.std.proofs.Common.{◌≡◌, map, drop}
use Rattle.c_tree.specs.Tree.{expressions_in}
use Rattle.c_tree.specs.View.{expression_of}
use Rattle.c_tree.specs.Walk.{walk_each}
use Rattle.c_room.specs.Demands.{all_next, demand_made}
use Rattle.c_room.proofs.expression.+expression.Given as goal

abbrev pub invariant-arguments-loop-argument : goal.invariant-arguments-loop-argument
invariant-arguments-loop-argument l =
    all_next l.so_far (walk_each demand_made (expressions_in (map expression_of (drop l.argument-index l.args))))
    ≡ all_next l.fn.so_far (walk_each demand_made (expressions_in (map expression_of l.fn.args)))
