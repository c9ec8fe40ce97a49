use Rattle.std.proofs.Common.{◌≡◌, map, drop}
use Rattle.c_tree.specs.Tree.{expressions_in}
use Rattle.c_tree.specs.View.{expression_of}
use Rattle.c_tree.specs.Walk.{any_assigns}
use Rattle.program_lowering.proofs.keys.assigned.+assigned.Given as goal

abbrev pub invariant-any_assigns-loop-first : goal.invariant-any_assigns-loop-first
invariant-any_assigns-loop-first l =
    any_assigns l.x (expressions_in (map expression_of (drop l.first-index l.args)))
    ≡ any_assigns l.fn.x (expressions_in (map expression_of l.fn.args))
