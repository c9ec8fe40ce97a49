use Rattle.std.proofs.Common.{◌≡◌, map, drop}
use Rattle.c_tree.specs.View.{declared_of}
use Rattle.c_room.specs.Contents.{with_declared}
use Rattle.c_room.proofs.statement.declared.Given as goal

abbrev pub invariant-loop-variable : goal.invariant-loop-variable
invariant-loop-variable l =
    with_declared l.so_far (map declared_of (drop l.variable-index l.trees))
    ≡ with_declared l.fn.so_far (map declared_of l.fn.trees)
