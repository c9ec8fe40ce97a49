use Rattle.std.proofs.Common.{◌≡◌, map, drop}
use Rattle.c_tree.specs.View.{declared_of}
use Rattle.compiled_programs.specs.Programs.{are_integer_declared}
use Rattle.compiled_programs.proofs.statement.are_integer_declared.Given as goal

abbrev pub invariant-loop-variable : goal.invariant-loop-variable
invariant-loop-variable l =
    are_integer_declared (map declared_of (drop l.variable-index l.declared))
    ≡ are_integer_declared (map declared_of l.fn.declared)
