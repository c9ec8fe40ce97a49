use Rattle.std.proofs.Common.{◌≡◌, ◌++◌, map, drop}
use Rattle.c_tree.specs.View.{declared_of}
use Rattle.c_tree.specs.Blocks.{variables_in}
use Rattle.source_interp.proofs.variables.add_declared.Given as goal

abbrev pub invariant-loop-variable : goal.invariant-loop-variable
invariant-loop-variable l =
    l.numbers.items ++ variables_in (map declared_of (drop l.variable-index l.declared))
    ≡ l.fn.numbers.items ++ variables_in (map declared_of l.fn.declared)
