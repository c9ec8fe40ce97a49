use Rattle.std.proofs.Common.{◌≡◌, map, drop}
use Rattle.c_tree.specs.View.{declared_of}
use Rattle.c_tree.specs.Assigning.{declared_assign}
use Rattle.program_lowering.proofs.parts.assigned.declared_assign.Given as goal

abbrev pub invariant-loop-variable : goal.invariant-loop-variable
invariant-loop-variable l =
    declared_assign l.x (map declared_of (drop l.variable-index l.declared))
    ≡ declared_assign l.fn.x (map declared_of l.fn.declared)
