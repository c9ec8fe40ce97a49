use Rattle.std.proofs.Common.{◌≡◌, map, take}
use Rattle.instruction_selection.specs.Covered.{is_callable}
use Rattle.instruction_selection.proofs.covered.calls.callable_functions.Given as goal

abbrev pub invariant-loop-i : goal.invariant-loop-i
invariant-loop-i l = l.list.items ≡ map (is_callable l.program) (take l.i l.functions)
