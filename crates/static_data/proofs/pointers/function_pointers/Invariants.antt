use Rattle.std.proofs.Common.{◌≡◌, ◌++◌, ◌-◌}
use Rattle.static_data.specs.Data.{function_pointers}
use Rattle.static_data.proofs.pointers.function_pointers.Given as goal

abbrev pub invariant-loop-i : goal.invariant-loop-i
invariant-loop-i l = l.pointers.items ++ function_pointers l.i (l.count - l.i) ≡ function_pointers 0 l.fn.count
