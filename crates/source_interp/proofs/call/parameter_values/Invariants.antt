use Rattle.std.proofs.Common.{◌≡◌, ◌++◌, drop}
use Rattle.source_meaning.specs.Calls.{parameter_values}
use Rattle.source_interp.proofs.call.parameter_values.Given as goal

abbrev pub invariant-loop-i : goal.invariant-loop-i
invariant-loop-i l =
    l.values.items ++ parameter_values (drop l.i l.parameters) (drop l.i l.arguments)
    ≡ parameter_values l.fn.parameters l.fn.arguments
