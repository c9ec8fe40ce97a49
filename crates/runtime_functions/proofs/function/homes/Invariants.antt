use Rattle.std.proofs.Common.{◌≡◌}
use Rattle.runtime_functions.specs.Functions.{own_homes}
use Rattle.runtime_functions.proofs.function.homes.Given as goal

abbrev pub invariant-loop-register : goal.invariant-loop-register
invariant-loop-register l = l.homes.items ≡ own_homes l.register
