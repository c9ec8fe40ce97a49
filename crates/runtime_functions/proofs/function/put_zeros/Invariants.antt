use Rattle.std.proofs.Common.{◌≡◌, ◌+◌, ◌-◌, ◌++◌}
use Rattle.runtime_functions.specs.Functions.{cleared_registers, zeros}
use Rattle.runtime_functions.proofs.function.put_zeros.Given as goal

abbrev pub invariant-loop-number : goal.invariant-loop-number
invariant-loop-number l =
    l.code.items ++ zeros (l.first + l.number) (cleared_registers - l.number)
    ≡ l.initial.code.items ++ zeros l.first cleared_registers
