use Rattle.std.proofs.Common.{◌≡◌, ◌++◌, drop, length}
use Rattle.runtime_functions.specs.Functions.{with_stubs}
use Rattle.runtime_functions.proofs.function.put_with_stubs.Given as goal

abbrev pub invariant-loop-instruction : goal.invariant-loop-instruction
invariant-loop-instruction l =
    (l.place ≡ l.instruction-index)
    × (l.code.items ++ with_stubs (length l.routine) l.place (drop l.instruction-index l.routine)
    ≡ l.initial.code.items ++ with_stubs (length l.routine) 0 l.routine)
