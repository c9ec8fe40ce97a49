use Rattle.std.proofs.Common.{◌≡◌, ℕ, ◌<◌, Some, slice_get}
use Rattle.tac_ir.specs.declared.function.CodeFunction.{CodeFunction}
use Rattle.program_expansion.specs.Limits.{IsWithinLimits}
use Rattle.program_expansion.proofs.limits.are_within_limits.Given as goal

abbrev pub invariant-loop-number : goal.invariant-loop-number
invariant-loop-number l =
    (u : ℕ) (c : CodeFunction) → u < l.number → slice_get l.program.functions u ≡ Some c → IsWithinLimits l.program c
