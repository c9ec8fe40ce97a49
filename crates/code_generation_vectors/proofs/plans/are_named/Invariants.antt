use Rattle.std.proofs.Common.{◌≡◌, ◌<◌, ℕ, Some, length}
use Rattle.std.specs.Prelude.{slice_get}
use Rattle.flat_code.specs.declared.function.FlatFunction.{FlatFunction}
use Rattle.reg_plan.specs.Flow.{IsNamed}
use Rattle.code_generation_vectors.proofs.plans.are_named.Given as goal

abbrev pub invariant-loop-number : goal.invariant-loop-number
invariant-loop-number l = (k : ℕ) (f : FlatFunction) → k < l.number → slice_get l.functions k ≡ Some f
    → IsNamed l.program k f.body (length f.homes)
