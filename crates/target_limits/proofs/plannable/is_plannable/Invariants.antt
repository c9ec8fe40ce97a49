use Rattle.std.proofs.Common.{◌≡◌, ◌<◌, ℕ, Some}
use Rattle.std.specs.Prelude.{slice_get}
use Rattle.flat_code.specs.declared.function.FlatFunction.{FlatFunction}
use Rattle.reg_plan.specs.Planned.{IsPlannable}
use Rattle.target_limits.proofs.plannable.is_plannable.Given as goal

abbrev pub invariant-loop-number : goal.invariant-loop-number
invariant-loop-number l = (k : ℕ) (f : FlatFunction) → k < l.number → slice_get l.functions k ≡ Some f
    → IsPlannable l.program k f
