use Rattle.std.proofs.Common.{◌≡◌, ◌<◌, ℕ, Some}
use Rattle.std.specs.Prelude.{slice_get}
use Rattle.flat_code.specs.declared.function.FlatFunction.{FlatFunction}
use Rattle.reg_plan.specs.declared.plan.FunctionPlan.{FunctionPlan}
use Rattle.reg_plan.specs.Accepted.{IsAccepted}
use Rattle.reg_plan.proofs.accepts.accepts.Given as goal

abbrev pub invariant-loop-number : goal.invariant-loop-number
invariant-loop-number l = (k : ℕ) (f : FlatFunction) (plan : FunctionPlan) → k < l.number
    → slice_get l.functions k ≡ Some f → slice_get l.plans k ≡ Some plan → IsAccepted l.program k f plan
