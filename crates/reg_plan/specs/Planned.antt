-- What the plans are for: which functions can be planned, and what a plan of live ranges that are exactly where values
-- are needed is.
use Rattle.std.specs.Prelude.{◌≡◌, ℕ, ◌^◌, ◌<◌, List, length, Some, slice_get}
use Rattle.flat_code.specs.declared.function.FlatFunction.{FlatFunction}
use Rattle.flat_code.specs.declared.function.FlatProgram.{FlatProgram}
use Rattle.reg_plan.specs.Registers.{registers_given_out}
use Rattle.reg_plan.specs.declared.plan.Place.{Place}
use Rattle.reg_plan.specs.declared.plan.Place.TheVariants.{Home}
use Rattle.reg_plan.specs.declared.plan.FunctionPlan.{FunctionPlan}
use Rattle.reg_plan.specs.Needs.{IsNeeded}
use Rattle.reg_plan.specs.Flow.{IsNamed}
use Rattle.reg_plan.specs.Accepted.{IsLive, HasHome, IsAccepted}
use Rattle.reg_plan.specs.Colours.{IsTaken}

-- Each virtual register that a function reads or makes has a home, which lies within the activation record where its
-- value is needed; values that are needed together have different homes; and at the entry none but the parameters are
-- needed.
pub record IsPlannable (program : FlatProgram) (number : ℕ) (function : FlatFunction) : Type 0 where
  pub count : length function.body < 2 ^ 32
  pub named : IsNamed program number function.body (length function.homes)
  pub inside : (pc y : ℕ) → IsNeeded program number function.body pc y → HasHome function y
  pub apart : (pc x y w : ℕ) → IsNeeded program number function.body pc x → IsNeeded program number function.body pc y
      → slice_get function.homes x ≡ Some w → slice_get function.homes y ≡ Some w → x ≡ y
  pub entry : (y : ℕ) → IsNeeded program number function.body 0 y → y < function.parameters

abbrev pub ArePlannable : FlatProgram → Type 0
ArePlannable p = (k : ℕ) (f : FlatFunction) → slice_get p.functions k ≡ Some f → IsPlannable p k f

-- the plan is accepted, and its live ranges are the least that are closed
pub record IsLeastPlan (program : FlatProgram) (number : ℕ) (function : FlatFunction)
    (plan : FunctionPlan) : Type 0 where
  pub accepted : IsAccepted program number function plan
  pub least : (pc y : ℕ) → IsLive plan pc y → IsNeeded program number function.body pc y
  pub needed : (pc y : ℕ) → IsNeeded program number function.body pc y → IsLive plan pc y

-- all values are kept in their homes
pub record IsPlanOfSlots (program : FlatProgram) (number : ℕ) (function : FlatFunction)
    (plan : FunctionPlan) : Type 0 where
  pub least : IsLeastPlan program number function plan
  pub home : (y : ℕ) (place : Place) → slice_get plan.places.items y ≡ Some place → place ≡ Home

-- a value is kept in its home only where each register is given to one that is live with it before some instruction
pub record IsPlanOfRegisters (program : FlatProgram) (number : ℕ) (function : FlatFunction)
    (plan : FunctionPlan) : Type 0 where
  pub least : IsLeastPlan program number function plan
  pub full : (y r : ℕ) → slice_get plan.places.items y ≡ Some Home → r < registers_given_out
      → IsTaken plan.live.items plan.places.items r y

-- the first functions, so many, have plans of which something holds
pub record ArePlanned (program : FlatProgram) (plans : List FunctionPlan) (done : ℕ)
    (P : ℕ → FlatFunction → FunctionPlan → Type 0) : Type 0 where
  pub size : length plans ≡ done
  pub each : (k : ℕ) (f : FlatFunction) → k < done → slice_get program.functions k ≡ Some f
      → (plan : FunctionPlan) × (slice_get plans k ≡ Some plan) × P k f plan
