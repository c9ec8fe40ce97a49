-- Live ranges whose intervals stand in order.
use Rattle.std.specs.Prelude.{◌≡◌, ℕ, List, Some, true, slice_get, Vec}
use Rattle.std.specs.Global.{Global}
use Rattle.std.specs.List.Sorted.{IsNonDecreasingBy}
use Rattle.reg_plan.specs.declared.plan.LiveInterval.{LiveInterval}
use Rattle.reg_plan.specs.declared.plan.FunctionPlan.{FunctionPlan}
use Rattle.reg_plan.specs.declared.lookup.LiveLookup.{LiveLookup}
use Rattle.reg_plan.specs.Colours.{range_of}

-- no interval begins or ends before one that stands before it
pub record IsInOrder (range : List LiveInterval) : Type 0 where
  pub starts : IsNonDecreasingBy (λ i. i.start) range
  pub ends : IsNonDecreasingBy (λ i. i.end) range

-- all live ranges of a plan
abbrev pub AreInOrder : List (Vec LiveInterval Global) → Type 0
AreInOrder ranges = (y : ℕ) → IsInOrder (range_of ranges y)

-- how a plan is looked up: where that says so, its live ranges are in order
pub record IsLookup (lookup : LiveLookup) (plan : FunctionPlan) : Type 0 where
  pub order : lookup.in_order ≡ true → AreInOrder plan.live.items

-- and the plan with a number
abbrev pub IsLookupAt : LiveLookup → List FunctionPlan → (function : ℕ) → Type 0
IsLookupAt lookup plans f = (plan : FunctionPlan) → slice_get plans f ≡ Some plan → IsLookup lookup plan
