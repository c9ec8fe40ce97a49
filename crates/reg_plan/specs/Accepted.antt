-- Which plans keep values apart.
use Rattle.std.specs.Prelude.{◌≡◌, ℕ, ◌+◌, ◌*◌, ◌<◌, ◌≤◌, List, [], length, Option, Some, None, Bool, true, ◌&&◌}
use Rattle.std.specs.Prelude.{nat_le, nat_lt, slice_get, Vec}
use Rattle.std.specs.List.{list_any}
use Rattle.std.specs.Global.{Global}
use Rattle.flat_code.specs.declared.instruction.FlatInstruction.{FlatInstruction}
use Rattle.flat_code.specs.declared.function.FlatFunction.{FlatFunction}
use Rattle.flat_code.specs.declared.function.FlatProgram.{FlatProgram}
use Rattle.flat_code.specs.Calls.{record_bytes}
use Rattle.reg_plan.specs.Registers.{registers_given_out}
use Rattle.reg_plan.specs.declared.plan.LiveInterval.{LiveInterval}
use Rattle.reg_plan.specs.declared.plan.Place.{Place}
use Rattle.reg_plan.specs.declared.plan.Place.TheVariants.{Register}
use Rattle.reg_plan.specs.declared.plan.FunctionPlan.{FunctionPlan}
use Rattle.reg_plan.specs.Needs.{ReadsAt, MakesAt, AlwaysMakesAt, MakesOnlyAt, LeadsAt}

abbrev pub intervals_of : Option (Vec LiveInterval Global) → List LiveInterval
intervals_of None = []
intervals_of (Some list) = list.items

abbrev pub holds : LiveInterval → (place : ℕ) → Bool
holds i pc = nat_le i.start pc && nat_lt pc i.end

abbrev pub covers : List LiveInterval → (place : ℕ) → Bool
covers list pc = list_any (λ i. holds i pc) list

-- whether the plan has a virtual register live before an instruction
abbrev pub is_live : FunctionPlan → (place y : ℕ) → Bool
is_live plan pc y = covers (intervals_of (slice_get plan.live.items y)) pc

abbrev pub IsLive : FunctionPlan → (place y : ℕ) → Type 0
IsLive plan pc y = is_live plan pc y ≡ true

-- The live ranges are closed backwards over all paths: what an instruction reads is live before it, but for one that
-- makes no more than a value that is not live behind it; what it makes whether or not that is needed is live behind it;
-- and what else is live behind it is live before it.
pub record AreClosed (program : FlatProgram) (function : ℕ) (body : List FlatInstruction)
    (plan : FunctionPlan) : Type 0 where
  pub read : (pc y : ℕ) → ReadsAt program function body pc y
      → ((x : ℕ) → MakesOnlyAt body pc x → IsLive plan (pc + 1) x) → IsLive plan pc y
  pub made : (pc q y : ℕ) → LeadsAt body pc q → AlwaysMakesAt program body pc y → IsLive plan q y
  pub rest : (pc q y : ℕ) → LeadsAt body pc q → IsLive plan q y → (MakesAt program body pc y → ⊥) → IsLive plan pc y

-- the home of a virtual register is a word of the activation record behind the first, which has the return address
pub record HasHome (function : FlatFunction) (y : ℕ) : Type 0 where
  pub word : ℕ
  pub is : slice_get function.homes y ≡ Some word
  pub inside : 8 * word + 16 ≤ record_bytes function

-- A plan is accepted where the live ranges are closed; two that are live before one instruction have different homes,
-- and different registers if they have any; each that is live has a home and a place, and the register is one that is
-- given out; and at the entry no others than the parameters are live.
pub record IsAccepted (program : FlatProgram) (number : ℕ) (function : FlatFunction)
    (plan : FunctionPlan) : Type 0 where
  pub closed : AreClosed program number function.body plan
  pub homes : (pc x y w : ℕ) → pc < length function.body → IsLive plan pc x → IsLive plan pc y
      → slice_get function.homes x ≡ Some w
      → slice_get function.homes y ≡ Some w → x ≡ y
  pub registers : (pc x y r : ℕ) → pc < length function.body → IsLive plan pc x → IsLive plan pc y
      → slice_get plan.places.items x ≡ Some (Register r) → slice_get plan.places.items y ≡ Some (Register r) → x ≡ y
  pub inside : (pc y : ℕ) → pc < length function.body → IsLive plan pc y → HasHome function y
  pub places : (pc y : ℕ) → pc < length function.body → IsLive plan pc y
      → (place : Place) × (slice_get plan.places.items y ≡ Some place)
  pub given : (pc y r : ℕ) → pc < length function.body → IsLive plan pc y
      → slice_get plan.places.items y ≡ Some (Register r)
      → r < registers_given_out
  pub entry : (y : ℕ) → 0 < length function.body → IsLive plan 0 y → y < function.parameters
