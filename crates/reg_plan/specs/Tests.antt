-- The parts of the test whether a plan is accepted.
use Rattle.std.specs.Prelude.{◌≡◌, ℕ, ◌+◌, ◌<◌, List, length, Some, true, false, slice_get}
use Rattle.flat_code.specs.declared.instruction.FlatInstruction.{FlatInstruction}
use Rattle.flat_code.specs.declared.function.FlatFunction.{FlatFunction}
use Rattle.flat_code.specs.declared.function.FlatProgram.{FlatProgram}
use Rattle.reg_plan.specs.declared.effects.Span.{Span}
use Rattle.reg_plan.specs.Registers.{registers_given_out}
use Rattle.reg_plan.specs.declared.plan.LiveInterval.{LiveInterval}
use Rattle.reg_plan.specs.declared.plan.Place.{Place}
use Rattle.reg_plan.specs.declared.plan.Place.TheVariants.{Register}
use Rattle.reg_plan.specs.declared.plan.FunctionPlan.{FunctionPlan}
use Rattle.reg_plan.specs.Effects.{read_by, is_read, made_by, makes_only, always_made_by, is_among, Leads}
use Rattle.reg_plan.specs.Colours.{range_of}
use Rattle.reg_plan.specs.Accepted.{IsLive, HasHome, IsAccepted, covers}

-- what an instruction always makes is live behind it, and what it does not make and is live there is live before it
pub record Flows (plan : FunctionPlan) (made always : Span) (from to : ℕ) : Type 0 where
  pub live : (y : ℕ) → is_among always y ≡ true → IsLive plan to y
  pub rest : (y : ℕ) → IsLive plan to y → is_among made y ≡ false → IsLive plan from y

-- what an instruction only makes is live behind it
abbrev pub IsWanted : FunctionPlan → (place : ℕ) → FlatInstruction → Type 0
IsWanted plan pc i = (x : ℕ) → makes_only i ≡ Some x → IsLive plan (pc + 1) x

-- the live ranges are closed at an instruction
pub record IsClosedAt (program : FlatProgram) (function : ℕ) (count : ℕ) (plan : FunctionPlan) (pc : ℕ)
    (instruction : FlatInstruction) : Type
    0 where
  pub read : IsWanted plan pc instruction → (y : ℕ) → is_read (read_by program function instruction) y ≡ true → IsLive plan pc y
  pub flows : (q : ℕ) → Leads instruction pc q → q < count → Flows plan (made_by program instruction) (always_made_by program instruction)
      pc q

-- the plans of all functions are accepted
pub record AreAccepted (program : FlatProgram) (plans : List FunctionPlan) : Type 0 where
  pub size : length plans ≡ length program.functions
  pub each : (k : ℕ) (f : FlatFunction) (plan : FunctionPlan) → slice_get program.functions k ≡ Some f
      → slice_get plans k ≡ Some plan → IsAccepted program k f plan

-- two live ranges have an instruction in common, one of the first so many
abbrev pub Meet : (count : ℕ) → List LiveInterval → List LiveInterval → Type 0
Meet count a b = (pc : ℕ) × (pc < count) × (covers a pc ≡ true) × (covers b pc ≡ true)

-- two virtual registers may be live together: they have different homes and no register in common
pub record AreApart (function : FlatFunction) (plan : FunctionPlan) (register y : ℕ) : Type 0 where
  pub homes : (w : ℕ) → slice_get function.homes register ≡ Some w → slice_get function.homes y ≡ Some w → ⊥
  pub registers : (r : ℕ) → slice_get plan.places.items register ≡ Some (Register r)
      → slice_get plan.places.items y ≡ Some (Register r) → ⊥

-- one that is live somewhere has a home and a place
pub record IsPlaced (function : FlatFunction) (plan : FunctionPlan) (y : ℕ) : Type 0 where
  pub home : HasHome function y
  pub place : Place
  pub is : slice_get plan.places.items y ≡ Some place
  pub given : (r : ℕ) → slice_get plan.places.items y ≡ Some (Register r) → r < registers_given_out

-- what the plan says of a virtual register: where it is live it has a home and a place; it is live at the entry only
-- if it is a parameter; and it is kept apart from those before it
pub record IsKept (function : FlatFunction) (plan : FunctionPlan) (count : ℕ) (register : ℕ) : Type 0 where
  pub placed : (pc : ℕ) → pc < count → IsLive plan pc register → IsPlaced function plan register
  pub entry : 0 < count → IsLive plan 0 register → register < function.parameters
  pub apart : (y : ℕ) → y < register → Meet count (range_of plan.live.items register) (range_of plan.live.items y)
      → AreApart function plan register y
