-- Registers by greedy colouring.
use Rattle.std.specs.Prelude.{◌≡◌, ℕ, ◌<◌, List, Some, true, slice_get, Vec}
use Rattle.std.specs.Global.{Global}
use Rattle.reg_plan.specs.declared.plan.LiveInterval.{LiveInterval}
use Rattle.reg_plan.specs.declared.plan.Place.{Place}
use Rattle.reg_plan.specs.declared.plan.Place.TheVariants.{Home, Register}
use Rattle.reg_plan.specs.Accepted.{covers, intervals_of}

-- the live range of a virtual register
abbrev pub range_of : List (Vec LiveInterval Global) → ℕ → List LiveInterval
range_of ranges y = intervals_of (slice_get ranges y)

-- two virtual registers are live before one instruction
abbrev pub Share : List (Vec LiveInterval Global) → (x y : ℕ) → Type 0
Share ranges x y = (pc : ℕ) × (covers (range_of ranges x) pc ≡ true) × (covers (range_of ranges y) pc ≡ true)

-- one with this register shares an instruction with y
abbrev pub IsTaken : List (Vec LiveInterval Global) → List Place → (register y : ℕ) → Type 0
IsTaken ranges places r y = (x : ℕ) × (slice_get places x ≡ Some (Register r)) × Share ranges x y

-- The registers below a number are given out: no two that share an instruction have the same, and one stays in its home
-- only where each of these registers is taken.
pub record IsColoured (ranges : List (Vec LiveInterval Global)) (places : List Place) (count : ℕ) : Type 0 where
  pub apart : (x y r : ℕ) → slice_get places x ≡ Some (Register r) → slice_get places y ≡ Some (Register r)
      → Share ranges x y → x ≡ y
  pub given : (y r : ℕ) → slice_get places y ≡ Some (Register r) → r < count
  pub full : (y r : ℕ) → slice_get places y ≡ Some Home → r < count → IsTaken ranges places r y
