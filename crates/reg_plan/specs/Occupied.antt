-- Instructions as intervals that stand in order, of which none overlap.
use Rattle.std.specs.Prelude.{◌≡◌, ◌≢◌, ℕ, ◌+◌, ◌<◌, ◌≤◌, List, [], ◌∷◌, Some, ◌||◌, length}
use Rattle.std.specs.Prelude.{true, slice_get, Vec}
use Rattle.std.specs.Global.{Global}
use Rattle.reg_plan.specs.declared.plan.LiveInterval.{LiveInterval}
use Rattle.reg_plan.specs.Accepted.{covers}
use Rattle.reg_plan.specs.declared.plan.Place.{Place}
use Rattle.reg_plan.specs.declared.plan.Place.TheVariants.{Register}
use Rattle.reg_plan.specs.Registers.{registers_given_out}
use Rattle.reg_plan.specs.Colours.{range_of, IsColoured}

-- none is empty, the first does not begin before a number, and each other not before the end of the one in front of it
abbrev pub IsSpreadFrom : ℕ → List LiveInterval → Type 0
IsSpreadFrom n [] = Unit {0}
IsSpreadFrom n (i ∷ is) = (n ≤ i.start) × (i.start < i.end) × IsSpreadFrom i.end is

abbrev pub AreSpread : List LiveInterval → Type 0
AreSpread list = IsSpreadFrom 0 list

-- the interval of one instruction
abbrev pub one_place : ℕ → LiveInterval
one_place pc = record { start = pc; end = pc + 1 }

-- those up to one end before an instruction or at it, and no other does
pub record AreParted (list : List LiveInterval) (pc count : ℕ) : Type 0 where
  pub before : (k : ℕ) (i : LiveInterval) → slice_get list k ≡ Some i → k < count → i.end ≤ pc
  pub behind : (k : ℕ) (i : LiveInterval) → slice_get list k ≡ Some i → count ≤ k → pc < i.end

-- the instructions of a live range come to those in which a register is in use
pub record Occupies (before after : List (Vec LiveInterval Global)) (register : ℕ) (range : List LiveInterval) : Type
    0 where
  pub here : (pc : ℕ) → covers (range_of after register) pc
      ≡ (covers (range_of before register) pc || covers range pc)
  pub others : (r : ℕ) → r ≢ register → range_of after r ≡ range_of before r
  pub spread : AreSpread (range_of after register)
  pub count : length after ≡ length before

-- each register is in use at instructions that are spread
abbrev pub AreAllSpread : List (Vec LiveInterval Global) → Type 0
AreAllSpread used = (r : ℕ) → AreSpread (range_of used r)

-- Places were given to the first virtual registers: each register is in use where one that has it is live, and nowhere
-- else.
pub record IsColouring (ranges : List (Vec LiveInterval Global)) (places : List Place)
    (used : List (Vec LiveInterval Global)) : Type 0 where
  pub coloured : IsColoured ranges places registers_given_out
  pub count : length used ≡ registers_given_out
  pub spread : AreAllSpread used
  pub in_use : (x r pc : ℕ) → slice_get places x ≡ Some (Register r) → covers (range_of ranges x) pc ≡ true
      → covers (range_of used r) pc ≡ true
  pub only : (r pc : ℕ) → covers (range_of used r) pc ≡ true
      → (x : ℕ) × (slice_get places x ≡ Some (Register r)) × (covers (range_of ranges x) pc ≡ true)
