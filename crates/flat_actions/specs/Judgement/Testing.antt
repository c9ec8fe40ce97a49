-- The two tests of an access in flat code, one by one: the bounds, and the life of the object.
use Rattle.std.specs.Prelude.{◌≡◌, ℕ, ◌<◌, ◌≤◌, Bool, true, List}
use Rattle.addr_map.specs.Places.{AreMapped}
use Rattle.obj_memory.specs.declared.value.Value.{Value}
use Rattle.obj_memory.specs.Objects.{Objects}
use Rattle.obj_memory.specs.Sound.{IsSoundTag}
use Rattle.source_meaning.specs.State.{State as Source, Outcome as Completed, Gives, Ended, Paused}
use Rattle.source_meaning.specs.Judging.{is_within, test_bounds, test_life}
use Rattle.flat_code.specs.declared.instruction.RightOperand.{RightOperand}
use Rattle.flat_code.specs.declared.instruction.RightOperand.TheVariants.{Register, Number}
use Rattle.flat_code.specs.declared.instruction.FlatInstruction.{FlatInstruction}
use Rattle.flat_code.specs.State.{State}
use Rattle.flat_code.specs.Meaning.{right_value}
use Rattle.flat_code.specs.declared.registers.Held.{Held}
use Rattle.flat_code.specs.Routines.Routine.{Does, Outcome, Continues, Halts}
use Rattle.flat_code.specs.Routines.Objects.StandsFor.{Views, Keys, Spells, StandsFor}
use Rattle.flat_actions.specs.Judgement.Judging.{IsSameBut, EndsWith}

-- ---- what they are given

-- the memory stands for the objects, and registers hold a pointer
pub record IsToTest (views : Views) (keys : Keys) (objects : Objects) (value : Value) (held : Held)
    (state : State) : Type 0 where
  pub stands : StandsFor views keys objects state.memory
  pub sound : IsSoundTag views.functions objects value.tag
  pub spells : Spells views keys value held state.values

-- an operand is a number, or a register below the first that a routine may use for itself
abbrev pub IsBelow : (scratch : ℕ) → RightOperand → Type 0
IsBelow t (Register x) = x < t
IsBelow t (Number n) = Unit {0}

-- ---- what they leave

-- The run ends just where a test of the source ends it, and so; else it goes on. Nothing changed but registers from
-- scratch on.
abbrev pub IsTested : Completed (Unit {0}) → (scratch : ℕ) → State → Outcome → Type 0
IsTested (Gives a x) t s (Continues s') = IsSameBut t s s'
IsTested (Ended e x) t s (Halts status report s') = EndsWith e t status report s s'
IsTested (Gives a x) t s (Halts status report s') = ⊥
IsTested (Ended e x) t s (Continues s') = ⊥
IsTested (Paused x) t s o = ⊥

-- ---- the bounds

-- Of whatever objects, in functions of the program and of the runtime: within 5 steps the bounds are tested, of an
-- access of at least one byte.
abbrev pub IsSpatialRoutine : Held → (size : RightOperand) → (line scratch : ℕ) → List FlatInstruction → Type 0
IsSpatialRoutine h size line t r =
    (g : Views) (k : Keys) (x : Source) (v : Value) (n : ℕ) (runtime : Bool) (charge weight : ℕ)
    → Does (record { sizes = g.sizes; is_runtime = runtime; charge = charge; weight = weight }) r
    (λ s. IsToTest g k x.objects v h s × (right_value size s.values ≡ n) × (1 ≤ n)) (λ s. 5)
    (λ s. IsTested (test_bounds n v line x) t s)

-- ---- the life of the object

-- Within 3 steps, where some bytes from some address on are within the bounds of the tag, as those are whose bounds
-- were tested: else it need not be that of an object, and there is no lock word to look at.
abbrev pub IsTemporalRoutine : Held → (line scratch : ℕ) → List FlatInstruction → Type 0
IsTemporalRoutine h line t r =
    (g : Views) (k : Keys) (x : Source) (v : Value) (a n : ℕ) (runtime : Bool) (charge weight : ℕ) → AreMapped g.sizes
    → Does (record { sizes = g.sizes; is_runtime = runtime; charge = charge; weight = weight }) r
    (λ s. IsToTest g k x.objects v h s × (is_within v.tag a n ≡ true)) (λ s. 3)
    (λ s. IsTested (test_life v line x) t s)
