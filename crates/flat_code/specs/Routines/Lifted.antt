-- Where a run of a program stands when a routine of one of its functions is left.
use Rattle.std.specs.Prelude.{ℕ, List}
use Rattle.flat_code.specs.State.{Frame, Stage, Stands, Over}
use Rattle.flat_code.specs.Routines.Routine.{Outcome, Continues, Halts}

abbrev pub stage_of : (function : ℕ) → (frames : List Frame) → (place : ℕ) → Outcome → Stage
stage_of f frames pc (Continues s) = Stands f pc s frames
stage_of f frames pc (Halts status report s) = Over status report s
