-- What a run of flat code has at hand, and where it stands.
use Rattle.std.specs.Prelude.{ℕ, List, [], Some, None}
use Rattle.behaviours.specs.Shown.{Access, Status, nothing_shown}
use Rattle.behaviours.specs.Behaviour.{Moment}
use Rattle.flat_code.specs.Memory.{Bytes}

-- the values of virtual registers by number
abbrev pub Values : Type 0
Values = ℕ → ℕ

-- The values of the function that runs, the memory, what is left of the input, and what was shown so far: bytes of the
-- output, how many bytes of the input were taken, and the accesses of object space by functions of the program; and how
-- many turns were begun, and how much work was done.
pub record State : Type 0 where
  pub values : Values
  pub memory : Bytes
  pub input : List ℕ
  pub output : List ℕ
  pub taken : ℕ
  pub accesses : List Access
  pub turns : ℕ
  pub work : ℕ

-- an activation record that waits for a call: its function, the place of the instruction behind the call, the first
-- register that gets a result, and its values
pub record Frame : Type 0 where
  pub function : ℕ
  pub next : ℕ
  pub into : ℕ
  pub values : Values

-- A run stands at an instruction of a function, under the records that wait, the last first; or it has ended, with a
-- status and a report. A step that may not be done leads to where nothing more comes.
pub data Stage : Type 0 where
  Stands : (function place : ℕ) → (s : State) → (frames : List Frame) → Stage
  Over : (status : ℕ) → (report : List ℕ) → (s : State) → Stage
  Stuck : Stage

-- what is seen of a stage
abbrev pub seen : Stage → Moment
seen (Stands f pc s frames) = record {
  shown = record { output = s.output; errors = []; taken = s.taken; accesses = s.accesses; ending = None };
  turns = s.turns;
  work = s.work;
}
seen (Over status report s) = record {
  shown = record {
    output = s.output;
    errors = report;
    taken = s.taken;
    accesses = s.accesses;
    ending = Some (Status status);
  };
  turns = s.turns;
  work = s.work;
}
seen Stuck = record { shown = nothing_shown; turns = 0; work = 0 }
