-- Strings copied in flat code.
use Rattle.std.specs.Prelude.{◌≡◌, ℕ, ◌+◌, ◌<◌, ◌-◌, List, [], ◌∷◌, ◌++◌, length, get_or, replicate}
use Rattle.addr_map.specs.Places.{MapSizes}
use Rattle.rv_isa.specs.declared.instruction.RegOp.TheVariants.{Add, Sub}
use Rattle.source_meaning.specs.Strings.{scan}
use Rattle.flat_code.specs.declared.instruction.RightOperand.TheVariants.{Register, Number}
use Rattle.flat_code.specs.declared.instruction.FlatInstruction.{FlatInstruction}
use Rattle.flat_code.specs.declared.instruction.FlatInstruction.TheVariants.{Constant, Operate}
use Rattle.flat_code.specs.Memory.{KeepsBut}
use Rattle.flat_code.specs.State.{State}
use Rattle.flat_code.specs.declared.registers.Held.{Held}
use Rattle.flat_code.specs.Routines.Registers.{OthersStay}
use Rattle.flat_code.specs.Routines.Metadata.{ShowsNothing}
use Rattle.flat_actions.specs.Judgement.Judging.{IsJudgeRoutine}
use Rattle.flat_actions.specs.Actions.{Basis}
use Rattle.flat_actions.specs.Ranges.{IsByteMoveRoutine, IsFillRoutine}
use Rattle.flat_actions.specs.Scanning.{IsScanRoutine}

-- these bytes were written from an address on
pub record HasWritten (new : List ℕ) (word scratch : ℕ) (before after : State) : Type 0 where
  pub there : (i : ℕ) → i < length new → after.memory (word + i) ≡ get_or new i 0
  pub beside : KeepsBut word (length new) before.memory after.memory
  pub shows : ShowsNothing before after
  pub others : OthersStay [] scratch before after

-- ---- a whole string

-- how many bytes it has, with its 0 byte
abbrev pub size_code : (size start cursor : ℕ) → List FlatInstruction
size_code n from c = Operate Sub n c (Register from) ∷ Operate Add n n (Number 1) ∷ []

-- A string is scanned, with a register for the cursor and one for the size behind it, the destination is judged, and
-- the bytes are moved there. The three routines are known by what they do.
pub record IsCopied (basis : Basis) (to from : Held) (line scratch : ℕ) (items : List FlatInstruction) : Type 0 where
  pub scanning : List FlatInstruction
  pub judging : List FlatInstruction
  pub moving : List FlatInstruction
  pub scans : IsScanRoutine basis (λ v. scan v line) from (λ f. Unit {0}) scratch (scratch + 1) scanning
  pub judges : IsJudgeRoutine to (scratch + 1) line (scratch + 1 + 1) judging
  pub moves : IsByteMoveRoutine basis.map to.value from.value (scratch + 1) (scratch + 1 + 1) moving
  pub items_are : items ≡ scanning ++ (size_code (scratch + 1) from.value scratch ++ (judging ++ moving))

-- ---- at most so many bytes

-- how many were scanned
abbrev pub count_code : (count start cursor : ℕ) → List FlatInstruction
count_code m from c = Operate Sub m c (Register from) ∷ []

-- where the bytes behind them stand, how many these are, and what they become
abbrev pub tail_code : (to size count address zero : ℕ) → List FlatInstruction
tail_code d n m a z = Operate Add a d (Register m) ∷ Operate Sub m n (Register m) ∷ Constant z 0 ∷ []

-- the bytes of a string, and zeros up to so many bytes (C99 7.21.2.4)
abbrev pub filled_up : (size : ℕ) → List ℕ → List ℕ
filled_up n bytes = bytes ++ replicate (n - length bytes) 0

-- What was scanned is moved, and the rest is filled. Both routines are known by what they do.
pub record IsFilledUp (map : MapSizes) (to from size cursor : ℕ) (items : List FlatInstruction) : Type 0 where
  pub moving : List FlatInstruction
  pub filling : List FlatInstruction
  pub moves : IsByteMoveRoutine map to from (cursor + 1) (cursor + 4) moving
  pub fills : IsFillRoutine map (cursor + 2) (cursor + 3) (cursor + 1) (cursor + 4) filling
  pub items_are : items
      ≡ count_code (cursor + 1) from cursor
      ++ (moving ++ (tail_code to size (cursor + 1) (cursor + 2) (cursor + 3) ++ filling))
