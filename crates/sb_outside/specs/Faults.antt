-- Counts of calls and of faults. A fault of the outside is answered only where its count rose, so no failed call is
-- passed over.
use Rattle.std.specs.Prelude.{◌≡◌, ◌^◌, ℕ, ◌+◌, ◌-◌, min, Result, OnOk, OnErr, IsErrOf}
use Rattle.sb_outside.specs.declared.source.Failed.{Failed}
use Rattle.sb_outside.specs.declared.files.FileFault.{FileFault}
use Rattle.sb_outside.specs.declared.files.FileFault.TheVariants as fault

-- the last value of a count
abbrev pub last_count : ℕ
last_count = 2 ^ 64 - 1

-- one more; at its last value a count stands
abbrev pub next_count : ℕ → ℕ
next_count count = min (count + 1) last_count

-- the count rose, by one
abbrev pub Rose : ℕ → ℕ → Type 0
Rose before now = now ≡ next_count before

-- the count rose with a failed call, and stands with any other
pub record CountsFaults {T : Type 0} (before now : ℕ) (result : Result T Failed) : Type 0 where
  pub failed : OnErr result (Rose before now)
  pub else : OnOk result (now ≡ before)

-- the count rose with the answer Failed, and stands with any other
pub record CountsReadFaults {T : Type 0} (before now : ℕ) (result : Result T FileFault) : Type 0 where
  pub failed : IsErrOf result fault.Failed → Rose before now
  pub else : (IsErrOf result fault.Failed → ⊥) → now ≡ before
