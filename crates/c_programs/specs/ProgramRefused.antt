-- Why a typed file has no program.
use Rattle.std.specs.Prelude.{ℕ}
use Rattle.c_programs.specs.declared.refusal.ProgramRefusal.{ProgramRefusal}
use Rattle.c_programs.specs.declared.refusal.ProgramRefusal.TheVariants.{Memory, RoomTooLarge}

-- for want of memory nothing is claimed
abbrev pub UnlessMemory : ProgramRefusal → Type 0 → Type 0
UnlessMemory Memory Claim = Unit {0}
UnlessMemory (RoomTooLarge n) Claim = Claim

-- the number of the function
abbrev pub refused_at : ProgramRefusal → ℕ
refused_at Memory = 0
refused_at (RoomTooLarge n) = n
