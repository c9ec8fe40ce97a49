-- What files in memory hold.
use Rattle.std.specs.Prelude.{ℕ, List}
use Rattle.sb_outside.specs.declared.memory_files.MemFiles.{MemFiles}
use Rattle.sb_outside.specs.HeldFile.{HeldFile}

abbrev pub files_of : MemFiles → List HeldFile
files_of m = m.files.items

-- how many bytes a write may have at most
abbrev pub write_room : MemFiles → ℕ
write_room m = m.room

-- the calls that are to fail, with the bytes that a write keeps, and the number of the next call
abbrev pub failing_reads : MemFiles → List ℕ
failing_reads m = m.read_fails.items

abbrev pub failing_writes : MemFiles → List (ℕ × ℕ)
failing_writes m = m.write_fails.items

abbrev pub next_read : MemFiles → ℕ
next_read m = m.reads

abbrev pub next_write : MemFiles → ℕ
next_write m = m.writes

abbrev pub read_faults : MemFiles → ℕ
read_faults m = m.read_faults

abbrev pub write_faults : MemFiles → ℕ
write_faults m = m.write_faults
