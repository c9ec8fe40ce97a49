-- What a source in memory holds.
use Rattle.std.specs.Prelude.{ℕ, List, drop}
use Rattle.sb_outside.specs.declared.memory_source.MemSource.{MemSource}

abbrev pub bytes_left : MemSource → List ℕ
bytes_left s = drop s.at s.bytes.items

-- the numbers of the calls that are to fail, and the number of the next call
abbrev pub failing_takes : MemSource → List ℕ
failing_takes s = s.fails.items

abbrev pub next_take : MemSource → ℕ
next_take s = s.calls

abbrev pub take_faults : MemSource → ℕ
take_faults s = s.faults
