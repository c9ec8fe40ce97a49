-- What a sink in memory holds.
use Rattle.std.specs.Prelude.{ℕ, List, take, length}
use Rattle.sb_outside.specs.declared.memory_sink.MemSink.{MemSink}

abbrev pub bytes_taken : MemSink → List ℕ
bytes_taken s = take s.len s.buffer.items

-- how many bytes it can take in all
abbrev pub sink_capacity : MemSink → ℕ
sink_capacity s = length s.buffer.items

-- the calls that are to fail with the bytes that they keep, and the number of the next call
abbrev pub failing_puts : MemSink → List (ℕ × ℕ)
failing_puts s = s.fails.items

abbrev pub next_put : MemSink → ℕ
next_put s = s.calls

abbrev pub put_faults : MemSink → ℕ
put_faults s = s.faults
