use Rattle.std.proofs.Common.{◌-◌, ◌+◌, ◌≤◌, vec_len}
use Rattle.std.specs.Io.KnownBytes.{Consumes}
use Rattle.sb_outside.proofs.host.read_at_most.Given as goal

-- what was read so far is what the reader has lost
abbrev pub invariant-loop-bytes : goal.invariant-loop-bytes
invariant-loop-bytes g l = (vec_len l.bytes ≤ l.max)
    × Consumes (g.R.Read.remaining l.initial.reader) (g.R.Read.remaining l.reader) l.bytes.items

abbrev pub decreases-loop-bytes : goal.decreases-loop-bytes
decreases-loop-bytes g l = l.max + 1 - vec_len l.bytes
