use Rattle.std.proofs.Common.{◌≡◌, drop, length}
use Rattle.shadow_space.specs.Start.{AreStartEntries, begun}
use Rattle.shadow_space.specs.TwoLevel.Start.{start_size, table_put, two_level_start}
use Rattle.shadow_space.proofs.two_levels.start.start_bytes.Given as goal

-- what is yet to come makes all of it
abbrev pub invariant-loop-entry : goal.invariant-loop-entry
invariant-loop-entry l =
    (begun (table_put l.map) (drop l.entry-index l.entries) l.bytes.items ≡ two_level_start l.map l.entries)
    × (length l.bytes.items ≡ start_size l.map)
    × AreStartEntries l.map (drop l.entry-index l.entries)
