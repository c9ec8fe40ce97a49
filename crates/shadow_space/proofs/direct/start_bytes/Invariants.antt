use Rattle.std.proofs.Common.{◌≡◌, ◌*◌, drop, length}
use Rattle.addr_map.specs.Places.{whole_pages}
use Rattle.shadow_space.specs.Direct.{direct_put, direct_start}
use Rattle.shadow_space.specs.Start.{AreStartEntries, begun}
use Rattle.shadow_space.proofs.direct.start_bytes.Given as goal

-- what is yet to come makes all of it
abbrev pub invariant-loop-entry : goal.invariant-loop-entry
invariant-loop-entry l =
    (begun direct_put (drop l.entry-index l.entries) l.bytes.items ≡ direct_start l.map l.entries)
    × (length l.bytes.items ≡ 4 * whole_pages l.map.global_bytes)
    × AreStartEntries l.map (drop l.entry-index l.entries)
