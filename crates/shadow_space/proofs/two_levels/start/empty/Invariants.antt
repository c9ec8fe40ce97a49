use Rattle.std.proofs.Common.{◌≡◌, length}
use Rattle.shadow_space.specs.TwoLevel.Start.{start_size, counted_bytes, with_tables}
use Rattle.shadow_space.proofs.two_levels.start.empty.Given as goal

abbrev pub invariant-loop-page : goal.invariant-loop-page
invariant-loop-page l =
    (l.bytes.items ≡ with_tables l.map l.page (counted_bytes l.map)) × (length l.bytes.items ≡ start_size l.map)
