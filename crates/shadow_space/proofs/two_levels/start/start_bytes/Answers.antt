use Rattle.std.proofs.Common.{arith}
use Rattle.shadow_space.proofs.TwoLevel.Starting.{place_of_next, bytes_started}
use Rattle.shadow_space.proofs.two_levels.start.start_bytes.Goals as goal

pub put-requires-clause-inside : goal.put-requires-clause-inside
put-requires-clause-inside c = omega (
  arith,
  place_of_next c.args.map.now c.args.entries.now c.loop-entry.entry-index
      (record { at = 0; base = 0; bound = 0; key = 0; lock = 0 }) c.loop-entry-test.true c.loop-entry.invariant.2,
  c.loop-entry.invariant.1,
)

pub returns-clause-does : goal.returns-clause-does
returns-clause-does c =
    bytes_started c.args.map.now c.args.entries.now c.loop-entry.entry-index c.loop-entry.bytes.items c.requires.map
    c.requires.entries c.loop-entry-test.false c.loop-entry.invariant.0
