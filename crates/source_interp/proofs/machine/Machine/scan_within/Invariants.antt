use Rattle.std.proofs.Common.{◌-◌}
use Rattle.source_meaning.specs.State.{Setting}
use Rattle.source_interp.specs.Outside.{Outside}
use Rattle.source_interp.proofs.Acting.{Continues}
use Rattle.source_interp.proofs.Scanning.{all_of, scanned_behind}
use Rattle.source_interp.proofs.machine.Machine.scan_within.Given as goal

abbrev pub invariant-loop : goal.invariant-loop
invariant-loop l = (g : Setting) (o : Outside)
    → Continues g l.fn.self l.self o o (all_of l.fn.must_end l.fn.line l.fn.count l.fn.string)
    (scanned_behind l.fn.must_end l.fn.line l.bytes.items (l.fn.count - l.counter) l.pointer)
