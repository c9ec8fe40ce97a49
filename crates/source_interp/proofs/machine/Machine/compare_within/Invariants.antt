use Rattle.std.proofs.Common.{◌-◌}
use Rattle.source_meaning.specs.State.{Setting}
use Rattle.source_interp.specs.Outside.{Outside}
use Rattle.source_interp.proofs.Acting.{Continues}
use Rattle.source_interp.proofs.Comparing.{comparing}
use Rattle.source_interp.proofs.machine.Machine.compare_within.Given as goal

abbrev pub invariant-loop : goal.invariant-loop
invariant-loop l = (g : Setting) (o : Outside)
    → Continues g l.fn.self l.self o o (comparing l.fn.line l.fn.count l.fn.left l.fn.right)
    (comparing l.fn.line (l.fn.count - l.counter) l.first l.second)
