use Rattle.std.proofs.Common.{drop}
use Rattle.source_meaning.specs.State.{Setting}
use Rattle.source_interp.specs.Outside.{Outside}
use Rattle.source_interp.proofs.Acting.{Continues}
use Rattle.source_interp.proofs.Burying.{without_all}
use Rattle.source_interp.proofs.machine.Machine.bury_all.Given as goal

abbrev pub invariant-loop-i : goal.invariant-loop-i
invariant-loop-i l = (g : Setting) (o : Outside)
    → Continues g l.fn.self l.self o o (without_all l.fn.homes) (without_all (drop l.i l.homes))
