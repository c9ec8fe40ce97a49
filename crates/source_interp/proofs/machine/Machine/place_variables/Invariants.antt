use Rattle.std.proofs.Common.{drop}
use Rattle.source_meaning.specs.State.{Setting}
use Rattle.source_meaning.specs.Blocks.{place_variables}
use Rattle.source_interp.specs.Outside.{Outside}
use Rattle.source_interp.proofs.Acting.{Continues}
use Rattle.source_interp.proofs.Entering.{placed_behind}
use Rattle.source_interp.proofs.machine.Machine.place_variables.Given as goal

abbrev pub invariant-loop-i : goal.invariant-loop-i
invariant-loop-i l = (g : Setting) (o : Outside)
    → Continues g l.fn.self l.self o o (place_variables l.fn.variables)
    (placed_behind l.homes (drop l.i l.variables))
