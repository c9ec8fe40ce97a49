use Rattle.std.proofs.Common.{drop, List, ℕ}
use Rattle.std.specs.Prelude.{Option}
use Rattle.source_meaning.specs.State.{Setting}
use Rattle.source_meaning.specs.Calls.{write_parameters}
use Rattle.source_interp.specs.Outside.{outside}
use Rattle.source_interp.proofs.Acting.{Continues}
use Rattle.source_interp.proofs.machine.Machine.write_parameters.Given as goal

abbrev pub invariant-loop-i : goal.invariant-loop-i
invariant-loop-i g l = (e : Setting) (w : Option (List ℕ)) (i : List ℕ)
    → Continues e l.fn.self l.self (outside w (g.T.Trace.noted l.fn.trace) i) (outside w (g.T.Trace.noted l.trace) i)
    (write_parameters l.fn.parameters l.fn.homes l.fn.line l.fn.arguments)
    (write_parameters (drop l.i l.parameters) (drop l.i l.homes) l.line (drop l.i l.arguments))
