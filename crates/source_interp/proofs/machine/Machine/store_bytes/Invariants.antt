use Rattle.std.proofs.Common.{◌+◌, drop, List, ℕ}
use Rattle.std.specs.Prelude.{Option}
use Rattle.source_meaning.specs.State.{Setting}
use Rattle.source_meaning.specs.Initializers.{store_bytes}
use Rattle.source_interp.specs.Outside.{outside}
use Rattle.source_interp.proofs.Acting.{Continues}
use Rattle.source_interp.proofs.machine.Machine.store_bytes.Given as goal

abbrev pub invariant-loop-i : goal.invariant-loop-i
invariant-loop-i g l = (e : Setting) (w : Option (List ℕ)) (i : List ℕ)
    → Continues e l.fn.self l.self (outside w (g.T.Trace.noted l.fn.trace) i) (outside w (g.T.Trace.noted l.trace) i)
    (store_bytes l.object l.fn.offset l.fn.bytes) (store_bytes l.object (l.offset + l.i) (drop l.i l.bytes))
