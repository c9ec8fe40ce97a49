use Rattle.std.proofs.Common.{subst}
use Rattle.source_meaning.specs.Actions.{store}
use Rattle.source_interp.specs.Outside.{outside}
use Rattle.source_interp.specs.Standing.{Acts}
use Rattle.source_interp.proofs.Structures.{stores_array, stores_scalar, stores_structure, stores_void}
use Rattle.source_interp.proofs.machine.Machine.store_rvalue.Goals as goal

pub returns-in-Void : goal.returns-in-Void
returns-in-Void g c e w i =
    stores_void e c.args.self.now (outside w (g.T.Trace.noted c.args.trace.now) i) c.args.kind c.args.is_judged
    c.args.pointer c.args.line c.args.value.now c.in-Void.is

pub returns-in-Array : goal.returns-in-Array
returns-in-Array g c e w i =
    stores_array e c.args.self.now (outside w (g.T.Trace.noted c.args.trace.now) i) c.args.kind c.args.is_judged
    c.args.pointer c.args.line c.args.value.now _ c.in-Array.is

pub returns-in-Scalar : goal.returns-in-Scalar
returns-in-Scalar g c e w i =
    stores_scalar e c.args.self.now c.store.new.self (outside w (g.T.Trace.noted c.args.trace.now) i) (outside w
    (g.T.Trace.noted c.store.new.trace) i) c.args.kind c.args.is_judged c.args.pointer c.args.line c.args.value.now
    c.store.result c.in-Scalar.scalar c.in-Scalar.is (subst (λ y. Acts e c.args.self.now c.store.new.self (outside w
    (g.T.Trace.noted c.args.trace.now) i) (outside w (g.T.Trace.noted c.store.new.trace) i) c.store.result (store
    c.in-Scalar.scalar c.args.is_judged c.args.pointer c.args.line y)) c.value-stored.ensures (c.store.ensures e w i))

pub returns-in-Structure : goal.returns-in-Structure
returns-in-Structure g c e w i =
    stores_structure e c.args.self.now c.copy_value.new.self (outside w (g.T.Trace.noted c.args.trace.now) i) (outside w
    (g.T.Trace.noted c.args.trace.now) i) c.args.kind c.args.is_judged c.args.pointer c.args.line c.args.value.now
    c.copy_value.result c.in-Structure.size c.in-Structure.is (c.copy_value.ensures e (outside w (g.T.Trace.noted
    c.args.trace.now) i))
