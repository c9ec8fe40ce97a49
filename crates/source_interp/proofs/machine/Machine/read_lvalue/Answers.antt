use Rattle.source_interp.specs.Outside.{outside}
use Rattle.source_interp.proofs.Structures.{read_array, read_scalar_kind, read_structure_kind, read_void}
use Rattle.source_interp.proofs.machine.Machine.read_lvalue.Goals as goal

pub returns-in-Void : goal.returns-in-Void
returns-in-Void g c e w i =
    read_void e c.args.self.now (outside w (g.T.Trace.noted c.args.trace.now) i) c.args.kind c.args.is_judged
    c.args.pointer c.args.line c.in-Void.is

pub returns-in-Array : goal.returns-in-Array
returns-in-Array g c e w i =
    read_array e c.args.self.now (outside w (g.T.Trace.noted c.args.trace.now) i) c.args.kind c.args.is_judged
    c.args.pointer c.args.line _ c.in-Array.is

pub returns-in-Scalar : goal.returns-in-Scalar
returns-in-Scalar g c e w i =
    read_scalar_kind e _ _ _ _ c.args.kind c.args.is_judged c.args.pointer c.args.line c.in-Scalar.scalar _
    c.in-Scalar.is (c.load.ensures e w i)

pub returns-in-Structure : goal.returns-in-Structure
returns-in-Structure g c e w i =
    read_structure_kind e _ _ _ _ c.args.kind c.args.is_judged c.args.pointer c.args.line c.in-Structure.size _
    c.in-Structure.is (c.load_structure.ensures e (outside w (g.T.Trace.noted c.args.trace.now) i))
