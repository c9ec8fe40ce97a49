use Rattle.std.proofs.Common.{subst}
use Rattle.c_tree.specs.declared.expression.Kind.TheVariants.{Scalar as OfScalar}
use Rattle.source_meaning.specs.Actions.{write_lvalue}
use Rattle.source_meaning.specs.Structures.{as_rvalue}
use Rattle.source_interp.specs.Standing.{Acts}
use Rattle.source_interp.specs.Outside.{outside}
use Rattle.source_interp.proofs.Structures.{wrote_array, wrote_scalar, wrote_structure, wrote_void}
use Rattle.source_interp.proofs.machine.Machine.write_rvalue.Goals as goal

pub returns-in-Void : goal.returns-in-Void
returns-in-Void g c e w i =
    wrote_void e c.args.self.now (outside w (g.T.Trace.noted c.args.trace.now) i) c.args.kind c.args.is_judged
    c.args.pointer c.args.line _ c.in-Void.is

pub returns-in-Array : goal.returns-in-Array
returns-in-Array g c e w i =
    wrote_array e c.args.self.now (outside w (g.T.Trace.noted c.args.trace.now) i) c.args.kind c.args.is_judged
    c.args.pointer c.args.line _ _ c.in-Array.is

pub returns-in-Scalar : goal.returns-in-Scalar
returns-in-Scalar g c e w i =
    wrote_scalar e _ _ _ _ c.args.kind c.args.is_judged c.args.pointer c.args.line _ _ c.in-Scalar.scalar c.in-Scalar.is
    (subst (λ y. Acts e c.args.self.now c.write_scalar_value.new.self (outside w (g.T.Trace.noted c.args.trace.now) i)
    (outside w (g.T.Trace.noted c.write_scalar_value.new.trace) i) c.write_scalar_value.result (as_rvalue (write_lvalue
    (OfScalar c.in-Scalar.scalar) c.args.is_judged c.args.pointer c.args.line y))) c.value-stored.ensures
    (c.write_scalar_value.ensures e w i))

pub returns-in-Structure : goal.returns-in-Structure
returns-in-Structure g c e w i =
    wrote_structure e _ _ _ _ c.args.kind c.args.is_judged c.args.pointer c.args.line _ _ c.in-Structure.size
    c.in-Structure.is (c.write_structure.ensures e (outside w (g.T.Trace.noted c.args.trace.now) i))
