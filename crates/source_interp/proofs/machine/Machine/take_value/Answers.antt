use Rattle.source_interp.proofs.Takes.{take_array, take_scalar, take_structure, take_void}
use Rattle.source_interp.proofs.machine.Machine.take_value.Goals as goal

pub returns-in-Structure : goal.returns-in-Structure
returns-in-Structure c g o =
    take_structure g _ _ o c.args.kind c.args.line _ c.in-Structure.size _ c.in-Structure.is (c.taken.ensures g o)

pub returns-in-Void : goal.returns-in-Void
returns-in-Void c g o = take_void g _ o c.args.kind c.args.line _ c.in-Void.is

pub returns-in-Scalar : goal.returns-in-Scalar
returns-in-Scalar c g o = take_scalar g _ o c.args.kind c.args.line _ _ c.in-Scalar.is

pub returns-in-Array : goal.returns-in-Array
returns-in-Array c g o = take_array g _ o c.args.kind c.args.line _ _ c.in-Array.is
