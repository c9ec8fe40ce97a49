use Rattle.std.proofs.Common.{ap, ◌∙◌}
use Rattle.source_meaning.specs.Structures.{rvalue}
use Rattle.source_interp.proofs.Takes.{zero_array, zero_other, zero_scalar, zero_void}
use Rattle.source_interp.proofs.machine.Machine.zero_of.Goals as goal

pub returns-in-Structure : goal.returns-in-Structure
returns-in-Structure c g o =
    zero_other g c.args.self.now o c.args.kind c.in-Structure.size _ c.in-Structure.is (c.zero_structure.ensures g o)

pub returns-in-Void : goal.returns-in-Void
returns-in-Void c g o =
    zero_void g c.args.self.now o c.args.kind c.plain.result c.in-Void.is (c.plain.ensures ∙ ap rvalue
    c.integer.ensures)

pub returns-in-Scalar : goal.returns-in-Scalar
returns-in-Scalar c g o =
    zero_scalar g c.args.self.now o c.args.kind _ c.plain-in-Scalar.result c.in-Scalar.is
    (c.plain-in-Scalar.ensures ∙ ap rvalue c.integer-in-Scalar.ensures)

pub returns-in-Array : goal.returns-in-Array
returns-in-Array c g o =
    zero_array g c.args.self.now o c.args.kind _ c.plain-in-Array.result c.in-Array.is
    (c.plain-in-Array.ensures ∙ ap rvalue c.integer-in-Array.ensures)
