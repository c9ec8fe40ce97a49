use Rattle.std.proofs.Common.{ap, ◌∙◌}
use Rattle.source_meaning.specs.Structures.{rvalue}
use Rattle.source_interp.proofs.Structures.{array_part, other_part, structure_part, void_part}
use Rattle.source_interp.proofs.structure.part.Goals as goal

pub returns-in-Void : goal.returns-in-Void
returns-in-Void c m x same g o =
    void_part g m o c.args.kind _ x c.plain.result c.in-Void.is (c.plain.ensures ∙ ap rvalue c.integer.ensures)

pub returns-in-Array : goal.returns-in-Array
returns-in-Array c m x same g o =
    array_part g m o c.args.kind _ x _ c.plain-in-Array.result c.in-Array.is (c.plain-in-Array.ensures ∙ ap rvalue c.integer-in-Array.ensures)

pub returns-in-Structure : goal.returns-in-Structure
returns-in-Structure c m x same g o = structure_part g m o c.args.kind _ x _ c.in-Structure.is same

pub returns-in-Scalar : goal.returns-in-Scalar
returns-in-Scalar c m x same g o =
    other_part g m o c.args.kind _ x c.in-Scalar.scalar _ c.in-Scalar.is (c.scalar_part.ensures m x same g o)
