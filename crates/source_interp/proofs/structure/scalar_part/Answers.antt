use Rattle.source_interp.proofs.Structures.{scalar_part}
use Rattle.source_interp.proofs.structure.scalar_part.Goals as goal

pub returns-in-Some : goal.returns-in-Some
returns-in-Some c m x same g o =
    scalar_part g m o c.args.scalar c.args.from.now.value x c.in-Some.value c.plain.result (c.in-Some.ensures x same)
    c.plain.ensures
