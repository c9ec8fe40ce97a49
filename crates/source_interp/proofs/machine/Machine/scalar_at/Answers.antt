use Rattle.source_interp.proofs.Accesses.{finds}
use Rattle.source_interp.proofs.machine.Machine.scalar_at.Goals as goal

pub returns-in-Some : goal.returns-in-Some
returns-in-Some c g o = finds g o c.args.self.now c.args.scalar c.args.place c.in-Some.value c.in-Some.ensures
