use Rattle.source_interp.proofs.Least.{points}
use Rattle.source_interp.proofs.machine.Machine.pointer_to.Goals as goal

pub returns-in-Some : goal.returns-in-Some
returns-in-Some c g o = points g o c.args.self.now c.args.number c.in-Some.pointer c.in-Some.ensures
