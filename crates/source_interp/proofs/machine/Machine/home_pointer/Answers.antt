use Rattle.source_interp.proofs.Least.{points_some_home}
use Rattle.source_interp.proofs.machine.Machine.home_pointer.Goals as goal

pub returns-in-Some : goal.returns-in-Some
returns-in-Some c g o =
    points_some_home g o c.args.self.now c.args.variable c.in-Some.number c.pointer_to.result c.in-Some.ensures
    (c.pointer_to.ensures g o)
