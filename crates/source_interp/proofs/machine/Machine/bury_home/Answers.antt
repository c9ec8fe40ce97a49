use Rattle.source_interp.proofs.Burying.{buries_none, buries_some}
use Rattle.source_interp.proofs.machine.Machine.bury_home.Goals as goal

pub returns-in-Some : goal.returns-in-Some
returns-in-Some c g o =
    buries_some g o c.args.self.now c.bury.new.self c.args.home c.in-Some.number c.bury.result c.in-Some.is
    (c.bury.ensures g o)

pub returns-in-None : goal.returns-in-None
returns-in-None c g o = buries_none g o c.args.self.now c.args.home c.in-None.is
