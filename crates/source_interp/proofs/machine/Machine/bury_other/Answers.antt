use Rattle.std.proofs.Common.{refl}
use Rattle.source_interp.proofs.Burying.{buries_other}
use Rattle.source_interp.proofs.machine.Machine.bury_other.Goals as goal

pub returns : goal.returns
returns c is g o =
    buries_other g o c.args.self.now (record c.args.self.now { store = c.bury.new.self }) c.args.number is
    c.bury.ensures refl
