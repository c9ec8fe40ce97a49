use Rattle.std.proofs.Common.{refl}
use Rattle.source_interp.proofs.Stacked.{adds_object}
use Rattle.source_interp.proofs.machine.Machine.add_object.Goals as goal

pub returns : goal.returns
returns c g o =
    adds_object g o c.args.self.now (record c.args.self.now { store = c.add.new.self }) c.args.address c.args.size
    c.in_ok-number.number c.in_ok-number.ensures.number c.in_ok-number.ensures.added refl
