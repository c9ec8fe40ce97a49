use Rattle.std.proofs.Common.{Some, None, refl}
use Rattle.source_interp.proofs.Zeroing.{zeroes_home, zeroes_nothing}
use Rattle.source_interp.proofs.machine.Machine.zero_variable.Goals as goal

pub returns-in-Some : goal.returns-in-Some
returns-in-Some c g o =
    zeroes_home g o c.args.self.now c.zero_object.new.self c.args.variable (Some c.in-Some.number) c.in-Some.ensures
    c.in-Some.number c.zero_object.result refl (c.zero_object.ensures g o)

pub returns-in-None : goal.returns-in-None
returns-in-None c g o = zeroes_nothing g o c.args.self.now c.args.variable None c.in-None.ensures refl
