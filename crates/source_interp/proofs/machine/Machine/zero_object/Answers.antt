use Rattle.source_interp.proofs.Zeroing.{zeroes}
use Rattle.source_interp.proofs.machine.Machine.zero_object.Goals as goal

pub returns : goal.returns
returns c g o =
    zeroes g o c.args.self.now c.tally.new.self c.clear_object.new.self c.args.number c.size-size.result
    c.clear_object.result c.size-size.ensures (c.tally.ensures g o) (c.clear_object.ensures g o)
