use Rattle.source_interp.proofs.Structures.{moves_bytes}
use Rattle.source_interp.proofs.machine.Machine.move_bytes.Goals as goal

pub returns : goal.returns
returns c g o =
    moves_bytes g c.args.self.now c.tally.new.self c.move_range.new.self o c.args.size c.args.to c.args.from
    c.move_range.result (c.tally.ensures g o) (c.move_range.ensures g o)
