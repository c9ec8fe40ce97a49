use Rattle.std.proofs.Common.{}
use Rattle.source_interp.proofs.Heaping.{tallies_blocks}
use Rattle.source_interp.proofs.machine.Machine.tally_blocks.Goals as goal

pub returns-in-Some : goal.returns-in-Some
returns-in-Some c g o =
    tallies_blocks g o c.args.self.now c.tally.new.self c.count.result c.in-Some.work c.count.ensures
    c.in-Some.ensures (c.tally.ensures g o)
