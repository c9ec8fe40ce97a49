use Rattle.std.proofs.Common.{}
use Rattle.source_interp.proofs.BytePairs.{compares}
use Rattle.source_interp.proofs.machine.Machine.compare_at.Goals as goal

pub returns-in-Some : goal.returns-in-Some
returns-in-Some c g o =
    compares g o c.args.self.now c.tally.new.self c.args.size c.args.left c.args.right c.in-Some.found.work
    c.in-Some.found.order c.in-Some.ensures.left c.in-Some.ensures.right c.in-Some.ensures.work
    c.in-Some.ensures.order (c.tally.ensures g o)
