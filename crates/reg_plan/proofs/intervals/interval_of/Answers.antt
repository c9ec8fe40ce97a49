use Rattle.reg_plan.proofs.Ranges.{whole_same}
use Rattle.reg_plan.proofs.intervals.interval_of.Goals as goal

pub returns : goal.returns
returns c pc = whole_same c.args.run.first c.args.run.last pc
