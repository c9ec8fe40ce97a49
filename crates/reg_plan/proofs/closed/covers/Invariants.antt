use Rattle.std.proofs.Common.{◌≡◌, drop}
use Rattle.reg_plan.specs.Accepted.{covers}
use Rattle.reg_plan.proofs.closed.covers.Given as goal

abbrev pub invariant-loop-interval : goal.invariant-loop-interval
invariant-loop-interval l = covers (drop l.interval-index l.range) l.place ≡ covers l.range l.place
