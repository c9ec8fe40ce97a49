use Rattle.std.proofs.Common.{◌+◌, length, ◌&&◌, take}
use Rattle.std.specs.Prelude.{nat_lt}
use Rattle.reg_plan.specs.Accepted.{covers}
use Rattle.reg_plan.specs.Saves.Saves.{PutsWhere}
use Rattle.reg_plan.proofs.call_saves.rows.put_range.Given as goal

abbrev pub invariant-loop-interval : goal.invariant-loop-interval
invariant-loop-interval l =
    PutsWhere l.body l.initial.rows.items l.rows.items l.register
    (λ pc. nat_lt (pc + 1) (length l.body) && covers (take l.interval-index l.range) (pc + 1))
