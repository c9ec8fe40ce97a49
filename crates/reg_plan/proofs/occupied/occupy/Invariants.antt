use Rattle.std.proofs.Common.{◌≡◌, ◌||◌, ℕ, take}
use Rattle.reg_plan.specs.Accepted.{covers}
use Rattle.reg_plan.specs.Occupied.{AreSpread}
use Rattle.reg_plan.proofs.occupied.occupy.Given as goal

abbrev pub invariant-loop-interval : goal.invariant-loop-interval
invariant-loop-interval l = record {
  spread : AreSpread l.used.items;
  covers : (pc : ℕ) → covers l.used.items pc
      ≡ (covers l.initial.used.items pc || covers (take l.interval-index l.range) pc);
}
