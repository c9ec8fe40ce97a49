use Rattle.std.proofs.Common.{◌≡◌, ◌≤◌, ◌||◌, ℕ}
use Rattle.reg_plan.specs.Accepted.{holds, covers}
use Rattle.reg_plan.specs.Occupied.{AreSpread}
use Rattle.reg_plan.proofs.Spreading.{so_far}
use Rattle.reg_plan.proofs.occupied.occupy_places.Given as goal

abbrev pub invariant-loop-place : goal.invariant-loop-place
invariant-loop-place l = record {
  spread : AreSpread l.used.items;
  covers : (pc : ℕ) → covers l.used.items pc
      ≡ (covers l.initial.used.items pc || holds (so_far l.fn.interval.start l.place) pc);
  begins : l.fn.interval.start ≤ l.place;
}
