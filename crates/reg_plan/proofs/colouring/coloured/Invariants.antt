use Rattle.std.proofs.Common.{◌≡◌, length}
use Rattle.reg_plan.specs.Occupied.{IsColouring}
use Rattle.reg_plan.proofs.colouring.coloured.Given as goal

abbrev pub invariant-loop-next : goal.invariant-loop-next
invariant-loop-next l = record {
  colouring : IsColouring l.ranges l.places.items l.used.items;
  size : length l.places.items ≡ l.next;
}
