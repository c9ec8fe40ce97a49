use Rattle.std.proofs.Common.{◌≤◌}
use Rattle.std.specs.List.{AllAdjacentBelow}
use Rattle.reg_plan.proofs.lookup.is_in_order.Given as goal

abbrev pub invariant-loop-next : goal.invariant-loop-next
invariant-loop-next l = record {
  starts : AllAdjacentBelow (λ i j. i.start ≤ j.start) l.range l.next;
  ends : AllAdjacentBelow (λ i j. i.end ≤ j.end) l.range l.next;
}
