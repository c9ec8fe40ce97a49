use Rattle.target_limits.proofs.Planning.{AreMarked}
use Rattle.target_limits.proofs.plannable.homes_stand.Given as goal

abbrev pub invariant-loop-i : goal.invariant-loop-i
invariant-loop-i l = AreMarked l.homes l.i l.seen.items
