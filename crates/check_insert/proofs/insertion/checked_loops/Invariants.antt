use Rattle.std.proofs.Common.{◌≡◌, ◌++◌, drop}
use Rattle.std.specs.Prelude.{map}
use Rattle.check_insert.specs.Building.{with_added_at}
use Rattle.check_insert.proofs.insertion.checked_loops.Given as goal

abbrev pub invariant-loop-counted : goal.invariant-loop-counted
invariant-loop-counted l =
    l.all.items ++ map (with_added_at l.places l.end) (drop l.counted-index l.loops)
    ≡ map (with_added_at l.fn.places l.fn.end) l.fn.loops
