use Rattle.std.proofs.Common.{◌≡◌, ◌-◌}
use Rattle.c_current_object.specs.CurrentObject.{most_levels, reached_in}
use Rattle.c_current_object.specs.Members.{lists_of}
use Rattle.c_current_object.proofs.current.CurrentObject.reached.Given as goal

abbrev pub invariant-loop-level : goal.invariant-loop-level
invariant-loop-level l =
    reached_in l.structures (lists_of l.members) (most_levels - l._level) l.filler l.current
    ≡ reached_in l.structures (lists_of l.members) most_levels l.filler l.fn.self
