use Rattle.std.proofs.Common.{◌≡◌, vec_len}
use Rattle.c_current_object.specs.CurrentObject.{next_in}
use Rattle.c_current_object.specs.Members.{lists_of}
use Rattle.c_current_object.proofs.current.next_in.Given as goal

abbrev pub invariant-loop-object : goal.invariant-loop-object
invariant-loop-object l =
    next_in l.structures (lists_of l.members) l.outer.items
    ≡ next_in l.structures (lists_of l.members) l.fn.levels.items

abbrev pub decreases-loop-object : goal.decreases-loop-object
decreases-loop-object l = vec_len l.outer
