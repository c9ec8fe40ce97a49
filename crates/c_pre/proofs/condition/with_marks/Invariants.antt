use Rattle.std.proofs.Common.{◌≡◌, ◌++◌, length}
use Rattle.c_pre.specs.Conditions.{marked_behind}
use Rattle.c_pre.specs.Outcomes.{macros_of}
use Rattle.c_pre.proofs.condition.with_marks.Given as goal

abbrev pub invariant-loop-rest : goal.invariant-loop-rest
invariant-loop-rest l = l.out.items ++ marked_behind 0 (macros_of l.macros) l.rest
    ≡ marked_behind 0 (macros_of l.macros) l.tokens

abbrev pub decreases-loop-rest : goal.decreases-loop-rest
decreases-loop-rest l = length l.rest
