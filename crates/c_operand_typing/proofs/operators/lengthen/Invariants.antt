use Rattle.std.proofs.Common.{◌≡◌, ◌+◌, ◌-◌, ◌++◌, length}
use Rattle.c_operand_typing.specs.Operators.{lengthened, unmarked}
use Rattle.c_operand_typing.proofs.operators.lengthen.Given as goal

abbrev pub invariant-loop-marks : goal.invariant-loop-marks
invariant-loop-marks l =
    l.marks.items ++ unmarked (l.number + 1 - length l.marks.items) ≡ lengthened (l.fn.number + 1) l.fn.marks.items

abbrev pub decreases-loop-marks : goal.decreases-loop-marks
decreases-loop-marks l = l.number + 1 - length l.marks.items
