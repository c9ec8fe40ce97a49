use Rattle.std.proofs.Common.{◌≡◌, ◌++◌, length}
use Rattle.c_unit_typing.specs.Programs.{parameter_kinds}
use Rattle.c_programs.proofs.kinds.parameter_kinds.Given as goal

abbrev pub invariant-loop-kinds : goal.invariant-loop-kinds
invariant-loop-kinds l =
    l.kinds.items ++ parameter_kinds l.structures 0 l.rest ≡ parameter_kinds l.fn.structures 0 l.fn.words

abbrev pub decreases-loop-kinds : goal.decreases-loop-kinds
decreases-loop-kinds l = length l.rest
