use Rattle.std.proofs.Common.{◌≡◌, map, drop}
use Rattle.c_tree.specs.View.{part_of}
use Rattle.c_const.specs.View.{pointers_of}
use Rattle.c_const.specs.Initializers.{parts_fault}
use Rattle.c_programs.proofs.constants.parts_fault.Given as goal

abbrev pub invariant-loop-part : goal.invariant-loop-part
invariant-loop-part l =
    parts_fault (pointers_of l.pointers) (map part_of (drop l.part-index l.parts))
    ≡ parts_fault (pointers_of l.fn.pointers) (map part_of l.fn.parts)
