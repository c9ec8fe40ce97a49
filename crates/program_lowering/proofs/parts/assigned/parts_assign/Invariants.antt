use Rattle.std.proofs.Common.{◌≡◌, map, drop}
use Rattle.c_tree.specs.View.{part_of}
use Rattle.c_tree.specs.Assigning.{parts_assign}
use Rattle.program_lowering.proofs.parts.assigned.parts_assign.Given as goal

abbrev pub invariant-loop-part : goal.invariant-loop-part
invariant-loop-part l = parts_assign l.x (map part_of (drop l.part-index l.parts))
    ≡ parts_assign l.fn.x (map part_of l.fn.parts)
