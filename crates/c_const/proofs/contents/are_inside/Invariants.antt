use Rattle.std.proofs.Common.{◌≡◌, map, drop}
use Rattle.std.specs.List.{list_all}
use Rattle.c_tree.specs.View.{part_of}
use Rattle.c_const.specs.Contents.{is_inside}
use Rattle.c_const.proofs.contents.are_inside.Given as goal

abbrev pub invariant-loop-part : goal.invariant-loop-part
invariant-loop-part l =
    list_all (is_inside l.size) (map part_of (drop l.part-index l.parts))
    ≡ list_all (is_inside l.fn.size) (map part_of l.fn.parts)
