use Rattle.std.proofs.Common.{◌≡◌, map, drop}
use Rattle.c_tree.specs.View.{part_of}
use Rattle.c_room.specs.Contents.{with_contents}
use Rattle.c_room.proofs.statement.parts.Given as goal

abbrev pub invariant-loop-part : goal.invariant-loop-part
invariant-loop-part l =
    with_contents l.so_far (map (λ p. p.content) (map part_of (drop l.part-index l.trees)))
    ≡ with_contents l.fn.so_far (map (λ p. p.content) (map part_of l.fn.trees))
