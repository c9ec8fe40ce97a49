use Rattle.std.proofs.Common.{◌≡◌, map, drop}
use Rattle.c_tree.specs.Room.{structure_bytes}
use Rattle.c_tree.specs.Tree.{expressions_in, kinds_of}
use Rattle.c_tree.specs.View.{expression_of}
use Rattle.c_room.specs.Numbers.{fitting, with_structures}
use Rattle.c_room.proofs.expression.call_bytes.Given as goal

abbrev pub invariant-loop-argument : goal.invariant-loop-argument
invariant-loop-argument l =
    with_structures l.bytes (kinds_of (expressions_in (map expression_of (drop l.argument-index l.arguments))))
    ≡ with_structures (fitting (structure_bytes l.fn.kind))
    (kinds_of (expressions_in (map expression_of l.fn.arguments)))
