use Rattle.std.proofs.Common.{◌≡◌, ◌+◌, ◌++◌, drop, map}
use Rattle.c_tree.specs.Blocks.{closed, opened}
use Rattle.instruction_selection.proofs.blocks.put_opened.Given as goal

abbrev pub invariant-loop-i : goal.invariant-loop-i
invariant-loop-i l = l.list.items ++ opened l.numbers (l.first + l.i) (drop l.i l.variables) (map closed (drop l.i l.variables))
    ≡ l.initial.list.items ++ opened l.fn.numbers l.fn.first l.fn.variables (map closed l.fn.variables)
