use Rattle.std.proofs.Common.{◌≡◌, ◌+◌, ◌++◌, map, drop}
use Rattle.c_tree.specs.Blocks.{closed, opened}
use Rattle.source_interp.proofs.variables.opened.Given as goal

abbrev pub invariant-loop-i : goal.invariant-loop-i
invariant-loop-i l =
    l.all.items ++ opened l.numbers (l.first + l.i) (drop l.i l.variables) (map closed (drop l.i l.variables))
    ≡ opened l.fn.numbers l.fn.first l.fn.variables (map closed l.fn.variables)
