use Rattle.std.proofs.Common.{◌≡◌, ◌++◌, drop, map, length}
use Rattle.c_tree.specs.View.{static_of}
use Rattle.c_programs.specs.Statics.{finished}
use Rattle.c_programs.proofs.statics.finish.Given as goal

abbrev pub invariant-loop-number : goal.invariant-loop-number
invariant-loop-number l =
    (map static_of l.objects.items ++ finished (drop l.number l.found.items) (drop l.number l.parts.items)
    ≡ finished l.fn.found.items l.fn.parts.items)
    × (length l.found.items ≡ l.count)
