use Rattle.std.proofs.Common.{◌≡◌, ◌++◌, map, drop}
use Rattle.c_tree.specs.View.{static_of}
use Rattle.c_lower.specs.Programs.{literals_of}
use Rattle.program_lowering.proofs.programs.program.literals.Given as goal

abbrev pub invariant-loop-object : goal.invariant-loop-object
invariant-loop-object l =
    l.literals.items ++ literals_of (map static_of (drop l.object-index l.statics))
    ≡ literals_of (map static_of l.fn.statics)
