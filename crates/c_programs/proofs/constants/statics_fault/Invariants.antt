use Rattle.std.proofs.Common.{◌≡◌, map, drop}
use Rattle.c_tree.specs.View.{static_of}
use Rattle.c_const.specs.View.{pointers_of}
use Rattle.c_const.specs.Initializers.{statics_fault}
use Rattle.c_programs.proofs.constants.statics_fault.Given as goal

abbrev pub invariant-loop-object : goal.invariant-loop-object
invariant-loop-object l =
    statics_fault (pointers_of l.pointers) (map static_of (drop l.object-index l.statics))
    ≡ statics_fault (pointers_of l.fn.pointers) (map static_of l.fn.statics)
