use Rattle.std.proofs.Common.{◌≡◌, drop}
use Rattle.c_scope.specs.Environment.{environment_of}
use Rattle.c_scope.specs.Start.{with_routines}
use Rattle.c_scope.proofs.environment.Environment.add_routines.Given as goal

abbrev pub invariant-loop-routine : goal.invariant-loop-routine
invariant-loop-routine l =
    with_routines (drop l.routine-index l.routines) (environment_of l.self)
    ≡ with_routines l.fn.routines (environment_of l.fn.self)
