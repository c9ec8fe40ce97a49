use Rattle.std.proofs.Common.{◌≡◌, take}
use Rattle.c_scope.specs.Names.{names_of}
use Rattle.c_scope.proofs.names.Names.copy.Given as goal

abbrev pub invariant-loop-at : goal.invariant-loop-at
invariant-loop-at g l = names_of l.same ≡ take l.at (names_of l.self)
