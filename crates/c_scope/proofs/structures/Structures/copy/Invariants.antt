use Rattle.std.proofs.Common.{◌≡◌, map, take}
use Rattle.c_scope.specs.Structures.{body_of}
use Rattle.c_scope.proofs.structures.Structures.copy.Given as goal

abbrev pub invariant-loop-body : goal.invariant-loop-body
invariant-loop-body l = map body_of l.bodies.items ≡ map body_of (take l.body-index l.body-items)
