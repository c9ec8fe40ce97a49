use Rattle.std.proofs.Common.{◌≡◌, map, take}
use Rattle.c_scope.specs.Names.{names_of}
use Rattle.c_scope.proofs.names.Scopes.copy.Given as goal

abbrev pub invariant-loop-names : goal.invariant-loop-names
invariant-loop-names g l = map names_of l.outer.items ≡ map names_of (take l.names-index l.names-items)
