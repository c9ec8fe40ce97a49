use Rattle.std.proofs.Common.{◌≡◌, ◌≤◌, map, drop, length, None}
use Rattle.c_scope.specs.Names.{found, names_of}
use Rattle.c_scope.proofs.names.found.Given as goal

abbrev pub invariant-loop-count : goal.invariant-loop-count
invariant-loop-count g l =
    record {
      within : l.count ≤ length l.scopes;
      not_inside : found l.name (map names_of (drop l.count l.scopes)) ≡ None;
    }

abbrev pub decreases-loop-count : goal.decreases-loop-count
decreases-loop-count g l = l.count
