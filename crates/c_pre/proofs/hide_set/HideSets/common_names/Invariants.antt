use Rattle.std.proofs.Common.{◌≡◌, ◌++◌}
use Rattle.c_pre.specs.HideSets.{common}
use Rattle.c_pre.specs.SharedSets.{names_of, IsKnown}
use Rattle.c_pre.proofs.hide_set.HideSets.common_names.Given as goal

abbrev pub invariant-loop-name : goal.invariant-loop-name
invariant-loop-name l = record {
  same : common (names_of l.self l.fn.set) (names_of l.self l.other)
      ≡ l.kept.items ++ common (names_of l.self l.rest) (names_of l.self l.other);
  known : IsKnown l.self l.rest;
}

abbrev pub decreases-loop-name : goal.decreases-loop-name
decreases-loop-name l = l.rest.number
