use Rattle.std.proofs.Common.{◌≡◌}
use Rattle.c_pre.specs.Names.{member}
use Rattle.c_pre.specs.SharedSets.{names_of, IsKnown}
use Rattle.c_pre.proofs.hide_set.HideSets.contains.Given as goal

abbrev pub invariant-loop-first : goal.invariant-loop-first
invariant-loop-first l = record {
  same : member l.name (names_of l.self l.fn.set) ≡ member l.name (names_of l.self l.rest);
  known : IsKnown l.self l.rest;
}

abbrev pub decreases-loop-first : goal.decreases-loop-first
decreases-loop-first l = l.rest.number
