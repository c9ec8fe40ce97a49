use Rattle.c_pre.specs.SharedSets.{names_of, IsKnown}
use Rattle.c_pre.proofs.Sets.{Includes}
use Rattle.c_pre.proofs.hide_set.HideSets.is_within.Given as goal

-- what the set that is reached has, the other has
abbrev pub invariant-loop-rest : goal.invariant-loop-rest
invariant-loop-rest l = record {
  has : Includes (names_of l.self l.set) (names_of l.self l.rest)
      → Includes (names_of l.self l.set) (names_of l.self l.fn.other);
  known : IsKnown l.self l.rest;
}

abbrev pub decreases-loop-rest : goal.decreases-loop-rest
decreases-loop-rest l = l.rest.number
