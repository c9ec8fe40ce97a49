use Rattle.std.proofs.Common.{◌≡◌}
use Rattle.c_pre.specs.HideSets.{joined}
use Rattle.c_pre.specs.SharedSets.{names_of, IsKnown, Grows}
use Rattle.c_pre.proofs.hide_set.HideSets.joined.Given as goal

abbrev pub invariant-loop-name : goal.invariant-loop-name
invariant-loop-name l = record {
  same : joined (names_of l.fn.self l.fn.set) (names_of l.fn.self l.fn.other)
      ≡ joined (names_of l.fn.self l.rest) (names_of l.self l.made);
  rest : IsKnown l.fn.self l.rest;
  made : IsKnown l.self l.made;
  grows : Grows l.fn.self l.self;
}

abbrev pub decreases-loop-name : goal.decreases-loop-name
decreases-loop-name l = l.rest.number
