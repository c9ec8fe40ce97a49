use Rattle.std.proofs.Common.{◌≡◌, ◌++◌, length}
use Rattle.c_pre.specs.SharedSets.{names_of, IsKnown, Grows}
use Rattle.c_pre.proofs.hide_set.HideSets.set_of.Given as goal

abbrev pub invariant-loop-name : goal.invariant-loop-name
invariant-loop-name l = record {
  same : l.fn.names.items ≡ l.names.items ++ names_of l.self l.set;
  known : IsKnown l.self l.set;
  grows : Grows l.fn.self l.self;
}

abbrev pub decreases-loop-name : goal.decreases-loop-name
decreases-loop-name l = length l.names.items
