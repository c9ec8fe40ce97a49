use Rattle.std.proofs.Common.{◌≡◌, ◌*◌, length}
use Rattle.metadata_expansion.specs.ClosedSets.{AreNone, HaveRoom, in_sets}
use Rattle.metadata_expansion.proofs.closing.empty_sets.Given as goal

abbrev pub invariant-loop : goal.invariant-loop
invariant-loop l = record {
  size : length l.sets.items ≡ l.counter;
  room : HaveRoom (64 * l.words) l.sets.items;
  none : AreNone (in_sets l.sets.items);
}
