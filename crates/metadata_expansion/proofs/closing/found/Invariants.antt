use Rattle.std.proofs.Common.{◌≡◌, ◌*◌, length}
use Rattle.metadata_expansion.specs.ClosedSets.{AreNone, HaveRoom, ReadsNone, in_sets}
use Rattle.metadata_expansion.proofs.closing.found.Given as goal

abbrev pub invariant-loop-node : goal.invariant-loop-node
invariant-loop-node g l = record {
  size : length l.sets.items ≡ length l.function.code;
  room : HaveRoom (64 * l.words) l.sets.items;
  none : ReadsNone (g.U.TemporaryUse.reads l.program l.function) l.function → AreNone (in_sets l.sets.items);
}
