use Rattle.std.proofs.Common.{◌≡◌, ℕ, ◌||◌}
use Rattle.metadata_plan.specs.Entries.{is_among}
use Rattle.metadata_expansion.specs.TemporarySets.{is_in, room}
use Rattle.metadata_expansion.proofs.closing.insert_among.Given as goal

abbrev pub invariant-loop-i : goal.invariant-loop-i
invariant-loop-i l = record {
  size : room l.set ≡ room l.fn.set;
  more : (y : ℕ) → is_in l.set y ≡ (is_in l.fn.set y || is_among l.first l.i y);
}
