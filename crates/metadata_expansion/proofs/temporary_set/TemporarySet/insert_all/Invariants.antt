use Rattle.std.proofs.Common.{◌≡◌, ◌/◌, ◌<◌, ◌≤◌, ◌||◌, ℕ}
use Rattle.metadata_expansion.specs.TemporarySets.{is_in, room}
use Rattle.metadata_expansion.proofs.temporary_set.TemporarySet.insert_all.Given as goal

abbrev pub invariant-loop-i : goal.invariant-loop-i
invariant-loop-i l = record {
  size : room l.self ≡ room l.fn.self;
  done : (y : ℕ) → y / 64 < l.i → is_in l.self y ≡ (is_in l.fn.self y || is_in l.other y);
  left : (y : ℕ) → l.i ≤ y / 64 → is_in l.self y ≡ is_in l.fn.self y;
}
