use Rattle.std.proofs.Common.{◌≡◌, ◌/◌, ◌<◌, ℕ, true}
use Rattle.metadata_expansion.specs.TemporarySets.{is_in}
use Rattle.metadata_expansion.proofs.temporary_set.TemporarySet.is_within.Given as goal

abbrev pub invariant-loop-i : goal.invariant-loop-i
invariant-loop-i l = (y : ℕ) → y / 64 < l.i → is_in l.self y ≡ true → is_in l.other y ≡ true
