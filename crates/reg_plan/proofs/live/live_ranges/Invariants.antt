use Rattle.std.proofs.Common.{◌≡◌, ◌<◌, ℕ, true, length}
use Rattle.std.specs.Prelude.{slice_get}
use Rattle.data_flow.specs.NodeSets.{node_count}
use Rattle.reg_plan.specs.Needs.{IsNeeded}
use Rattle.reg_plan.specs.Accepted.{covers, intervals_of}
use Rattle.reg_plan.proofs.live.live_ranges.Given as goal

abbrev pub invariant-loop-register : goal.invariant-loop-register
invariant-loop-register l = record {
  size : length l.ranges.items ≡ l.register;
  needed : (pc y : ℕ) → y < l.register → IsNeeded l.program l.function l.body pc y
      → covers (intervals_of (slice_get l.ranges.items y)) pc ≡ true;
  only : (pc y : ℕ) → covers (intervals_of (slice_get l.ranges.items y)) pc ≡ true
      → IsNeeded l.program l.function l.body pc y;
  begun_size : node_count l.begun ≡ length l.body;
  killing_size : node_count l.killing ≡ length l.body;
}
