use Rattle.std.proofs.Common.{◌≡◌, ℕ, ◌^◌, ◌<◌, ◌≤◌, max, drop, get_or, length}
use Rattle.tac_ir.specs.Structures.{greatest_structure}
use Rattle.metadata_expansion.proofs.areas.greatest_structures.Given as goal

abbrev pub invariant-loop-instruction : goal.invariant-loop-instruction
invariant-loop-instruction l = record {
  size : length l.list.items ≡ l.count;
  few : (i : ℕ) → get_or l.list.items i 0 ≤ 2 ^ 65;
  each : (i : ℕ) → i < l.count
      → max (get_or l.list.items i 0) (greatest_structure l.program (drop l.instruction-index l.instructions) i)
      ≡ greatest_structure l.program l.fn.instructions i;
}
