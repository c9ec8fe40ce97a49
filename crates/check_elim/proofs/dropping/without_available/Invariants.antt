use Rattle.std.proofs.Common.{◌≡◌, ◌<◌, ℕ, Some, length}
use Rattle.std.specs.Prelude.{slice_get}
use Rattle.tac_ir.specs.declared.instruction.Instruction.{Instruction}
use Rattle.check_elim.specs.Available.{IsAvailableCheck}
use Rattle.check_elim.specs.Dropped.{DroppedAt}
use Rattle.check_elim.specs.Worklists.{IsWorklist}
use Rattle.check_elim.proofs.dropping.without_available.Given as goal

abbrev pub invariant-loop-node : goal.invariant-loop-node
invariant-loop-node l = record {
  list : IsWorklist (length l.function.code) l.visited;
  size : length l.code.items ≡ l.node;
  code : (n : ℕ) (i : Instruction) → n < l.node → slice_get l.function.code n ≡ Some i
      → DroppedAt IsAvailableCheck l.function l.code.items n i;
}
