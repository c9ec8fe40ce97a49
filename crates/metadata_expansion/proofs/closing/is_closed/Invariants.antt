use Rattle.std.proofs.Common.{◌≡◌, ◌<◌, ℕ, true, Some}
use Rattle.std.specs.Prelude.{slice_get}
use Rattle.tac_ir.specs.declared.instruction.Instruction.{Instruction}
use Rattle.metadata_expansion.specs.ClosedSets.{in_sets, needs}
use Rattle.metadata_expansion.proofs.closing.is_closed.Given as goal

abbrev pub invariant-loop-node : goal.invariant-loop-node
invariant-loop-node g l =
    (n y : ℕ) (i : Instruction) → n < l.node → slice_get l.function.code n ≡ Some i
    → needs (g.U.TemporaryUse.reads l.program l.function) g.U.TemporaryUse.source (in_sets l.sets) i y ≡ true
    → in_sets l.sets n y ≡ true
