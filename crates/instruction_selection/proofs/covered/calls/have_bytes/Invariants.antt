use Rattle.std.proofs.Common.{◌≡◌, drop}
use Rattle.metadata_relation.specs.Steps.{have_bytes}
use Rattle.instruction_selection.proofs.covered.calls.have_bytes.Given as goal

abbrev pub invariant-loop-i : goal.invariant-loop-i
invariant-loop-i l = have_bytes (drop l.i l.pieces) ≡ have_bytes l.fn.pieces
