use Rattle.std.proofs.Common.{◌≡◌, drop}
use Rattle.metadata_relation.specs.Steps.{are_covered_calls}
use Rattle.instruction_selection.proofs.covered.calls.are_covered_in.Given as goal

abbrev pub invariant-loop-i : goal.invariant-loop-i
invariant-loop-i l = are_covered_calls l.program l.type_number (drop l.i l.functions)
    ≡ are_covered_calls l.program l.type_number l.fn.functions
