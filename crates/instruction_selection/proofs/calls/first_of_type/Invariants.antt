use Rattle.std.proofs.Common.{◌≡◌, ◌+◌, drop}
use Rattle.metadata_relation.specs.FunctionTypes.{first_of_type}
use Rattle.instruction_selection.proofs.calls.first_of_type.Given as goal

abbrev pub invariant-loop-i : goal.invariant-loop-i
invariant-loop-i l = l.i + first_of_type (drop l.i l.functions) l.type_number ≡ first_of_type l.fn.functions l.type_number
