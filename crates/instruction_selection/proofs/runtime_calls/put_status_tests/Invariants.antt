use Rattle.std.proofs.Common.{◌≡◌, ◌++◌, drop}
use Rattle.metadata_relation.specs.Blocks.{status_tests}
use Rattle.instruction_selection.proofs.runtime_calls.put_status_tests.Given as goal

abbrev pub invariant-loop-status : goal.invariant-loop-status
invariant-loop-status l = l.code.items ++ status_tests l.register l.line (drop l.status-index l.statuses)
    ≡ l.initial.code.items ++ status_tests l.fn.register l.fn.line l.fn.statuses
