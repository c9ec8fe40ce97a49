use Rattle.std.proofs.Common.{◌≡◌, ◌++◌}
use Rattle.metadata_plan.specs.Blocks.{argument_moves}
use Rattle.metadata_expansion.proofs.calls.put_arguments.Given as goal

abbrev pub invariant-loop-i : goal.invariant-loop-i
invariant-loop-i l =
    l.code.items
    ≡ l.initial.code.items ++ argument_moves l.context.function.now l.context.registers.now.free l.first l.i
