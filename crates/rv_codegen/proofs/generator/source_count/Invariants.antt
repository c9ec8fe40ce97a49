use Rattle.std.proofs.Common.{◌≡◌, ◌≤◌}
use Rattle.machine_laws.specs.Calls.Table.{program_end}
use Rattle.rv_codegen.proofs.generator.source_count.Given as goal

abbrev pub invariant-loop-number : goal.invariant-loop-number
invariant-loop-number l = (l.count ≡ program_end l.program l.number) × (l.count ≤ l.number)
