use Rattle.std.proofs.Common.{◌≡◌, ◌+◌, ◌^◌, ◌≤◌, drop}
use Rattle.metadata_relation.specs.Registers.{total}
use Rattle.program_expansion.specs.Limits.{padded_size}
use Rattle.program_expansion.proofs.sizes.few_bytes.Given as goal

abbrev pub invariant-loop-variable : goal.invariant-loop-variable
invariant-loop-variable l =
    (l.sum + total padded_size (drop l.variable-index l.variables) ≡ total padded_size l.variables) × (l.sum ≤ 2 ^ 62)
