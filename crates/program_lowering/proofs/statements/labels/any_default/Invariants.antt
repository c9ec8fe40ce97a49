use Rattle.std.proofs.Common.{◌≡◌, drop}
use Rattle.c_lower.specs.Statements.{any_default}
use Rattle.program_lowering.proofs.statements.labels.any_default.Given as goal

abbrev pub invariant-loop-label : goal.invariant-loop-label
invariant-loop-label l = any_default (drop l.label-index l.labels) ≡ any_default l.fn.labels
