use Rattle.std.proofs.Common.{drop}
use Rattle.program_lowering.specs.StatementCode.Code.{LabelsCode}
use Rattle.program_lowering.proofs.statements.labels.test_labels.Given as goal

abbrev pub invariant-loop-i : goal.invariant-loop-i
invariant-loop-i l = LabelsCode l.fn.code l.code (drop l.i l.labels) l.item l.node l.next
