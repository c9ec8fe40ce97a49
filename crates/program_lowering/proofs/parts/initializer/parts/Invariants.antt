use Rattle.std.proofs.Common.{map, drop}
use Rattle.c_tree.specs.View.{part_of}
use Rattle.program_lowering.specs.StatementParts.Code.{PartsCode}
use Rattle.program_lowering.proofs.parts.initializer.parts.Given as goal

abbrev pub invariant-loop-i : goal.invariant-loop-i
invariant-loop-i l = PartsCode l.fn.code l.code l.variable (map part_of (drop l.i l.parts)) l.node l.next
