use Rattle.std.proofs.Common.{map, drop}
use Rattle.c_tree.specs.View.{declared_of}
use Rattle.program_lowering.specs.StatementParts.Code.{DeclaredCode}
use Rattle.program_lowering.proofs.parts.initializer.declare.Given as goal

abbrev pub invariant-loop-i : goal.invariant-loop-i
invariant-loop-i l = DeclaredCode l.fn.code l.code (map declared_of (drop l.i l.declared)) l.node l.next
