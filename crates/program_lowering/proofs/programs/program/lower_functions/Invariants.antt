use Rattle.program_lowering.proofs.ProgramCode.InTurn.{Done}
use Rattle.program_lowering.proofs.programs.program.lower_functions.Given as goal

abbrev pub invariant-loop-i : goal.invariant-loop-i
invariant-loop-i l = Done l.fn.literals.items l.results l.functions l.i l.done
