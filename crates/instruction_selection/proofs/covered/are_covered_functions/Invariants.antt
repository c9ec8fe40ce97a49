use Rattle.std.proofs.Common.{drop}
use Rattle.instruction_selection.specs.Covered.{AreCoveredFunctions}
use Rattle.instruction_selection.proofs.covered.are_covered_functions.Given as goal

abbrev pub invariant-loop-i : goal.invariant-loop-i
invariant-loop-i l = AreCoveredFunctions l.coverage.program.now (drop l.i l.functions)
    → AreCoveredFunctions l.coverage.program.now l.fn.functions
