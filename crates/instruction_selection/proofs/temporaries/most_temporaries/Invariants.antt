use Rattle.std.proofs.Common.{◌≡◌, max, drop}
use Rattle.metadata_plan.specs.Registers.{most_temporaries}
use Rattle.instruction_selection.proofs.temporaries.most_temporaries.Given as goal

abbrev pub invariant-loop-instruction : goal.invariant-loop-instruction
invariant-loop-instruction l =
    max l.most (most_temporaries (drop l.instruction-index l.instructions)) ≡ most_temporaries l.instructions
