use Rattle.std.proofs.Common.{◌≡◌, max, drop}
use Rattle.metadata_expansion.specs.Homes.{free_count, most_arguments}
use Rattle.metadata_expansion.proofs.homes.free_count.Given as goal

abbrev pub invariant-loop-instruction : goal.invariant-loop-instruction
invariant-loop-instruction l =
    max l.most (most_arguments (drop l.instruction-index l.function.code)) ≡ free_count l.function
