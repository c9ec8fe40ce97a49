use Rattle.std.proofs.Common.{◌≡◌, drop}
use Rattle.std.specs.List.{list_all}
use Rattle.program_expansion.specs.Limits.{names_own}
use Rattle.program_expansion.proofs.names.all_name_own.Given as goal

abbrev pub invariant-loop-instruction : goal.invariant-loop-instruction
invariant-loop-instruction l =
    list_all (names_own l.program l.function) (drop l.instruction-index l.instructions)
    ≡ list_all (names_own l.program l.function) l.instructions
