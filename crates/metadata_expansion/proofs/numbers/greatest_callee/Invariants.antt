use Rattle.std.proofs.Common.{◌≡◌, ◌<◌, ◌^◌, max, drop}
use Rattle.metadata_expansion.specs.Numbers.{greatest_callee, greatest_line, greatest_word}
use Rattle.metadata_expansion.proofs.numbers.greatest_callee.Given as goal

abbrev pub invariant-loop-instruction : goal.invariant-loop-instruction
invariant-loop-instruction l =
    (max l.greatest (greatest_callee (drop l.instruction-index l.instructions)) ≡ greatest_callee l.instructions)
    × (greatest_word (drop l.instruction-index l.instructions) < 2 ^ 64 → greatest_word l.instructions < 2 ^ 64)
    × (greatest_line (drop l.instruction-index l.instructions) < 2 ^ 32 → greatest_line l.instructions < 2 ^ 32)
