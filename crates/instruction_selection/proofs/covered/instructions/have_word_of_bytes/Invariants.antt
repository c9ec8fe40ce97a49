use Rattle.std.proofs.Common.{◌≡◌, ◌<◌, ◌^◌, drop}
use Rattle.source_meaning.specs.Blocks.{objects_end}
use Rattle.instruction_selection.proofs.covered.instructions.have_word_of_bytes.Given as goal

abbrev pub invariant-loop-i : goal.invariant-loop-i
invariant-loop-i l = (l.end < 2 ^ 64) × (objects_end (drop l.i l.variables) l.end ≡ objects_end l.fn.variables 0)
