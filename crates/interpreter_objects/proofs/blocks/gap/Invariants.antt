use Rattle.std.proofs.Common.{◌≡◌, ◌+◌, drop}
use Rattle.interpreter_objects.specs.Blocks.{first_gap, gap_index}
use Rattle.interpreter_objects.proofs.blocks.gap.Given as goal

abbrev pub invariant-loop-block : goal.invariant-loop-block
invariant-loop-block l =
    (first_gap l.low l.room (drop l.block-index l.blocks) ≡ first_gap l.fn.first l.fn.room l.fn.blocks)
    × (l.index + gap_index l.low l.room (drop l.block-index l.blocks) ≡ gap_index l.fn.first l.fn.room l.fn.blocks)
    × (l.index ≡ l.block-index)
