use Rattle.std.proofs.Common.{◌≡◌, ◌+◌, drop}
use Rattle.interpreter_objects.specs.Blocks.{index_of}
use Rattle.interpreter_objects.proofs.blocks.index_of.Given as goal

abbrev pub invariant-loop-other : goal.invariant-loop-other
invariant-loop-other l =
    (l.index + index_of l.block (drop l.other-index l.blocks) ≡ index_of l.fn.block l.fn.blocks)
    × (l.index ≡ l.other-index)
