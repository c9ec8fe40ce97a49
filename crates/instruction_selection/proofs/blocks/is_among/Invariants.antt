use Rattle.std.proofs.Common.{◌≡◌, drop}
use Rattle.c_tree.specs.Blocks.{is_among}
use Rattle.instruction_selection.proofs.blocks.is_among.Given as goal

abbrev pub invariant-loop-one : goal.invariant-loop-one
invariant-loop-one l = is_among (drop l.one-index l.numbers) l.number ≡ is_among l.fn.numbers l.fn.number
