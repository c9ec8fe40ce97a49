use Rattle.std.proofs.Common.{◌≡◌, drop}
use Rattle.c_tree.specs.Blocks.{is_among}
use Rattle.source_interp.proofs.variables.is_among.Given as goal

abbrev pub invariant-loop-other : goal.invariant-loop-other
invariant-loop-other l = is_among (drop l.other-index l.numbers) l.number ≡ is_among l.fn.numbers l.fn.number
