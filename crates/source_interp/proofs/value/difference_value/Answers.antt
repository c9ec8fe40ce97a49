use Rattle.std.proofs.Common.{◌+◌, ◌-◌, ◌%◌, ◌^◌, refl}
use Rattle.source_interp.proofs.Moves.{differs}
use Rattle.source_interp.proofs.value.difference_value.Goals as goal

pub returns-in-Some : goal.returns-in-Some
returns-in-Some c =
    differs c.args.left c.args.right c.integer.result c.args.size ((c.args.left.word + (2 ^ 64 - c.args.right.word)) %
    2 ^ 64) c.in-Some.elements refl c.in-Some.ensures c.integer.ensures
