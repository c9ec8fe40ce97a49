use Rattle.std.proofs.Common.{length}
use Rattle.c_operand_typing.proofs.primaries.+is_aggregate.Given as goal

abbrev pub decreases-is_aggregate : goal.decreases-is_aggregate
decreases-is_aggregate l = length l.words.now
