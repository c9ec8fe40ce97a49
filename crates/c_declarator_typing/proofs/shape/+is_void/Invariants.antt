use Rattle.std.proofs.Common.{length}
use Rattle.c_declarator_typing.proofs.shape.+is_void.Given as goal

abbrev pub decreases-is_void : goal.decreases-is_void
decreases-is_void l = length l.words.now
