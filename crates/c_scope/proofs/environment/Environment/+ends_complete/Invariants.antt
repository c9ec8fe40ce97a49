use Rattle.std.proofs.Common.{length}
use Rattle.c_scope.proofs.environment.Environment.+ends_complete.Given as goal

abbrev pub decreases-ends_complete : goal.decreases-ends_complete
decreases-ends_complete e = length e.words.now
