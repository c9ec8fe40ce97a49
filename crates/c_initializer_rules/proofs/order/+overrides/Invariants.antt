use Rattle.std.proofs.Common.{length}
use Rattle.c_initializer_rules.proofs.order.+overrides.Given as goal

abbrev pub decreases-overrides : goal.decreases-overrides
decreases-overrides l = length l.now.now
