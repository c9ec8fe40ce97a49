use Rattle.std.proofs.Common.{length}
use Rattle.c_initializer_rules.proofs.order.+leads_behind.Given as goal

abbrev pub decreases-leads_behind : goal.decreases-leads_behind
decreases-leads_behind l = length l.now.now
