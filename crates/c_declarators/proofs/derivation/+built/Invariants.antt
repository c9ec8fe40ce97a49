use Rattle.std.proofs.Common.{length}
use Rattle.c_declarators.proofs.derivation.+built.Given as goal

abbrev pub decreases-built : goal.decreases-built
decreases-built l = length l.derivations.now
