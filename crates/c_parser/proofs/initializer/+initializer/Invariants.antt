use Rattle.c_parser.proofs.initializer.+initializer.Given as goal

abbrev pub decreases-initializer : goal.decreases-initializer
decreases-initializer l = l.levels
