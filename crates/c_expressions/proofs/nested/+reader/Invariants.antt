use Rattle.c_expressions.proofs.nested.+reader.Given as goal

abbrev pub decreases-expression : goal.decreases-expression
decreases-expression l = l.levels

abbrev pub decreases-specifiers : goal.decreases-specifiers
decreases-specifiers l = l.levels

abbrev pub decreases-declarator : goal.decreases-declarator
decreases-declarator l = l.levels
