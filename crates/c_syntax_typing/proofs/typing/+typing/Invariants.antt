use Rattle.c_syntax.specs.View.{declarator_of, expression_of, specifiers_in}
use Rattle.c_syntax.specs.Levels.{declarator_levels, expression_levels, specifiers_levels}
use Rattle.c_syntax_typing.proofs.typing.+typing.Given as goal

abbrev pub decreases-expression : goal.decreases-expression
decreases-expression l = expression_levels (expression_of l.tree.now)

abbrev pub decreases-declarator : goal.decreases-declarator
decreases-declarator l = declarator_levels (declarator_of l.tree.now)

abbrev pub decreases-specifiers : goal.decreases-specifiers
decreases-specifiers l = specifiers_levels (specifiers_in l.trees.now)
