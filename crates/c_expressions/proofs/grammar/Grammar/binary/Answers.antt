use Rattle.std.proofs.Common.{arith}
use Rattle.c_grammar.proofs.Facts.{precedence_below}
use Rattle.c_expressions.proofs.grammar.Grammar.binary.Goals as goal

pub overflow_add-binary_precedence : goal.overflow_add-binary_precedence
overflow_add-binary_precedence g c = omega (arith, c.binary_precedence.ensures, precedence_below c.args.punctuator)
