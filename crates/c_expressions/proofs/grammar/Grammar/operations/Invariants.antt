use Rattle.std.proofs.Common.{◌≡◌, suc, ◌-◌}
use Rattle.c_syntax.specs.Levels.{expression_levels}
use Rattle.c_syntax.specs.View.{expression_of}
use Rattle.c_grammar.specs.ExpressionReader.{operations_from}
use Rattle.c_grammar.specs.Nested.{readers}
use Rattle.c_expressions.specs.LeveledReads.{Below}
use Rattle.c_expressions.proofs.grammar.Grammar.operations.Given as goal

abbrev pub invariant-loop : goal.invariant-loop
invariant-loop g l = record {
  read : operations_from l.self.names.now (readers l.self.names.now l.self.levels) l.self.levels l.self.levels l.least
      (expression_of l.fn.first.tree) l.fn.tokens.rest.now
      ≡ operations_from l.self.names.now (readers l.self.names.now l.self.levels) l.self.levels (l.end - l.counter)
      l.least (expression_of l.left.tree) l.tokens.rest.now;
  known : Below (suc l.self.levels) l.left.levels (expression_levels (expression_of l.left.tree));
}
