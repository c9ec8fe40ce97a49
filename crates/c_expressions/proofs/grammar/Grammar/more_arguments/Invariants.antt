use Rattle.std.proofs.Common.{None, ◌≡◌, ◌<◌, ◌-◌, length}
use Rattle.c_grammar.specs.Nested.{readers}
use Rattle.c_grammar.specs.Reader.{behind_commas}
use Rattle.c_grammar.specs.LeastPrecedence as least
use Rattle.c_expressions.specs.Steps.{arguments_behind, arguments_behind_levels}
use Rattle.c_grammar.proofs.Extending.{extending}
use Rattle.c_expressions.proofs.grammar.Grammar.more_arguments.Given as goal

abbrev pub invariant-loop : goal.invariant-loop
invariant-loop g l = record {
  read : behind_commas ((readers l.self.names.now l.self.levels).expression None least.assignment)
      (length l.fn.tokens.rest.now) l.fn.tokens.rest.now
      ≡ extending (arguments_behind l.others.tree.items) (behind_commas
      ((readers l.self.names.now l.self.levels).expression None least.assignment) (l.end - l.counter)
      l.tokens.rest.now);
  known : l.others.levels ≡ arguments_behind_levels (arguments_behind l.others.tree.items);
  low : l.others.levels < l.self.levels;
}
