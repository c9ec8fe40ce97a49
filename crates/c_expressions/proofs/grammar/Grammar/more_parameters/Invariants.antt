use Rattle.std.proofs.Common.{◌≡◌, ◌<◌, ◌-◌, length}
use Rattle.c_grammar.specs.Nested.{readers}
use Rattle.c_grammar.specs.Reader.{behind_commas}
use Rattle.c_grammar.specs.Readers.{typed_from}
use Rattle.c_expressions.specs.Steps.{parameters_behind, parameters_behind_levels}
use Rattle.c_grammar.specs.declared.declarator_kind.DeclaratorKind.TheVariants as kind
use Rattle.c_grammar.proofs.Extending.{extending}
use Rattle.c_expressions.proofs.grammar.Grammar.more_parameters.Given as goal

abbrev pub invariant-loop : goal.invariant-loop
invariant-loop g l = record {
  read : behind_commas (typed_from (readers l.self.names.now l.self.levels) kind.Either) (length l.fn.tokens.rest.now)
      l.fn.tokens.rest.now
      ≡ extending (parameters_behind l.others.tree.items) (behind_commas
      (typed_from (readers l.self.names.now l.self.levels) kind.Either) (l.end - l.counter) l.tokens.rest.now);
  known : l.others.levels ≡ parameters_behind_levels (parameters_behind l.others.tree.items);
  low : l.others.levels < l.self.levels;
}
