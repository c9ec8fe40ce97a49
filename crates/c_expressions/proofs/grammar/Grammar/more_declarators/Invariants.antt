use Rattle.std.proofs.Common.{◌≡◌, ◌<◌, ◌-◌, length}
use Rattle.c_grammar.specs.Nested.{readers}
use Rattle.c_grammar.specs.Reader.{behind_commas}
use Rattle.c_expressions.specs.Steps.{declarators_behind, declarators_behind_levels}
use Rattle.c_grammar.specs.declared.declarator_kind.DeclaratorKind.TheVariants as kind
use Rattle.c_grammar.proofs.Extending.{extending}
use Rattle.c_expressions.proofs.grammar.Grammar.more_declarators.Given as goal

abbrev pub invariant-loop : goal.invariant-loop
invariant-loop g l = record {
  read : behind_commas ((readers l.self.names.now l.self.levels).declarator kind.Named) (length l.fn.tokens.rest.now)
      l.fn.tokens.rest.now
      ≡ extending (declarators_behind l.others.tree.items) (behind_commas
      ((readers l.self.names.now l.self.levels).declarator kind.Named) (l.end - l.counter) l.tokens.rest.now);
  known : l.others.levels ≡ declarators_behind_levels (declarators_behind l.others.tree.items);
  low : l.others.levels < l.self.levels;
}
