use Rattle.std.proofs.Common.{◌≡◌, ◌<◌, ◌-◌, map, length}
use Rattle.c_syntax.specs.Levels.{more_enumerators_levels}
use Rattle.c_syntax.specs.View.{enumerator_of, behind_comma, more_enumerators_in}
use Rattle.c_grammar.specs.Nested.{readers}
use Rattle.c_grammar.specs.Reader.{behind_commas_to_brace}
use Rattle.c_grammar.specs.SpecifierReader.{enumerator_from}
use Rattle.c_grammar.proofs.Extending.{extending_last}
use Rattle.c_expressions.proofs.grammar.Grammar.more_enumerators.Given as goal

abbrev pub invariant-loop : goal.invariant-loop
invariant-loop g l = record {
  read : behind_commas_to_brace (enumerator_from l.self.names.now (readers l.self.names.now l.self.levels)
      l.self.levels) (length l.fn.tokens.rest.now) l.fn.tokens.rest.now
      ≡ extending_last (map (behind_comma enumerator_of) l.others.tree.items)
      (behind_commas_to_brace (enumerator_from l.self.names.now (readers l.self.names.now l.self.levels) l.self.levels)
      (l.end - l.counter) l.tokens.rest.now);
  known : l.others.levels ≡ more_enumerators_levels (more_enumerators_in l.others.tree.items);
  low : l.others.levels < l.self.levels;
}
