use Rattle.std.proofs.Common.{◌≡◌, suc, ◌-◌, length}
use Rattle.c_syntax.specs.Formed.{no_type}
use Rattle.c_syntax.specs.Levels.{specifiers_levels}
use Rattle.c_syntax.specs.View.{specifiers_in}
use Rattle.c_grammar.specs.Nested.{readers}
use Rattle.c_expressions.specs.LeveledReads.{Below}
use Rattle.c_grammar.specs.SpecifierReader.{specifiers_behind}
use Rattle.c_expressions.specs.Steps.{specifiers_extending}
use Rattle.c_expressions.proofs.grammar.Grammar.specifiers_at.Given as goal

abbrev pub invariant-loop : goal.invariant-loop
invariant-loop g l = record {
  read : specifiers_behind l.self.names.now (readers l.self.names.now l.self.levels) l.self.levels l.allowed
      (length l.fn.tokens.rest.now) no_type l.fn.tokens.rest.now
      ≡ specifiers_extending l.specifiers.tree.items (specifiers_behind l.self.names.now
      (readers l.self.names.now l.self.levels) l.self.levels l.allowed (l.end - l.counter) l.words l.tokens.rest.now);
  known : Below (suc l.self.levels) l.specifiers.levels (specifiers_levels (specifiers_in l.specifiers.tree.items));
}
