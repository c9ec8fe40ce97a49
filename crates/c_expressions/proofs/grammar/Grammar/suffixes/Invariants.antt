use Rattle.std.proofs.Common.{◌≡◌, suc, ◌-◌}
use Rattle.c_syntax.specs.Levels.{declarator_levels}
use Rattle.c_syntax.specs.View.{declarator_of}
use Rattle.c_grammar.specs.DeclaratorReader.{suffixes_from}
use Rattle.c_grammar.specs.Nested.{readers}
use Rattle.c_expressions.specs.LeveledReads.{Below}
use Rattle.c_expressions.proofs.grammar.Grammar.suffixes.Given as goal

abbrev pub invariant-loop : goal.invariant-loop
invariant-loop g l = record {
  read : suffixes_from l.self.names.now (readers l.self.names.now l.self.levels) l.self.levels l.self.levels
      (declarator_of l.fn.first.tree) l.fn.tokens.rest.now
      ≡ suffixes_from l.self.names.now (readers l.self.names.now l.self.levels) l.self.levels (l.end - l.counter)
      (declarator_of l.left.tree) l.tokens.rest.now;
  known : Below (suc l.self.levels) l.left.levels (declarator_levels (declarator_of l.left.tree));
}
