use Rattle.std.proofs.Common.{◌≡◌, ◌<◌, ◌-◌, map}
use Rattle.c_syntax.specs.Levels.{members_levels}
use Rattle.c_syntax.specs.View.{member_of, members_in}
use Rattle.c_grammar.specs.Nested.{readers}
use Rattle.c_grammar.specs.Reader.{up_to_brace}
use Rattle.c_grammar.specs.SpecifierReader.{member_from, members_from}
use Rattle.c_grammar.proofs.Extending.{extending}
use Rattle.c_expressions.proofs.MemberSteps.{members_read}
use Rattle.c_expressions.proofs.grammar.Grammar.members.Given as goal

abbrev pub invariant-loop : goal.invariant-loop
invariant-loop g l = record {
  read : members_from l.self.names.now (readers l.self.names.now l.self.levels) l.self.levels l.fn.tokens.rest.now
      ≡ members_read (extending (map member_of l.members.tree.items)
      (up_to_brace (member_from l.self.names.now (readers l.self.names.now l.self.levels) l.self.levels)
      (l.end - l.counter) l.tokens.rest.now));
  known : l.members.levels ≡ members_levels (members_in l.members.tree.items);
  low : l.members.levels < l.self.levels;
}
