use Rattle.std.proofs.Common.{◌≡◌, ◌-◌, length, true}
use Rattle.c_syntax.specs.Formed.{names_after_more}
use Rattle.c_syntax.specs.StatementsView.{more_init_declarators_in}
use Rattle.c_grammar.specs.DeclarationReader.{more_init_declarators_from}
use Rattle.c_grammar.proofs.Extending.{extending}
use Rattle.c_parser.proofs.declaration.more_typedef_declarators.Given as goal

abbrev pub invariant-loop : goal.invariant-loop
invariant-loop l = record {
  read : more_init_declarators_from l.levels true (length l.fn.tokens.rest.now) l.fn.names l.fn.tokens.rest.now
      ≡ extending (more_init_declarators_in l.others.items) (more_init_declarators_from l.levels true
      (l.end - l.counter) l.names l.tokens.rest.now);
  added : l.names ≡ names_after_more true (more_init_declarators_in l.others.items) l.fn.names;
}
