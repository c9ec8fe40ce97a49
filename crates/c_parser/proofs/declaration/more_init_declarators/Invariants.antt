use Rattle.std.proofs.Common.{◌≡◌, ◌-◌, length, false}
use Rattle.c_syntax.specs.StatementsView.{more_init_declarators_in}
use Rattle.c_grammar.specs.DeclarationReader.{more_init_declarators_from}
use Rattle.c_grammar.proofs.Extending.{extending}
use Rattle.c_parser.proofs.declaration.more_init_declarators.Given as goal

abbrev pub invariant-loop : goal.invariant-loop
invariant-loop l =
    more_init_declarators_from l.levels false (length l.fn.tokens.rest.now) l.names l.fn.tokens.rest.now
    ≡ extending (more_init_declarators_in l.others.items) (more_init_declarators_from l.levels false (l.end - l.counter)
    l.names l.tokens.rest.now)
