use Rattle.std.proofs.Common.{◌≡◌, ◌-◌, length}
use Rattle.c_syntax.specs.StatementsView.{designators_in}
use Rattle.c_grammar.specs.InitializerReader.{designators_from}
use Rattle.c_grammar.specs.Nested.{readers}
use Rattle.c_grammar.proofs.Extending.{extending}
use Rattle.c_parser.proofs.initializer.designators.Given as goal

abbrev pub invariant-loop : goal.invariant-loop
invariant-loop l =
    designators_from (readers l.names l.levels) (length l.fn.tokens.rest.now) l.fn.tokens.rest.now
    ≡ extending (designators_in l.designators.items) (designators_from (readers l.names l.levels) (l.end - l.counter)
    l.tokens.rest.now)
