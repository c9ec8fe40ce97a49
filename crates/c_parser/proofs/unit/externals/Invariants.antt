use Rattle.std.proofs.Common.{◌≡◌, ◌-◌, length}
use Rattle.c_syntax.specs.StatementsView.{externals_in}
use Rattle.c_grammar.specs.UnitReader.{externals_from}
use Rattle.c_grammar.proofs.Extending.{extending}
use Rattle.c_parser.proofs.unit.externals.Given as goal

abbrev pub invariant-loop : goal.invariant-loop
invariant-loop l =
    externals_from l.levels (length l.fn.tokens.rest.now) l.fn.names l.fn.tokens.rest.now
    ≡ extending (externals_in l.externals.items) (externals_from l.levels (l.end - l.counter) l.names
    l.tokens.rest.now)
