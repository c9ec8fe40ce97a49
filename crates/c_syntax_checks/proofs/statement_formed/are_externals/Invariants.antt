use Rattle.std.proofs.Common.{◌↔◌, drop}
use Rattle.c_syntax.specs.Formed.{AreExternals}
use Rattle.c_syntax.specs.StatementsView.{externals_in}
use Rattle.c_syntax_checks.proofs.statement_formed.are_externals.Given as goal

abbrev pub invariant-loop-external : goal.invariant-loop-external
invariant-loop-external l = AreExternals l.levels l.names.items (externals_in (drop l.external-index l.externals))
    ↔ AreExternals l.levels l.fn.names.items (externals_in l.externals)
