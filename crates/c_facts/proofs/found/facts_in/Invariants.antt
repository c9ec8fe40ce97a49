use Rattle.std.proofs.Common.{◌≡◌, drop}
use Rattle.c_syntax.specs.StatementsView.{externals_in}
use Rattle.c_facts.specs.Facts.{found_in, found_of, nothing_found}
use Rattle.c_facts.proofs.found.facts_in.Given as goal

abbrev pub invariant-loop-external : goal.invariant-loop-external
invariant-loop-external l =
    found_in (externals_in (drop l.external-index l.externals)) (found_of l.found)
    ≡ found_in (externals_in l.fn.externals) nothing_found
