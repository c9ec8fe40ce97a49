use Rattle.std.proofs.Common.{sym, subst}
use Rattle.metadata_expansion.specs.Joins.{Adds, ways_in}
use Rattle.tac_ir.specs.Ways.{nodes_of}
use Rattle.metadata_expansion.proofs.Counting.{adds_both, adds_nothing}
use Rattle.metadata_expansion.proofs.joins.add_ways.Goals as goal

pub returns-in-Nowhere : goal.returns-in-Nowhere
returns-in-Nowhere c =
    let table = c.args.table.now.items in
    subst (λ w. Adds table table (ways_in (nodes_of w))) (sym c.in-Nowhere.is) (adds_nothing table)

pub returns-in-Either : goal.returns-in-Either
returns-in-Either c =
    let old = c.args.table.now.items in
    let new = c.add_way-in-Either-2.new.table.items in
    subst (λ w. Adds old new (ways_in (nodes_of w))) (sym c.in-Either.is)
    (adds_both c.in-Either.first c.in-Either.second old c.add_way-in-Either.new.table.items new
    c.add_way-in-Either.ensures c.add_way-in-Either-2.ensures)
