use Rattle.std.proofs.Common.{sym, subst, ap, ◌∙◌, length}
use Rattle.std.specs.Prelude.{replicate}
use Rattle.metadata_expansion.specs.declared.joins.Arrivals.TheVariants.{Never}
use Rattle.metadata_expansion.specs.Joins.{AreCounted}
use Rattle.metadata_expansion.proofs.Counting.{counted_first, counted_next}
use Rattle.metadata_expansion.proofs.joins.Joins.new.Goals as goal

pub loop-instruction-init : goal.loop-instruction-init
loop-instruction-init c =
    let whole = c.in_ok-table.ensures ∙ ap (λ z. replicate (length z) Never) c.as_slice-code.ensures in
    subst (λ z. AreCounted c.args.function.now z c.add_way.new.table.items) (sym c.as_slice-code.ensures)
    (counted_first c.args.function.now c.in_ok-table.table.items c.add_way.new.table.items whole c.add_way.ensures)

pub loop-instruction-preserved : goal.loop-instruction-preserved
loop-instruction-preserved c =
    counted_next c.args.function.now c.as_slice-code.result.now c.loop-instruction.instruction-index
    c.instruction-item.result _ c.loop-instruction.table.items c.add_ways.new.table.items c.loop-instruction-test.true
    c.instruction-item.is c.loop-instruction.invariant c.ways_of.ensures c.add_ways.ensures
