use Rattle.std.proofs.Common.{arith, ◌-◌, ◌<◌, length, sym, ap, ◌∙◌}
use Rattle.program_lowering.proofs.StatementCode.Elements.{get_any}
use Rattle.program_lowering.proofs.StatementCode.LabelTests.{next_tests}
use Rattle.program_lowering.proofs.statements.labels.test_items.Goals as goal

pub loop-i-preserved : goal.loop-i-preserved
loop-i-preserved c =
    let lt : c.loop-i.i - 1 < length c.args.starts.now =
    omega (arith, c.requires, c.loop-i-test.true, c.loop-i.auto.i) in
    next_tests c.args.items.now c.args.starts.now c.loop-i.i c.index-items-i.result (omega (arith, c.loop-i-test.true))
    (omega (arith, c.loop-i.auto.i)) c.index-items-i.is c.requires
    (get_any c.args.starts.now (c.loop-i.i - 1) _ _ lt)
    (c.as_slice.ensures ∙ ap (λ y. y.labels) (sym c.index-items-i.is)) c.loop-i.invariant c.in_ok-node.ensures
