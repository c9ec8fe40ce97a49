use Rattle.std.proofs.Common.{arith, ◌-◌, ◌<◌, length}
use Rattle.program_lowering.proofs.StatementCode.Elements.{get_any}
use Rattle.program_lowering.proofs.StatementCode.LabelTests.{next_label}
use Rattle.program_lowering.proofs.statements.labels.test_labels.Goals as goal

pub loop-i-preserved : goal.loop-i-preserved
loop-i-preserved c =
    let lt : c.loop-i.i - 1 < length c.args.labels.now = omega (arith, c.loop-i-test.true, c.loop-i.auto.i) in
    next_label c.args.labels.now c.loop-i.i _ (omega (arith, c.loop-i-test.true)) (omega (arith, c.loop-i.auto.i))
    (get_any c.args.labels.now (c.loop-i.i - 1) _ _ lt) c.loop-i.invariant c.in_ok-node.ensures
