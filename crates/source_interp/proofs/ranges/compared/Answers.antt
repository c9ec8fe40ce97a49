use Rattle.std.proofs.Common.{sym, refl, ◌∙◌}
use Rattle.std.proofs.Common.{arith}
use Rattle.source_interp.proofs.BytePairs.{order_all, order_end, order_on, pairs_all, pairs_end, pairs_on}
use Rattle.source_interp.proofs.ranges.compared.Goals as goal

pub loop-i-init : goal.loop-i-init
loop-i-init c =
    (omega arith, refl, omega arith)

pub loop-i-preserved : goal.loop-i-preserved
loop-i-preserved c = (
  pairs_on c.args.left.now c.args.right.now c.loop-i.i c.nth-one.result c.nth-other.result c.loop-i-test.true
      (omega (arith, c.loop-i-test.true, c.requires)) c.nth-one.ensures c.nth-other.ensures c.loop-i.invariant.0
      (sym c.is_equal.ensures ∙ c.if-not-is_equal.false),
  order_on c.args.left.now c.args.right.now c.loop-i.i
      c.nth-one.result c.nth-other.result c.loop-i-test.true (omega (arith, c.loop-i-test.true, c.requires))
      c.nth-one.ensures c.nth-other.ensures c.loop-i.invariant.1 (sym c.is_equal.ensures ∙
      c.if-not-is_equal.false),
  omega (arith, c.loop-i-test.true),
)

pub returns-then-not-is_equal-clause-pairs : goal.returns-then-not-is_equal-clause-pairs
returns-then-not-is_equal-clause-pairs c =
    pairs_end c.args.left.now c.args.right.now c.loop-i.i c.nth-one.result c.nth-other.result c.loop-i-test.true
    (omega (arith, c.loop-i-test.true, c.requires)) c.nth-one.ensures c.nth-other.ensures c.loop-i.invariant.0
    (sym c.is_equal.ensures ∙ c.if-not-is_equal.true)

pub returns-then-not-is_equal-clause-order : goal.returns-then-not-is_equal-clause-order
returns-then-not-is_equal-clause-order c =
    order_end c.args.left.now c.args.right.now c.loop-i.i c.nth-one.result c.nth-other.result c.loop-i-test.true
    (omega (arith, c.loop-i-test.true, c.requires)) c.nth-one.ensures c.nth-other.ensures c.order.result
    c.order.ensures c.loop-i.invariant.1 (sym c.is_equal.ensures ∙ c.if-not-is_equal.true)

pub returns-clause-pairs : goal.returns-clause-pairs
returns-clause-pairs c =
    pairs_all c.args.left.now c.args.right.now c.loop-i.i (omega (arith, c.loop-i-test.false))
    c.loop-i.invariant.2 c.loop-i.invariant.0

pub returns-clause-order : goal.returns-clause-order
returns-clause-order c =
    order_all c.args.left.now c.args.right.now c.loop-i.i (omega (arith, c.loop-i-test.false)) c.integer.result
    c.integer.ensures c.loop-i.invariant.1
