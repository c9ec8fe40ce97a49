use Rattle.std.proofs.Common.{⊎_elim, subst, ◌≡◌, arith}
use Rattle.std.proofs.lemmas.Bool.{cases_lt}
use Rattle.reg_plan.specs.Colours.{range_of}
use Rattle.reg_plan.specs.Order.{IsInOrder}
use Rattle.reg_plan.proofs.Order.{all_ordered}
use Rattle.reg_plan.proofs.lookup.are_in_order.Goals as goal

pub loop-register-preserved : goal.loop-register-preserved
loop-register-preserved c y lt = ⊎_elim
    (λ low. c.loop-register.invariant y low)
    (λ high. let same : c.loop-register.register ≡ y = omega (arith, high, lt) in
    subst (λ z. IsInOrder (range_of c.args.plan.now.live.items z)) same
    (subst IsInOrder c.range_of.ensures (c.is_in_order.ensures c.if-not-is_in_order.false)))
    (cases_lt y c.loop-register.register)

pub returns : goal.returns
returns c _ = all_ordered c.args.plan.now.live.items
    (λ y lt. c.loop-register.invariant y (omega (arith, lt, c.loop-register-test.false)))
