use Rattle.std.proofs.Common.{List, ap, sym, subst, arith, length}
use Rattle.flat_code.specs.declared.instruction.FlatInstruction.{FlatInstruction}
use Rattle.reg_plan.specs.Needs.{IsNeeded}
use Rattle.target_limits.proofs.Planning.{plannable}
use Rattle.target_limits.proofs.plannable.can_plan.Goals as goal

pub returns : goal.returns
returns c entered =
    let p = c.args.program.now in
    let f = c.args.function.now in
    let count = ap length c.as_slice-count.ensures in
    plannable p c.args.number f (record { places = c.new.result; live = c.in_ok-live.live })
    (c.in_ok-is_readable.ensures c.if-not-branch.false)
    (λ pc y lt needed. c.in_ok-live.ensures.needed pc y (omega (arith, lt, count))
    (subst (λ (b : List FlatInstruction). IsNeeded p c.args.number b pc y) (sym c.as_slice.ensures) needed))
    (c.is_entered.ensures entered)
