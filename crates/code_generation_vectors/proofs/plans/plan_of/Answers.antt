use Rattle.std.proofs.Common.{◌≡◌, List, ap, sym, subst, arith, length}
use Rattle.flat_code.specs.declared.instruction.FlatInstruction.{FlatInstruction}
use Rattle.reg_plan.specs.Needs.{IsNeeded}
use Rattle.reg_plan.proofs.Plans.{needed_is_named}
use Rattle.code_generation_vectors.proofs.plans.plan_of.Goals as goal

pub returns : goal.returns
returns c pc y needed =
    let p = c.args.program.now in
    let f = c.args.function.now in
    let lt = needed_is_named p c.args.number f.body (length f.homes) c.requires.named pc y needed in
    let count = ap length c.as_slice-count.ensures in
    c.in_ok-live.ensures.needed pc y (omega (arith, lt, count))
    (subst (λ (b : List FlatInstruction). IsNeeded p c.args.number b pc y) (sym c.as_slice.ensures) needed)
