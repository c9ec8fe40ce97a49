use Rattle.std.proofs.Common.{◌≡◌, arith, subst, length}
use Rattle.reg_plan.specs.Flow.{Represents}
use Rattle.reg_plan.proofs.flow.problem_of.Goals as goal

pub returns-clause-represents : goal.returns-clause-represents
returns-clause-represents c =
    let e : c.loop-place.place ≡ length c.args.body.now = omega arith in
    subst (λ n. Represents c.args.program.now c.args.function c.args.body.now n c.loop-place.problem)
    e c.loop-place.invariant.represents
