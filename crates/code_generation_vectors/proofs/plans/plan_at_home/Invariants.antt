use Rattle.reg_plan.specs.Planned.{ArePlanned}
use Rattle.code_generation_vectors.specs.Named.{HasNeeded}
use Rattle.code_generation_vectors.proofs.plans.plan_at_home.Given as goal

abbrev pub invariant-loop-number : goal.invariant-loop-number
invariant-loop-number l = ArePlanned l.program l.plans.items l.number (HasNeeded l.program)
