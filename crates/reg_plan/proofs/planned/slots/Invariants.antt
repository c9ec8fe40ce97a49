use Rattle.reg_plan.specs.Planned.{ArePlanned, IsPlanOfSlots}
use Rattle.reg_plan.proofs.planned.slots.Given as goal

abbrev pub invariant-loop-number : goal.invariant-loop-number
invariant-loop-number l = ArePlanned l.program l.plans.items l.number (IsPlanOfSlots l.program)
