use Rattle.reg_plan.specs.Planned.{ArePlanned, IsPlanOfRegisters}
use Rattle.reg_plan.proofs.planned.registers.Given as goal

abbrev pub invariant-loop-number : goal.invariant-loop-number
invariant-loop-number l = ArePlanned l.program l.plans.items l.number (IsPlanOfRegisters l.program)
