use Rattle.std.proofs.Common.{length}
use Rattle.reg_plan.specs.Flow.{Represents, HasSizes}
use Rattle.reg_plan.proofs.flow.problem_of.Given as goal

abbrev pub invariant-loop-place : goal.invariant-loop-place
invariant-loop-place l = record {
  represents : Represents l.program l.function l.body l.place l.problem;
  sizes : HasSizes l.problem (length l.body) l.registers;
}
