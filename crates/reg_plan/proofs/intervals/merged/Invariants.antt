use Rattle.std.proofs.Common.{◌≡◌, ℕ, ◌||◌, take}
use Rattle.data_flow.specs.Runs.{is_covered}
use Rattle.reg_plan.specs.Accepted.{covers, holds}
use Rattle.reg_plan.proofs.intervals.merged.Given as goal

abbrev pub invariant-loop-run : goal.invariant-loop-run
invariant-loop-run l = (pc : ℕ) → (covers l.list.items pc || holds l.last pc) ≡ is_covered (take l.run-index l.runs) pc
