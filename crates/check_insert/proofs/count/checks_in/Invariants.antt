use Rattle.std.proofs.Common.{◌≡◌, ◌+◌, ◌≤◌, ◌-◌, ◌^◌, drop}
use Rattle.std.specs.Prelude.{min}
use Rattle.check_insert.specs.Counting.{is_check, sum_over}
use Rattle.check_insert.proofs.count.checks_in.Given as goal

abbrev pub invariant-loop-instruction : goal.invariant-loop-instruction
invariant-loop-instruction l =
    (l.sum ≤ 2 ^ 64 - 1) × (min (2 ^ 64 - 1) (l.sum + sum_over is_check (drop l.instruction-index l.code))
    ≡ min (2 ^ 64 - 1) (sum_over is_check l.fn.code))
