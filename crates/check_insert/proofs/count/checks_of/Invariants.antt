use Rattle.std.proofs.Common.{◌≡◌, ◌+◌, ◌≤◌, ◌-◌, ◌^◌, drop}
use Rattle.std.specs.Prelude.{min}
use Rattle.check_insert.specs.Counting.{is_check, sum_of_functions}
use Rattle.check_insert.proofs.count.checks_of.Given as goal

abbrev pub invariant-loop-function : goal.invariant-loop-function
invariant-loop-function l =
    (l.sum ≤ 2 ^ 64 - 1) × (min (2 ^ 64 - 1) (l.sum + sum_of_functions is_check (drop l.function-index l.functions))
    ≡ min (2 ^ 64 - 1) (sum_of_functions is_check l.fn.functions))
