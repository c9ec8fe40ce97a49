use Rattle.std.proofs.Common.{◌≡◌, ◌+◌, ◌≤◌, ◌<◌, ℕ}
use Rattle.reg_plan.specs.Accepted.{IsLive}
use Rattle.reg_plan.proofs.closed.are_live.Given as goal

abbrev pub invariant-loop-register : goal.invariant-loop-register
invariant-loop-register l = record {
  live : (y : ℕ) → l.first ≤ y → y < l.register → IsLive l.plan l.place y;
  first : l.first ≡ l.fn.span.first;
  end : l.end ≡ l.fn.span.first + l.fn.span.count;
}
