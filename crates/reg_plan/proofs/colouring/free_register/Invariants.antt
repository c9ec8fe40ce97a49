use Rattle.std.proofs.Common.{◌≡◌, ◌<◌, ℕ, true, false, Some, None}
use Rattle.reg_plan.specs.Accepted.{covers}
use Rattle.reg_plan.specs.Colours.{range_of}
use Rattle.reg_plan.proofs.colouring.free_register.Given as goal

abbrev pub invariant-loop-register : goal.invariant-loop-register
invariant-loop-register l = record {
  given : (r : ℕ) → l.best ≡ Some r → r < l.register;
  free : (r : ℕ) → l.best ≡ Some r → (pc : ℕ) → covers l.range pc ≡ true → covers (range_of l.used r) pc ≡ false;
  taken : l.best ≡ None → (r : ℕ) → r < l.register → (pc : ℕ) × (covers l.range pc ≡ true)
      × (covers (range_of l.used r) pc ≡ true);
}
