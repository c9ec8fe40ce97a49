-- A recursion on a count, beside a loop whose turns count up.
use Rattle.std.proofs.Common.{◌≡◌, ℕ, suc, ◌+◌, ◌-◌, ◌<◌, ◌≤◌, ap, ◌∙◌, arith}

-- there is one more turn
pub one_more : {X : Type 0} {x : X} (f : ℕ → X) (n turn : ℕ) → turn < n → x ≡ f (n - turn)
    → x ≡ f (suc (n - (turn + 1)))
one_more f n turn below e = let next : n - turn ≡ suc (n - (turn + 1)) = omega arith in e ∙ ap f next

-- there are no more turns
pub no_more : {X : Type 0} {x : X} (f : ℕ → X) (n turn : ℕ) → n ≤ turn → x ≡ f (n - turn) → x ≡ f 0
no_more f n turn done e = let none : n - turn ≡ 0 = omega arith in e ∙ ap f none
