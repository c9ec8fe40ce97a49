-- The words of the first types are those before what stands behind them.
use Rattle.std.proofs.Common.{◌≡◌, ℕ, zero, suc, ◌-◌, ◌≤◌, List, [], ◌∷◌, length, take, refl, ap, sym, ◌∙◌, arith}
use Rattle.c_tree.specs.declared.c_type.TypeWord.{TypeWord}
use Rattle.c_tree.specs.TypesAgree.{still, behind_types}
use Rattle.c_call_rules.specs.FunctionTypes.{first_types}

fewer : (n : ℕ) (ws : List TypeWord) → length (behind_types n ws) ≤ length ws
fewer zero ws = omega arith
fewer (suc n) [] = omega arith
fewer (suc n) (w ∷ ws) = let e = fewer (still w n) ws in omega arith

one_more : (m n : ℕ) → m ≤ n → suc n - m ≡ suc (n - m)
one_more m n h = omega arith

nothing : (n : ℕ) → n - n ≡ 0
nothing n = omega arith

first_of : (n : ℕ) (ws : List TypeWord)
    → take (length ws - length (behind_types n ws)) ws ≡ first_types n ws
first_of zero ws = ap (λ k. take k ws) (nothing (length ws))
first_of (suc n) [] = refl
first_of (suc n) (w ∷ ws) =
    ap (λ k. take k (w ∷ ws)) (one_more (length (behind_types (still w n) ws)) (length ws) (fewer (still w n) ws))
    ∙ ap (λ others. w ∷ others) (first_of (still w n) ws)

pub first_is : (ws behind : List TypeWord) → behind ≡ behind_types 1 ws
    → take (length ws - length behind) ws ≡ first_types 1 ws
first_is ws behind e = ap (λ b. take (length ws - length b) ws) e ∙ first_of 1 ws
