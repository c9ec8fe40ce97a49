-- What is left of a text.
use Rattle.std.proofs.Common.{◌≡◌, ℕ, zero, suc, ◌+◌, ◌-◌, ◌≤◌, cond, ◌==◌, List, [], ◌∷◌, take, drop, length, sym, ap}
use Rattle.std.proofs.Common.{◌∙◌, arith}
use Rattle.std.proofs.lemmas.List.Sums.{count_by-le-length, sum_by-take-drop}
use Rattle.c_lexer.specs.Text.{newlines}

-- r is z without some bytes at its front
pub data Ends (r : List ℕ) : List ℕ → Type 0 where
  here : Ends r r
  there : (b : ℕ) (z : List ℕ) → Ends r z → Ends r (b ∷ z)

pub ends_within : (r s z : List ℕ) → Ends r s → Ends s z → Ends r z
ends_within r s z a here = a
ends_within r s _ a (there b z e) = there b z (ends_within r s z a e)

pub ends_drop : (n : ℕ) (z : List ℕ) → Ends (drop n z) z
ends_drop zero z = here
ends_drop (suc n) [] = here
ends_drop (suc n) (b ∷ z) = there b z (ends_drop n z)

pub ends_shorter : (r z : List ℕ) → Ends r z → length r ≤ length z
ends_shorter r _ here = omega arith
ends_shorter r _ (there b z e) = omega (arith, ends_shorter r z e)

pub newlines_few : (z : List ℕ) → newlines z ≤ length z
newlines_few z = count_by-le-length (λ b. b == 10) z

pub newlines_cut : (n : ℕ) (z : List ℕ) → newlines z ≡ newlines (take n z) + newlines (drop n z)
newlines_cut n z = sym (sum_by-take-drop (λ b. cond (b == 10) 1 0) z n)

ends_at : (r z : List ℕ) → Ends r z → r ≡ drop (length z - length r) z
ends_at r _ here = let e : length r - length r ≡ 0 = omega arith in rw e
ends_at r _ (there b z e) =
    let k : suc (length z) - length r ≡ suc (length z - length r) = omega (arith, ends_shorter r z e) in
    rw k (ends_at r z e)

-- the newlines that were passed, and those that are left
pub newlines_passed : (r z : List ℕ) → Ends r z → newlines z ≡ newlines (take (length z - length r) z) + newlines r
newlines_passed r z e = newlines_cut (length z - length r) z
    ∙ ap (λ s. newlines (take (length z - length r) z) + newlines s) (sym (ends_at r z e))
