-- Zeros put one by one behind a list.
use Rattle.std.proofs.Common.{◌≡◌, ℕ, zero, suc, ◌+◌, List, [], ◌∷◌, ◌++◌, refl, ap, ◌∙◌, arith}
use Rattle.std.specs.Prelude.{replicate}
use Rattle.std.proofs.lemmas.List.{append_assoc}

abbrev zeros : ℕ → List ℕ
zeros n = replicate n 0

abbrev one_zero : List ℕ
one_zero = 0 ∷ []

one_more : (n : ℕ) → zeros n ++ one_zero ≡ zeros (suc n)
one_more zero = refl
one_more (suc n) = ap (λ (xs : List ℕ). 0 ∷ xs) (one_more n)

pub zero_more : (xs : List ℕ) (n : ℕ) → (xs ++ zeros n) ++ one_zero ≡ xs ++ zeros (n + 1)
zero_more xs n =
    let next : suc n ≡ n + 1 = omega arith in
    append_assoc xs (zeros n) one_zero ∙ ap (λ (ys : List ℕ). xs ++ ys) (one_more n) ∙ ap (λ k. xs ++ zeros k) next
