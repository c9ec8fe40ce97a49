-- Marks that are lengthened one by one.
use Rattle.std.proofs.Common.{◌≡◌, ℕ, ◌+◌, ◌-◌, ◌≤◌, suc, Bool, false, List, [], ◌∷◌, ◌++◌, length, ap, ◌∙◌, arith}
use Rattle.std.proofs.Common.{append_assoc, length-append}
use Rattle.c_operand_typing.specs.Operators.{unmarked}

pub one_more : (xs ys : List Bool) (n : ℕ) → length xs ≤ n → ys ≡ xs ++ false ∷ []
    → ys ++ unmarked (n + 1 - length ys) ≡ xs ++ unmarked (n + 1 - length xs)
one_more xs ys n inside is =
    let longer : length (xs ++ false ∷ []) ≡ length xs + 1 = length-append xs (false ∷ []) in
    let rest : n + 1 - length (xs ++ false ∷ []) ≡ n - length xs = omega arith in
    let next : suc (n - length xs) ≡ n + 1 - length xs = omega arith in
    ap (λ zs. zs ++ unmarked (n + 1 - length zs)) is
    ∙ ap (λ k. (xs ++ false ∷ []) ++ unmarked k) rest
    ∙ append_assoc xs (false ∷ []) (unmarked (n - length xs))
    ∙ ap (λ k. xs ++ unmarked k) next
