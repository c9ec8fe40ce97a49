-- A scope in which all variables can be named.
use Rattle.std.proofs.Common.{◌≡◌, ◌⊎◌, inl, inr, ℕ, zero, suc, ◌+◌, ◌<◌, ◌≤◌, true, ◌||◌, refl, sym, ap, ◌∙◌, List}
use Rattle.std.proofs.Common.{[], ◌∷◌, length, if◌then◌else◌, arith}
use Rattle.std.specs.Prelude.{◌==◌}
use Rattle.std.proofs.lemmas.Bool.{cases_lt, eq-eqb}
use Rattle.c_tree.specs.declared.program.Variable.{Variable}
use Rattle.c_tree.specs.Blocks.{is_among, opened}
use Rattle.c_tree.specs.Valid.{Scope, within}
use Rattle.typing_laws.proofs.Validity.Primaries.{or_true}

-- the numbers below one
abbrev pub below : ℕ → List ℕ
below zero = []
below (suc n) = n ∷ below n

among_next : (n k : ℕ) → k < suc n → (k < n → is_among (below n) k ≡ true)
    → ((n == k) || is_among (below n) k) ≡ true
among_next n k low h = by (cases_lt k n)
  where
    by : (k < n) ⊎ (n ≤ k) → ((n == k) || is_among (below n) k) ≡ true
    by (inl less) = ap (λ b. (n == k) || b) (h less) ∙ or_true (n == k)
    by (inr high) =
        let same : n ≡ k = omega (arith, low, high) in ap (λ b. b || is_among (below n) k) (eq-eqb n k same)

below_among : (n k : ℕ) → k < n → is_among (below n) k ≡ true
below_among zero k low = absurd (omega (arith, low))
below_among (suc n) k low = among_next n k low (below_among n k)

opened_all : (numbers : List ℕ) (first : ℕ) (all vs : List Variable) → length vs ≡ length all
    → ((n : ℕ) → n < length all → is_among numbers (first + n) ≡ true) → opened numbers first all vs ≡ all
opened_all numbers first [] vs e h = refl
opened_all numbers first (d ∷ ds) [] e h = absurd cc
opened_all numbers first (d ∷ ds) (v ∷ vs) e h =
    let here : first + 0 ≡ first = omega arith in
    ap (λ b. (if b then d else v) ∷ opened numbers (suc first) ds vs)
    (ap (is_among numbers) (sym here) ∙ h 0 (omega arith))
    ∙ ap (λ z. d ∷ z)
    (opened_all numbers (suc first) ds vs (omega (arith, e))
    (λ n low. (let next : first + suc n ≡ suc first + n = omega arith in
    ap (is_among numbers) (sym next) ∙ h (suc n) (omega (arith, low)))))

abbrev pub every : Scope → List ℕ
every scope = below (length scope.all)

-- the same scope, where all variables can be named
abbrev pub opened_scope : Scope → Scope
opened_scope scope = within scope (every scope)

pub opened_scope_wide : (scope : Scope) → length scope.variables ≡ length scope.all
    → (opened_scope scope).variables ≡ (opened_scope scope).all
opened_scope_wide scope e =
    opened_all (every scope) 0 scope.all scope.variables e (λ n low. (let from : 0 + n ≡ n = omega arith in
    ap (is_among (every scope)) from ∙ below_among (length scope.all) n low))
