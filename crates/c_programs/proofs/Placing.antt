-- A place that is empty takes what comes there; one that is full, or not there, does not.
use Rattle.std.proofs.Common.{◌≡◌, ℕ, zero, suc, ◌+◌, ◌<◌, ◌≤◌, refl, ap, ◌∙◌, List, [], ◌∷◌, ◌++◌, length, get_or}
use Rattle.std.proofs.Common.{set, replicate}
use Rattle.std.proofs.Common.{arith}
use Rattle.std.specs.Prelude.{Option, Some, None, is_none, false}
use Rattle.std.proofs.lemmas.List.{replicate_more}
use Rattle.c_programs.specs.Slots.{all_placed, placed}

pub placed_empty : {A : Type 0} (n : ℕ) (x : A) (ss : List (Option A)) → n < length ss → None ≡ get_or ss n None
    → set ss n (Some x) ≡ placed n x ss
unfolding placed
placed_empty n x [] here e = absurd (omega arith)
placed_empty zero x (None ∷ ss) here e = refl
placed_empty zero x (Some y ∷ ss) here e = cc
placed_empty (suc n) x (s ∷ ss) here e = ap (λ z. s ∷ z) (placed_empty n x ss (omega arith) e)

pub placed_full : {A : Type 0} (n : ℕ) (x : A) (ss : List (Option A)) → n < length ss
    → is_none (get_or ss n None) ≡ false → ss ≡ placed n x ss
unfolding placed
placed_full n x [] here e = absurd (omega arith)
placed_full zero x (None ∷ ss) here e = cc
placed_full zero x (Some z ∷ ss) here e = refl
placed_full (suc n) x (s ∷ ss) here e = ap (λ z. s ∷ z) (placed_full n x ss (omega arith) e)

pub placed_past : {A : Type 0} (n : ℕ) (x : A) (ss : List (Option A)) → length ss ≤ n → ss ≡ placed n x ss
unfolding placed
placed_past n x [] past = refl
placed_past zero x (s ∷ ss) past = absurd (omega arith)
placed_past (suc n) x (s ∷ ss) past = ap (λ z. s ∷ z) (placed_past n x ss (omega arith))

pub ruleset placing = (placed_empty, placed_full, placed_past)

pub one_more : {A : Type 0} (n : ℕ) (xs ys : List (Option A)) → xs ≡ replicate n None → ys ≡ xs ++ None ∷ []
    → ys ≡ replicate (n + 1) None
one_more {A} n xs ys e more =
    let none : Option A = None in more ∙ ap (λ z. z ++ none ∷ []) e ∙ replicate_more n none

pub as_long : {A : Type 0} (n : ℕ) (x : A) (ss : List (Option A)) → length (placed n x ss) ≡ length ss
unfolding placed
as_long n x [] = refl
as_long zero x (s ∷ ss) = refl
as_long (suc n) x (s ∷ ss) = ap suc (as_long n x ss)

pub all_as_long : {A : Type 0} (xs : List (ℕ × A)) (ss : List (Option A)) → length (all_placed xs ss) ≡ length ss
all_as_long [] ss = refl
all_as_long (x ∷ xs) ss = all_as_long xs (placed x.0 x.1 ss) ∙ as_long x.0 x.1 ss
