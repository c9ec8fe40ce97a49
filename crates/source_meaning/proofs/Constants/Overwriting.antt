-- Lists with other elements from a place on.
use Rattle.std.proofs.Common.{◌≡◌, ℕ, suc, ◌+◌, ◌-◌, ◌<◌, ◌≤◌, List, [], ◌∷◌, length, get_or, ap, sym, ◌∙◌, ◌⊎◌, inl}
use Rattle.std.proofs.Common.{inr, arith}
use Rattle.std.proofs.lemmas.Bool.{cases_lt}
use Rattle.std.proofs.lemmas.List.{ext_get_or}
use Rattle.std.proofs.lemmas.Grind.{common_steps}
use Rattle.obj_memory.specs.Access.{overwrite}

pub length_overwrite : (k : ℕ) (new old : List ℕ) → k + length new ≤ length old
    → length (overwrite k new old) ≡ length old
length_overwrite k new old h = grind (arith, common_steps)

before : (k : ℕ) (new old : List ℕ) (i : ℕ) → k + length new ≤ length old → i < k
    → get_or (overwrite k new old) i 0 ≡ get_or old i 0
before k new old i h lt = grind (arith, common_steps)

within : (k : ℕ) (new old : List ℕ) (i : ℕ) → k + length new ≤ length old → i < length new
    → get_or (overwrite k new old) (k + i) 0 ≡ get_or new i 0
within k new old i h lt = grind (arith, common_steps)

behind : (k : ℕ) (new old : List ℕ) (i : ℕ) → k + length new ≤ length old → k + length new ≤ i
    → get_or (overwrite k new old) i 0 ≡ get_or old i 0
behind k new old i h le = grind (arith, common_steps)

within_at : (k : ℕ) (new old : List ℕ) (i j : ℕ) → k + length new ≤ length old → i < length new → j ≡ k + i
    → get_or (overwrite k new old) j 0 ≡ get_or new i 0
within_at k new old i j h lt e = ap (λ m. get_or (overwrite k new old) m 0) e ∙ within k new old i h lt

-- one element after another
module _ (k b : ℕ) (bs old : List ℕ) (fits : k + 1 + length bs ≤ length old) where
  abbrev first : List ℕ
  first = overwrite k (b ∷ []) old

  long : length first ≡ length old
  long = length_overwrite k (b ∷ []) old (omega (arith, fits))

  sizes : length (overwrite (k + 1) bs first) ≡ length (overwrite k (b ∷ bs) old)
  sizes =
      length_overwrite (k + 1) bs first (omega (arith, fits, long)) ∙ long
      ∙ sym (length_overwrite k (b ∷ bs) old (omega (arith, fits)))

  same_before : (j : ℕ) → j < k → get_or (overwrite (k + 1) bs first) j 0 ≡ get_or (overwrite k (b ∷ bs) old) j 0
  same_before j lt =
      before (k + 1) bs first j (omega (arith, fits, long)) (omega (arith, lt))
      ∙ before k (b ∷ []) old j (omega (arith, fits)) lt
      ∙ sym (before k (b ∷ bs) old j (omega (arith, fits)) lt)

  same_first : (j : ℕ) → j ≡ k → get_or (overwrite (k + 1) bs first) j 0 ≡ get_or (overwrite k (b ∷ bs) old) j 0
  same_first j e =
      before (k + 1) bs first j (omega (arith, fits, long)) (omega (arith, e))
      ∙ within_at k (b ∷ []) old 0 j (omega (arith, fits)) (omega arith) (omega (arith, e))
      ∙ sym (within_at k (b ∷ bs) old 0 j (omega (arith, fits)) (omega arith) (omega (arith, e)))

  same_within : (i j : ℕ) → i < length bs → j ≡ k + 1 + i
      → get_or (overwrite (k + 1) bs first) j 0 ≡ get_or (overwrite k (b ∷ bs) old) j 0
  same_within i j lt e =
      within_at (k + 1) bs first i j (omega (arith, fits, long)) lt (omega (arith, e))
      ∙ sym (within_at k (b ∷ bs) old (suc i) j (omega (arith, fits)) (omega (arith, lt)) (omega (arith, e)))

  same_behind : (j : ℕ) → k + 1 + length bs ≤ j
      → get_or (overwrite (k + 1) bs first) j 0 ≡ get_or (overwrite k (b ∷ bs) old) j 0
  same_behind j le =
      behind (k + 1) bs first j (omega (arith, fits, long)) (omega (arith, le))
      ∙ behind k (b ∷ []) old j (omega (arith, fits)) (omega (arith, le))
      ∙ sym (behind k (b ∷ bs) old j (omega (arith, fits)) (omega (arith, le)))

  same_from : (j : ℕ) → k + 1 ≤ j → (j < k + 1 + length bs) ⊎ (k + 1 + length bs ≤ j)
      → get_or (overwrite (k + 1) bs first) j 0 ≡ get_or (overwrite k (b ∷ bs) old) j 0
  same_from j le (inl lt) = same_within (j - (k + 1)) j (omega (arith, le, lt)) (omega (arith, le))
  same_from j le (inr past) = same_behind j past

  same_at : (j : ℕ) → (j < k) ⊎ (k ≤ j) → (j < k + 1) ⊎ (k + 1 ≤ j)
      → get_or (overwrite (k + 1) bs first) j 0 ≡ get_or (overwrite k (b ∷ bs) old) j 0
  same_at j (inl lt) next = same_before j lt
  same_at j (inr le) (inl lt) = same_first j (omega (arith, le, lt))
  same_at j (inr le) (inr past) = same_from j past (cases_lt j (k + 1 + length bs))

  pub more_elements : overwrite (k + 1) bs (overwrite k (b ∷ []) old) ≡ overwrite k (b ∷ bs) old
  more_elements = ext_get_or 0 (overwrite (k + 1) bs first) (overwrite k (b ∷ bs) old) sizes
      (λ j lt. same_at j (cases_lt j k) (cases_lt j (k + 1)))
