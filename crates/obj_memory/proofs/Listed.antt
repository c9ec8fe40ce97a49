-- Lists with other elements from a place on.
use Rattle.std.proofs.Common.{◌≡◌, ℕ, zero, suc, ◌+◌, ◌<◌, ◌≤◌, List, [], ◌∷◌, ◌++◌, length, take, drop, get_or}
use Rattle.std.proofs.Common.{arith, ◌⊎◌, inl, inr, sym, ap, subst, refl, ◌∙◌, set, replicate, length-take}
use Rattle.std.proofs.Common.{length-drop}
use Rattle.std.proofs.lemmas.List.{ext_get_or, get_or-take, get_or-drop}
use Rattle.std.proofs.lemmas.Grind.{common_steps}
use Rattle.obj_memory.specs.Access.{overwrite}

module _ {A : Type 0} where
  pub length-overwrite : (k : ℕ) (new old : List A) → k + length new ≤ length old
      → length (overwrite k new old) ≡ length old
  length-overwrite k new old h = grind (arith, common_steps)

  pub overwrite-read : (k : ℕ) (new old : List A) → k + length new ≤ length old
      → take (length new) (drop k (overwrite k new old)) ≡ new
  overwrite-read k new old h = grind (arith, common_steps)

  pub get_or-overwrite_before : (k : ℕ) (new old : List A) (i : ℕ) (d : A) → k + length new ≤ length old → i < k
      → get_or (overwrite k new old) i d ≡ get_or old i d
  get_or-overwrite_before k new old i d h lt = grind (arith, common_steps)

  pub get_or-overwrite_in : (k : ℕ) (new old : List A) (i : ℕ) (d : A) → k + length new ≤ length old
      → i < length new → get_or (overwrite k new old) (k + i) d ≡ get_or new i d
  get_or-overwrite_in k new old i d h lt = grind (arith, common_steps)

  pub get_or-overwrite_behind : (k : ℕ) (new old : List A) (i : ℕ) (d : A) → k + length new ≤ length old
      → k + length new ≤ i → get_or (overwrite k new old) i d ≡ get_or old i d
  get_or-overwrite_behind k new old i d h le = grind (arith, common_steps)

  pub get_or-overwrite_other : (k : ℕ) (new old : List A) (i : ℕ) (d : A) → k + length new ≤ length old
      → (i < k) ⊎ (k + length new ≤ i)
      → get_or (overwrite k new old) i d ≡ get_or old i d
  get_or-overwrite_other k new old i d h (inl before) = get_or-overwrite_before k new old i d h before
  get_or-overwrite_other k new old i d h (inr behind) = get_or-overwrite_behind k new old i d h behind

  -- parts of lists that have the same elements there
  pub same_part : (d : A) (i n : ℕ) (xs ys : List A) → length xs ≡ length ys
      → ((j : ℕ) → i ≤ j → j < i + n → get_or xs j d ≡ get_or ys j d)
      → take n (drop i xs) ≡ take n (drop i ys)
  same_part d i n xs ys same at = ext_get_or d (take n (drop i xs)) (take n (drop i ys)) sizes elements
    where
      sizes : length (take n (drop i xs)) ≡ length (take n (drop i ys))
      sizes = omega (
        arith,
        same,
        length-take n (drop i xs),
        length-take n
            (drop i ys),
        length-drop i xs,
        length-drop i ys,
      )

      elements : (j : ℕ) → j < length (take n (drop i xs)) → get_or (take n (drop i xs)) j d
          ≡ get_or (take n (drop i ys)) j d
      elements j lt =
          let below : j < n = omega (arith, lt, length-take n (drop i xs)) in
          (get_or-take n (drop i xs) j d below ∙ get_or-drop i xs j d)
          ∙ at (i + j) (omega arith) (omega (arith, below))
          ∙ sym (get_or-take n (drop i ys) j d below ∙ get_or-drop i ys j d)

  -- a part beside the new elements
  pub overwrite-other : (d : A) (k : ℕ) (new old : List A) (i n : ℕ) → k + length new ≤ length old
      → (i + n ≤ k) ⊎ (k + length new ≤ i)
      → take n (drop i (overwrite k new old)) ≡ take n (drop i old)
  overwrite-other d k new old i n h apart =
      same_part d i n (overwrite k new old) old (length-overwrite k new old h) (at apart)
    where
      at : (i + n ≤ k) ⊎ (k + length new ≤ i) → (j : ℕ) → i ≤ j → j < i + n
          → get_or (overwrite k new old) j d ≡ get_or old j d
      at (inl before) j ge lt = get_or-overwrite_before k new old j d h (omega (arith, before, lt))
      at (inr behind) j ge lt = get_or-overwrite_behind k new old j d h (omega (arith, behind, ge))

-- a property of every element, also of those past the end, which are the default
module _ {A : Type 0} (P : A → Type 0) (d : A) where
  pub every_append : (xs ys : List A) → ((i : ℕ) → P (get_or xs i d)) → ((i : ℕ) → P (get_or ys i d)) → (i : ℕ)
      → P (get_or (xs ++ ys) i d)
  every_append [] ys p q i = q i
  every_append (x ∷ xs) ys p q zero = p zero
  every_append (x ∷ xs) ys p q (suc i) = every_append xs ys (λ j. p (suc j)) q i

  pub every_take : (n : ℕ) (xs : List A) → P d → ((i : ℕ) → P (get_or xs i d)) → (i : ℕ) → P (get_or (take n xs) i d)
  every_take zero xs h p i = h
  every_take (suc n) [] h p i = h
  every_take (suc n) (x ∷ xs) h p zero = p zero
  every_take (suc n) (x ∷ xs) h p (suc i) = every_take n xs h (λ j. p (suc j)) i

  pub every_drop : (n : ℕ) (xs : List A) → ((i : ℕ) → P (get_or xs i d)) → (i : ℕ) → P (get_or (drop n xs) i d)
  every_drop n xs p i = subst P (sym (get_or-drop n xs i d)) (p (n + i))

  pub every_overwrite : (k : ℕ) (new old : List A) → P d → ((i : ℕ) → P (get_or new i d))
      → ((i : ℕ) → P (get_or old i d)) → (i : ℕ) → P (get_or (overwrite k new old) i d)
  every_overwrite k new old h p q =
      every_append (take k old) (new ++ drop (k + length new) old) (every_take k old h q)
      (every_append new (drop (k + length new) old) p (every_drop (k + length new) old q))

  pub every_replicate : (n : ℕ) (a : A) → P d → P a → (i : ℕ) → P (get_or (replicate n a) i d)
  every_replicate zero a h p i = h
  every_replicate (suc n) a h p zero = p
  every_replicate (suc n) a h p (suc i) = every_replicate n a h p i

  -- an element of a list in which one was set
  pub at_set : (xs : List A) (n m : ℕ) (x : A) → (m ≡ n → P x) → P (get_or xs m d) → P (get_or (set xs n x) m d)
  at_set [] n m x p q = q
  at_set (y ∷ ys) zero zero x p q = p refl
  at_set (y ∷ ys) zero (suc m) x p q = q
  at_set (y ∷ ys) (suc n) zero x p q = q
  at_set (y ∷ ys) (suc n) (suc m) x p q = at_set ys n m x (λ e. p (ap suc e)) q

  -- an element of a list to which one was added
  pub at_added : (xs : List A) (m : ℕ) (x : A) → (m ≡ length xs → P x) → P (get_or xs m d)
      → P (get_or (xs ++ (x ∷ [])) m d)
  at_added [] zero x p q = p refl
  at_added [] (suc m) x p q = q
  at_added (y ∷ ys) zero x p q = q
  at_added (y ∷ ys) (suc m) x p q = at_added ys m x (λ e. p (ap suc e)) q
