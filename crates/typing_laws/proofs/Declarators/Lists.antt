-- Lists with one element changed or one more.
use Rattle.std.proofs.Common.{◌≡◌, ◌⊎◌, inl, inr, ℕ, zero, suc, refl, sym, ap, List, [], ◌∷◌, ◌++◌}
use Rattle.std.proofs.Common.{length, Option, Some, None, ◌<◌, arith}
use Rattle.std.specs.Prelude.{slice_get, get_or}
use Rattle.c_scope.specs.Structures.{changed}
use Rattle.typing_laws.proofs.Validity.Common.{the_same}

pub changed_length : {A : Type 0} (n : ℕ) (f : A → A) (xs : List A) → length (changed n f xs) ≡ length xs
changed_length n f [] = refl
changed_length zero f (x ∷ xs) = refl
changed_length (suc n) f (x ∷ xs) = ap suc (changed_length n f xs)

pub added_length : {A : Type 0} (xs : List A) (x : A) → length (xs ++ x ∷ []) ≡ suc (length xs)
added_length [] x = refl
added_length (y ∷ xs) x = ap suc (added_length xs x)

-- what is read of an element in the same way before and behind a change
pub read_changed : {A B : Type 0} (g : Option A → B) (f : A → A) → ((x : A) → g (Some (f x)) ≡ g (Some x)) → (n : ℕ)
    (xs : List A) (m : ℕ) → g (slice_get (changed n f xs) m) ≡ g (slice_get xs m)
read_changed g f h n [] m = refl
read_changed g f h zero (x ∷ xs) zero = h x
read_changed g f h zero (x ∷ xs) (suc m) = refl
read_changed g f h (suc n) (x ∷ xs) zero = refl
read_changed g f h (suc n) (x ∷ xs) (suc m) = read_changed g f h n xs m

-- and of one more element as of none
pub read_added : {A B : Type 0} (g : Option A → B) (y : A) → g (Some y) ≡ g None → (xs : List A) (m : ℕ)
    → g (slice_get (xs ++ y ∷ []) m) ≡ g (slice_get xs m)
read_added g y h [] zero = h
read_added g y h [] (suc m) = refl
read_added g y h (x ∷ xs) zero = refl
read_added g y h (x ∷ xs) (suc m) = read_added g y h xs m

pub get_added : {A : Type 0} (xs : List (Option A)) (m : ℕ) → get_or (xs ++ None ∷ []) m None ≡ get_or xs m None
get_added [] zero = refl
get_added [] (suc m) = refl
get_added (x ∷ xs) zero = refl
get_added (x ∷ xs) (suc m) = get_added xs m

pub get_behind : {A : Type 0} (xs : List (Option A)) → get_or xs (length xs) None ≡ None
get_behind [] = refl
get_behind (x ∷ xs) = get_behind xs

pub same_or : (m n : ℕ) → (m ≡ n) ⊎ (m ≡ n → ⊥)
same_or zero zero = inl refl
same_or zero (suc n) = inr (λ e. cc)
same_or (suc m) zero = inr (λ e. cc)
same_or (suc m) (suc n) = by (same_or m n)
  where
    by : (m ≡ n) ⊎ (m ≡ n → ⊥) → (suc m ≡ suc n) ⊎ (suc m ≡ suc n → ⊥)
    by (inl e) = inl (ap suc e)
    by (inr h) = inr (λ e. h (omega (arith, e)))

pub other_changed : {A : Type 0} (n : ℕ) (f : A → A) (xs : List A) (m : ℕ) → (m ≡ n → ⊥)
    → slice_get (changed n f xs) m ≡ slice_get xs m
other_changed n f [] m h = refl
other_changed zero f (x ∷ xs) zero h = absurd (h refl)
other_changed zero f (x ∷ xs) (suc m) h = refl
other_changed (suc n) f (x ∷ xs) zero h = refl
other_changed (suc n) f (x ∷ xs) (suc m) h = other_changed n f xs m (λ e. h (ap suc e))

pub other_got : {A : Type 0} (n : ℕ) (f : Option A → Option A) (xs : List (Option A)) (m : ℕ) → (m ≡ n → ⊥)
    → get_or (changed n f xs) m None ≡ get_or xs m None
other_got n f [] m h = refl
other_got zero f (x ∷ xs) zero h = absurd (h refl)
other_got zero f (x ∷ xs) (suc m) h = refl
other_got (suc n) f (x ∷ xs) zero h = refl
other_got (suc n) f (x ∷ xs) (suc m) h = other_got n f xs m (λ e. h (ap suc e))

pub got_changed : {A : Type 0} (n : ℕ) (f : Option A → Option A) (xs : List (Option A)) → n < length xs
    → get_or (changed n f xs) n None ≡ f (get_or xs n None)
got_changed n f [] h = absurd (omega arith)
got_changed zero f (x ∷ xs) h = refl
got_changed (suc n) f (x ∷ xs) h = got_changed n f xs (omega arith)

pub none_changed : {A : Type 0} (n : ℕ) (f : Option A → Option A) (xs : List (Option A)) (y : A)
    → get_or (changed n f xs) n None ≡ Some y → n < length xs
none_changed n f [] y e = cc
none_changed zero f (x ∷ xs) y e = omega arith
none_changed (suc n) f (x ∷ xs) y e = let low = none_changed n f xs y e in omega arith

pub there_changed : {A : Type 0} (n : ℕ) (f : A → A) (xs : List A) → n < length xs
    → (x : A) × (slice_get (changed n f xs) n ≡ Some (f x)) × (slice_get xs n ≡ Some x)
there_changed n f [] h = absurd (omega arith)
there_changed zero f (x ∷ xs) h = (x, refl, refl)
there_changed (suc n) f (x ∷ xs) h = there_changed n f xs (omega arith)

pub got_there : {A : Type 0} (n : ℕ) (f : A → A) (xs : List A) (y : A) → slice_get (changed n f xs) n ≡ Some y
    → (x : A) × (y ≡ f x) × (slice_get xs n ≡ Some x)
got_there n f [] y e = absurd cc
got_there zero f (x ∷ xs) y e = (x, sym (the_same e), refl)
got_there (suc n) f (x ∷ xs) y e = got_there n f xs y e
