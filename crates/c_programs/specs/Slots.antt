-- Things by their numbers, of which the first with a number counts.
use Rattle.std.specs.Prelude.{ℕ, zero, suc, List, [], ◌∷◌, Option, Some, None}

-- what is at a place, where something comes there
abbrev pub kept : {A : Type 0} → Option A → A → Option A
kept None x = Some x
kept (Some y) x = Some y

unfoldable pub placed : {A : Type 0} → (place : ℕ) → A → List (Option A) → List (Option A)
placed n x [] = []
placed zero x (s ∷ ss) = kept s x ∷ ss
placed (suc n) x (s ∷ ss) = s ∷ placed n x ss

-- one thing after the other
abbrev pub all_placed : {A : Type 0} → List (ℕ × A) → List (Option A) → List (Option A)
all_placed [] ss = ss
all_placed (x ∷ xs) ss = all_placed xs (placed x.0 x.1 ss)
