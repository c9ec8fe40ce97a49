-- Virtual registers that differ, and those that keep their values.
use Rattle.std.specs.Prelude.{◌≡◌, ◌≢◌, ℕ, ◌<◌, List, [], ◌∷◌}
use Rattle.flat_code.specs.State.{State}

-- a register is none of these
abbrev pub IsNoneOf : ℕ → List ℕ → Type 0
IsNoneOf x [] = Unit {0}
IsNoneOf x (y ∷ ys) = (x ≢ y) × IsNoneOf x ys

-- no register of the first list is one of the second
abbrev pub AreNoneOf : List ℕ → List ℕ → Type 0
AreNoneOf [] ys = Unit {0}
AreNoneOf (x ∷ xs) ys = IsNoneOf x ys × AreNoneOf xs ys

-- no two of them are one
abbrev pub AreDistinct : List ℕ → Type 0
AreDistinct [] = Unit {0}
AreDistinct (x ∷ xs) = IsNoneOf x xs × AreDistinct xs

-- each is below the first register that a routine may use for itself
abbrev pub AreBelow : (scratch : ℕ) → List ℕ → Type 0
AreBelow scratch [] = Unit {0}
AreBelow scratch (x ∷ xs) = (x < scratch) × AreBelow scratch xs

-- the registers below scratch keep their values, but for those listed
abbrev pub OthersStay : (results : List ℕ) → (scratch : ℕ) → State → State → Type 0
OthersStay xs scratch s s' = (x : ℕ) → x < scratch → IsNoneOf x xs → s'.values x ≡ s.values x
