-- Violations in the order of the tokens at which they are judged.
use Rattle.std.specs.Prelude.{ℕ, suc, ◌≤◌, List, [], ◌∷◌}
use Rattle.c_syntax.specs.Words.{Words}
use Rattle.typing_laws.specs.Violations.Judgements.{Violation}

-- words whose numbers ascend, from a number on
abbrev pub Ascend : ℕ → Words → Type 0
Ascend n [] = Unit {0}
Ascend n (w ∷ ws) = (n ≤ w.position.at) × Ascend (suc w.position.at) ws

-- violations at tokens from a number on, none before the token of the one before it
abbrev pub AreInOrder : (first : ℕ) → List Violation → Type 0
AreInOrder n [] = Unit {0}
AreInOrder n (v ∷ vs) = (n ≤ v.token) × AreInOrder v.token vs
