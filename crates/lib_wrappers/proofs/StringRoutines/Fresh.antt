-- Registers from scratch on are none of those below.
use Rattle.std.proofs.Common.{ℕ, ◌≤◌, List, [], ◌∷◌, arith}
use Rattle.flat_code.specs.Routines.Registers.{AreNoneOf, AreBelow}

pub apart_from : (t u : ℕ) (xs : List ℕ) → t ≤ u → AreBelow t xs → AreNoneOf xs (u ∷ [])
apart_from t u [] le below = tt
apart_from t u (x ∷ xs) le below =
    let l = below.0 in (((λ e. omega (arith, e)), tt), apart_from t u xs le below.1)
