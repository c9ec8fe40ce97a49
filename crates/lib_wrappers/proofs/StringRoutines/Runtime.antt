-- Accesses of functions of the runtime.
use Rattle.std.proofs.Common.{◌≡◌, ℕ, List, [], ◌∷◌, ◌++◌, true, not, ◌&&◌, if◌then◌else◌, ap, sym}
use Rattle.std.proofs.Common.{subst}
use Rattle.behaviours.specs.Shown.{Access, AccessKind}
use Rattle.flat_code.specs.Spaces.{is_of_objects}
use Rattle.flat_code.specs.Meaning.{Context}
use Rattle.flat_code.specs.declared.instruction.FlatInstruction.{FlatInstruction}
use Rattle.flat_code.specs.State.{State}
use Rattle.flat_code.specs.Routines.Effects.{with_shown}
use Rattle.flat_code.specs.Routines.Routine.{Outcome, Does}
use Rattle.flat_actions.specs.Actions.{Basis, context_in}

-- they are not shown
pub runtime_not_shown : (c : Context) → c.is_runtime ≡ true → (a n : ℕ) (kind : AccessKind) (accesses : List Access)
    → with_shown c a n kind accesses ≡ accesses
runtime_not_shown c runtime a n kind accesses =
    ap (λ z. if not z && is_of_objects c.sizes a n
    then accesses ++ record { address = a; size = n; kind = kind } ∷ [] else accesses) runtime

-- what a routine does in functions of the runtime, it does under a basis that is one of them
pub does_in : (basis : Basis) → basis.is_runtime ≡ true → (charge weight : ℕ) (r : List FlatInstruction)
    (P : State → Type 0) (B : State → ℕ) (Q : State → Outcome → Type 0)
    → Does (record { sizes = basis.map; is_runtime = true; charge = charge; weight = weight }) r P B Q
    → Does (context_in basis charge weight) r P B Q
does_in basis runtime charge weight r P B Q does =
    subst (λ b. Does (record { sizes = basis.map; is_runtime = b; charge = charge; weight = weight }) r P B Q)
    (sym runtime) does
