-- A check that is not stuck is of what its key gives.
use Rattle.std.proofs.Common.{◌≡◌, ℕ, List, Option, Some, None, true, refl, ◌∙◌}
use Rattle.std.specs.Prelude.{slice_get}
use Rattle.obj_memory.specs.declared.value.Value.{Value}
use Rattle.source_meaning.specs.State.{State, Setting}
use Rattle.tac_ir.specs.declared.instruction.Test.{Test}
use Rattle.tac_ir.specs.declared.instruction.Instruction.TheVariants.{Judge}
use Rattle.tac_ir.specs.declared.key.Key.{Key}
use Rattle.tac_ir.specs.declared.function.Tac.{Tac}
use Rattle.tac_ir.specs.Stage.{Temps, Frame, Stage, Stands, Stuck, came}
use Rattle.tac_ir.specs.Keys.{gives}
use Rattle.tac_ir.specs.Accesses.{only_if, can_check}
use Rattle.tac_ir.specs.Meaning.{check, keys_of, function_in, keyed_by, act}
use Rattle.tac_ir.proofs.Fits.{only_true, act_fits}

key_found : (key : Option Key) (s : State) (v : Value) (x : Stage) → (keyed_by key s v x ≡ Stuck → ⊥)
    → (k : Key) × (key ≡ Some k) × (gives k s v ≡ true)
key_found None s v x fine = absurd (fine refl)
key_found (Some k) s v x fine = (k, refl, (only_true (gives k s v) x fine).0)

pub check_keyed : (g : Setting) (t : Tac) (of : Test) (size line n a m u : ℕ) (temps : Temps) (frames : List Frame)
    (s : State) → (act g t (Judge of size line (Some n) a m) u temps frames s ≡ Stuck → ⊥)
    → (key : Key) × (slice_get (keys_of (function_in t u)) n ≡ Some key) × (gives key s (temps a).value ≡ true)
check_keyed g t of size line n a m u temps frames s fine =
    key_found (slice_get (keys_of (function_in t u)) n) s (temps a).value
    (only_if (can_check of size (temps a).value)
    (came (check of size (temps a).value line s) (λ _ z. Stands u m temps frames z)))
    (λ stuck. fine ((act_fits g t (Judge of size line (Some n) a m) u temps frames s fine).1 ∙ stuck))
