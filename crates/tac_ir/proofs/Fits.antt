-- What an instruction that is not stuck is given fits.
use Rattle.std.proofs.Common.{◌≡◌, ℕ, List, Bool, true, false, refl}
use Rattle.source_meaning.specs.State.{State, Setting}
use Rattle.tac_ir.specs.declared.instruction.Instruction.{Instruction}
use Rattle.tac_ir.specs.declared.function.Tac.{Tac}
use Rattle.tac_ir.specs.Stage.{Temps, Frame, Stage, Stuck}
use Rattle.tac_ir.specs.Accesses.{only_if}
use Rattle.tac_ir.specs.Meaning.{fits, effect, act}

-- a test is true where what stands behind it is not stuck, and goes on with that
pub only_true : (b : Bool) (x : Stage) → (only_if b x ≡ Stuck → ⊥) → (b ≡ true) × (only_if b x ≡ x)
only_true true x fine = (refl, refl)
only_true false x fine = absurd (fine refl)

pub only_opens : {b : Bool} (x : Stage) → b ≡ true → only_if b x ≡ x
only_opens {b = true} x e = refl
only_opens {b = false} x e = cc

pub act_fits : (g : Setting) (t : Tac) (i : Instruction) (u : ℕ) (temps : Temps) (frames : List Frame) (s : State)
    → (act g t i u temps frames s ≡ Stuck → ⊥)
    → (fits g t i u temps s ≡ true) × (act g t i u temps frames s ≡ effect g t i u temps frames s)
act_fits g t i u temps frames s fine = only_true (fits g t i u temps s) (effect g t i u temps frames s) fine
