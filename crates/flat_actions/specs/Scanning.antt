-- The bytes of a string that are scanned in flat code, by a function of the runtime.
use Rattle.std.specs.Prelude.{◌≡◌, ℕ, ◌+◌, ◌*◌, ◌^◌, ◌<◌, ◌≤◌, List, [], ◌∷◌, length, get_or}
use Rattle.sb_base.specs.Endings.{code_of, report_of}
use Rattle.obj_memory.specs.declared.value.Value.{Value}
use Rattle.source_meaning.specs.State.{State as Source, Outcome as Completed, Gives, Ended, Paused, Run}
use Rattle.flat_code.specs.declared.instruction.FlatInstruction.{FlatInstruction}
use Rattle.flat_code.specs.State.{State}
use Rattle.flat_code.specs.declared.registers.Held.{Held}
use Rattle.flat_code.specs.Routines.Registers.{OthersStay}
use Rattle.flat_code.specs.Routines.Routine.{Does, Outcome, Continues, Halts}
use Rattle.flat_code.specs.Routines.Metadata.{ShowsNothing}
use Rattle.flat_code.specs.Routines.Objects.StandsFor.{Keys}
use Rattle.flat_actions.specs.Actions.{Basis, Pointer, IsHeldBy, IsFor, ChangesNothing, context_in, views_of}
use Rattle.flat_actions.specs.Actions.{work_of}

-- a state of the source with more work done
pub record IsWorked (before after : Source) : Type 0 where
  pub work : before.work ≤ after.work
  pub same : after ≡ record before { work = after.work }

-- the register of the cursor has the address behind these bytes, which stand in memory from an address on
pub record HasScanned (word : ℕ) (bytes : List ℕ) (cursor scratch : ℕ) (before after : State) : Type 0 where
  pub cursor_is : after.values cursor ≡ word + length bytes
  pub small : word + length bytes < 2 ^ 63
  pub there : (i : ℕ) → i < length bytes → before.memory (word + i) ≡ get_or bytes i 0
  pub memory : after.memory ≡ before.memory
  pub shows : ShowsNothing before after
  pub others : OthersStay (cursor ∷ []) scratch before after

abbrev pub IsScanned : (word cursor scratch : ℕ) → Source → State → Completed (List ℕ) → Outcome → Type 0
IsScanned word cursor t x f (Gives bytes x') (Continues f') = IsWorked x x' × HasScanned word bytes cursor t f f'
IsScanned word cursor t x f (Ended e x') (Halts status report f') =
    (status ≡ code_of e) × (report ≡ report_of e) × IsWorked x x' × ChangesNothing f f'
IsScanned word cursor t x f (Gives bytes x') (Halts status report f') = ⊥
IsScanned word cursor t x f (Ended e x') (Continues f') = ⊥
IsScanned word cursor t x f (Paused x') o = ⊥

-- within 16 steps and 8 for each byte that is looked at
abbrev pub IsScanRoutine : Basis → (run : Value → Run (List ℕ)) → Held → (P : State → Type 0) → (cursor scratch : ℕ)
    → List FlatInstruction → Type 0
IsScanRoutine basis run h P cursor t r =
    (functions : ℕ) (types : ℕ → ℕ) (k : Keys) (x : Source) (v : Value)
    (charge weight : ℕ) →
    let g = views_of basis.map functions types basis.entry in
    Does (context_in basis charge weight) r
    (λ f. IsFor g k basis.IsGood x f × IsHeldBy g k x.objects (Pointer h) v f.values × P f)
    (λ f. 16 + 8 * work_of (run v) x) (λ f. IsScanned v.word cursor t x f (run v x))
