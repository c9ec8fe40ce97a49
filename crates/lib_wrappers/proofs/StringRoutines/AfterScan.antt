-- What follows a scan: an ending, or the bytes and the cursor behind them.
use Rattle.std.proofs.Common.{◌≡◌, ℕ, ◌+◌, ◌≤◌, List, refl, sym, subst, arith}
use Rattle.sb_base.specs.declared.ending.Ending.{Ending}
use Rattle.sb_base.specs.Endings.{code_of, report_of}
use Rattle.addr_map.specs.Places.{MapSizes}
use Rattle.source_meaning.specs.State.{State as Source, Outcome as Completed, Gives, Ended, Paused}
use Rattle.source_meaning.specs.Acting.{state_of}
use Rattle.flat_code.specs.declared.instruction.FlatInstruction.{FlatInstruction}
use Rattle.flat_code.specs.State.{State}
use Rattle.flat_code.specs.Words.{IsOfWords}
use Rattle.flat_code.specs.Meaning.{Context, Goes}
use Rattle.flat_code.specs.Routines.Routine.{Outcome, Continues, Halts, Reaches, Either, Never}
use Rattle.flat_code.proofs.Routines.Rules.{weaken, ends_there, next}
use Rattle.flat_actions.specs.Actions.{IsShown, HasEnded, ChangesNothing}
use Rattle.flat_actions.specs.Scanning.{IsWorked, HasScanned, IsScanned}
use Rattle.flat_actions.proofs.Standing.{ended_still, unwritten_same}

-- a scan takes no work back
works_on : (word cursor t : ℕ) (x : Source) (f : State) (r : Completed (List ℕ)) (o : Outcome)
    → IsScanned word cursor t x f r o → x.work ≤ (state_of r).work
works_on word cursor t x f (Gives bytes x') (Continues f') i = i.0.work
works_on word cursor t x f (Ended e x') (Halts status report f') i = i.2.work
works_on word cursor t x f (Gives bytes x') (Halts status report f') i = absurd i
works_on word cursor t x f (Ended e x') (Continues f') i = absurd i
works_on word cursor t x f (Paused x') o i = absurd i

-- the run is over where a scan ends it
pub over : {map : MapSizes} (x x' : Source) (e : Ending) (f f' : State) → IsShown x f → IsWorked x x'
    → ChangesNothing f f' → HasEnded map e x' (code_of e) (report_of e) f f'
over {map} x x' e f f' shown worked still =
    subst (λ y. HasEnded map e y (code_of e) (report_of e) f f') (sym worked.same)
    (ended_still e x x'.work (code_of e) (report_of e) f f' shown still.shows (unwritten_same still.memory) refl refl)

module _ (c : Context) (code : List FlatInstruction) where
  pub after_scan : (a total : ℕ) (b : List ℕ → Source → ℕ) (pc middle end : ℕ) (f : State) (word cursor t : ℕ)
      (x : Source) (r : Completed (List ℕ)) (R : Outcome → Type 0) → IsOfWords f
      → Reaches c code a (Goes pc f) middle (IsScanned word cursor t x f r)
      → ((e : Ending) (x' : Source) → r ≡ Ended e x' → IsWorked x x'
      → (a ≤ total) × ((f' : State) → ChangesNothing f f' → R (Halts (code_of e) (report_of e) f')))
      → ((bytes : List ℕ) (x' : Source) → r ≡ Gives bytes x' → x.work ≤ x'.work → a + b bytes x' ≤ total)
      → ((bytes : List ℕ) (x' : Source) → r ≡ Gives bytes x' → (f' : State) → IsOfWords f' → IsWorked x x'
      → HasScanned word bytes cursor t f f' → Reaches c code (b bytes x') (Goes middle f') end R)
      → Reaches c code total (Goes pc f) end R
  after_scan a total b pc middle end f word cursor t x (Gives bytes x') R words run over few on =
      weaken c code (a + b bytes x') total (Goes pc f) end R R
      (few bytes x' refl (works_on word cursor t x f (Gives bytes x') run.outcome run.holds)) (λ o i. i)
      (next c code a (b bytes x') (Goes pc f) middle end (λ f'. IsWorked x x' × HasScanned word bytes cursor t f f')
      Never R words (weaken c code a a (Goes pc f) middle _ _ (omega arith) by run)
      (λ f' words' i. on bytes x' refl f' words' i.0 i.1) (λ status report f' never. absurd never))
    where
      by : (o : Outcome) → IsScanned word cursor t x f (Gives bytes x') o
          → Either (λ f'. IsWorked x x' × HasScanned word bytes cursor t f f') Never o
      by (Continues f') i = i
      by (Halts status report f') i = i
  after_scan a total b pc middle end f word cursor t x (Ended e x') R words run over few on =
      let z = over e x' refl (worked run.outcome run.holds) in
      weaken c code a total (Goes pc f) end R R z.0 (λ o i. i)
      (ends_there c code a (Goes pc f) middle end (IsScanned word cursor t x f (Ended e x')) R run (λ f' never. never)
      (λ status report f' i.
      subst (λ s. R (Halts s report f')) (sym i.0)
      (subst (λ q. R (Halts (code_of e) q f')) (sym i.1) (z.1 f' i.3))))
    where
      worked : (o : Outcome) → IsScanned word cursor t x f (Ended e x') o → IsWorked x x'
      worked (Halts status report f') i = i.2
      worked (Continues f') i = absurd i
  after_scan a total b pc middle end f word cursor t x (Paused x') R words run over few on = absurd run.holds
