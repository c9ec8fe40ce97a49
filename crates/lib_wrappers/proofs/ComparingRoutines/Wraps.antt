-- Routines over their own registers that answer as the source does are whole actions.
use Rattle.std.proofs.Common.{◌≡◌, ℕ, ◌+◌, ◌*◌, List, ◌++◌, true, length, map, refl, sym, ◌∙◌, subst, arith}
use Rattle.sb_base.specs.declared.ending.Ending.{Ending}
use Rattle.sb_base.specs.Endings.{code_of, report_of}
use Rattle.addr_map.specs.Places.{MapSizes}
use Rattle.obj_memory.specs.declared.value.Value.{Value}
use Rattle.source_meaning.specs.State.{State as Source, Outcome as Completed, Gives, Ended, Paused, Run}
use Rattle.source_meaning.specs.Acting.{at_work}
use Rattle.flat_code.specs.declared.instruction.FlatInstruction.{FlatInstruction}
use Rattle.flat_code.specs.Memory.{Bytes}
use Rattle.flat_code.specs.State.{State}
use Rattle.flat_code.specs.Words.{IsOfWords}
use Rattle.flat_code.specs.Meaning.{Goes}
use Rattle.flat_code.specs.Routines.Routine.{Outcome, Continues, Halts, Reaches, Either}
use Rattle.flat_code.specs.Routines.Renaming.{rename, all_fit, through, Agrees, ChangesOnly}
use Rattle.flat_code.specs.Routines.Metadata.{View, ShowsNothing}
use Rattle.flat_code.proofs.Routines.Rules.{weaken}
use Rattle.flat_code.proofs.Routines.Distinct.{AreRegisters, register_of, registers_rename, others_stay}
use Rattle.flat_code.proofs.Routines.Wrapped.{routine_that_may_end}
use Rattle.flat_code.specs.Routines.Objects.StandsFor.{Views, Keys}
use Rattle.shadow_space.proofs.Entries.{context_of, agrees_shows, agrees_memory}
use Rattle.flat_actions.specs.Actions.{ChangesNothing}
use Rattle.flat_actions.specs.Actions.{IsFor, Holder, registers_of, IsGivenIn, AreHeldBy, Leaves, views_of, work_of}
use Rattle.flat_actions.specs.Actions.{runtime_basis}
use Rattle.flat_actions.specs.Actions.{IsAction}
use Rattle.flat_actions.proofs.Standing.{given_still, ended_still, unwritten_same}
use Rattle.lib_wrappers.specs.ComparingRoutines.Answering.{IsAnswered}

shows_seen : (f : ℕ → ℕ) (s v : State) → ShowsNothing (through f s) v → ShowsNothing s v
shows_seen f s v h = record {
  input = h.input;
  output = h.output;
  taken = h.taken;
  accesses = h.accesses;
  turns = h.turns;
}

-- an access is refused
pub refused : (g : Views) (k : Keys) (result : Holder) (x : Source) (f : State) (o : Completed Value) (e : Ending)
    (w : ℕ)
    (z : State) → o ≡ Ended e (at_work w x) → ChangesNothing f z
    → IsAnswered g k result x f o (Halts (code_of e) (report_of e) z)
refused g k result x f o e w z is still =
    subst (λ u. IsAnswered g k result x f u (Halts (code_of e) (report_of e) z)) (sym is)
    (refl, refl, record { work = w; same = refl }, still)

-- the routine alone answers, over registers that are seen in others
abbrev pub AnswersAlone : MapSizes → View → (Bytes → Type 0) → (f : ℕ → ℕ) → List FlatInstruction → List Holder
    → (own_result : Holder) → (run : List Value → Run Value) → (constant factor : ℕ) → Type 0
AnswersAlone sizes entry IsGood f code arguments own_result run constant factor =
    (functions : ℕ) (types : ℕ → ℕ) (k : Keys) (x : Source) (vs : List Value) (charge weight : ℕ) (s : State) →
    let g = views_of sizes functions types entry in
    IsOfWords (through f s) → IsFor g k IsGood x s → AreHeldBy g k x.objects arguments vs s.values
    → Reaches (context_of sizes true charge weight) code (constant + factor * work_of (run vs) x) (Goes 0 (through f s))
    (length code) (IsAnswered g k own_result x (through f s) (run vs x))

-- what it gives is held in the others
abbrev pub GivesAs : (count : ℕ) → (f : ℕ → ℕ) → (own_result result : Holder) → Type 0
GivesAs count f own_result result =
    (g : Views) (k : Keys) (v : Value) (y s : State) → Agrees count f y s → IsGivenIn g k own_result v y.values
    → IsGivenIn g k result v s.values

module _ (sizes : MapSizes) (entry : View) (IsGood : Bytes → Type 0) (ins own : List ℕ) (t : ℕ) (result : Holder)
    (own_result : Holder) (r : AreRegisters ins (registers_of result) own t) (code : List FlatInstruction) where
  abbrev count : ℕ
  count = length ins + length (registers_of result ++ own)

  abbrev f : ℕ → ℕ
  f = register_of ins (registers_of result) own

  module _ (fit : all_fit count (length ins) (length code) 0 code ≡ true) (arguments : List Holder)
      (run : List Value → Run Value) (constant factor : ℕ)
      (alone : AnswersAlone sizes entry IsGood f code arguments own_result run constant factor)
      (given : GivesAs count f own_result result) where
    module _ (g : Views) (k : Keys) (x : Source) (s s' y : State) (stands : IsFor g k IsGood x s)
        (agrees : Agrees count f y s') (only : ChangesOnly count (length ins) f s s') where
      left : (o : Completed Value) → IsAnswered g k own_result x (through f s) o (Continues y)
          → Leaves g k IsGood result t x s o (Continues s')
      left (Gives v x') h =
          subst (λ z. Leaves g k IsGood result t x s (Gives v z) (Continues s')) (sym h.source.same)
          (given_still g k IsGood result t x h.source.work s s' v stands (agrees_memory count f y s' agrees ∙ h.memory)
          (agrees_shows count f y s s' agrees (shows_seen f s y h.shows)) (given g k v y s' agrees h.given)
          (others_stay ins (registers_of result) own t r s s' only))
      left (Ended e x') h = absurd h
      left (Paused x') h = absurd h

      ended : (o : Completed Value) (status : ℕ) (report : List ℕ)
          → IsAnswered g k own_result x (through f s) o (Halts status report y)
          → Leaves g k IsGood result t x s o (Halts status report s')
      ended (Gives v x') status report h = absurd h
      ended (Ended e x') status report h =
          subst (λ z. Leaves g k IsGood result t x s (Ended e z) (Halts status report s')) (sym h.2.same)
          (ended_still e x h.2.work status report s s' stands.shown
          (agrees_shows count f y s s' agrees (shows_seen f s y h.3.shows))
          (unwritten_same (agrees_memory count f y s' agrees ∙ h.3.memory)) h.0 h.1)
      ended (Paused x') status report h = absurd h

    pub answers_act : IsAction (runtime_basis sizes entry IsGood) run arguments result t constant factor
        (map (rename f) code)
    answers_act functions types k x vs charge weight =
        let g = views_of sizes functions types entry in
        let c = context_of sizes true charge weight in
        let Q : State → Outcome → Type 0 = λ s. IsAnswered g k own_result x (through f s) (run vs x) in
        routine_that_may_end c count (length ins) f code
        (λ s. IsFor g k IsGood x s × AreHeldBy g k x.objects arguments vs s.values × Unit {0})
        (registers_rename ins (registers_of result) own t r) fit (λ s. constant + factor * work_of (run vs) x)
        (λ s y. Q s (Continues y)) (λ s status report y. Q s (Halts status report y))
        (λ s. Leaves g k IsGood result t x s (run vs x))
        (λ s w seen p. weaken c code _ _ (Goes 0 (through f s)) (length code) (Q s) _ (omega arith) (by_cases (Q s))
        (alone functions types k x vs charge weight s seen p.0 p.1))
        (λ s s' y w p i agrees only. left g k x s s' y p.0 agrees only (run vs x) i)
        (λ s s' y status report w p j agrees only. ended g k x s s' y p.0 agrees only (run vs x) status report j)
      where
        by_cases : (Q : Outcome → Type 0) (o : Outcome) → Q o
            → Either (λ y. Q (Continues y)) (λ status report y. Q (Halts status report y)) o
        by_cases Q (Continues y) q = q
        by_cases Q (Halts status report y) q = q
