-- What follows a judgement: two endings, or the place.
use Rattle.std.proofs.Common.{◌≡◌, ℕ, ◌+◌, List, true, refl, sym, subst, arith}
use Rattle.sb_base.specs.declared.ending.Ending.TheVariants.{Spatial, Temporal}
use Rattle.sb_base.specs.Endings.{code_of, report_of}
use Rattle.obj_memory.specs.declared.value.Value.{Value}
use Rattle.obj_memory.specs.declared.value.Place.{Place}
use Rattle.obj_memory.specs.declared.judgement.Verdict.{Verdict}
use Rattle.obj_memory.specs.declared.judgement.Verdict.TheVariants.{Outside, Dead, Inside}
use Rattle.obj_memory.specs.Judgement.{judge}
use Rattle.source_meaning.specs.State.{State as Source, Outcome as Completed, Ended, Run, on}
use Rattle.source_meaning.specs.Actions.{place_or_stop, located}
use Rattle.flat_code.specs.declared.instruction.FlatInstruction.{FlatInstruction}
use Rattle.flat_code.specs.State.{State}
use Rattle.flat_code.specs.Words.{IsOfWords}
use Rattle.flat_code.specs.Meaning.{Context, Goes}
use Rattle.flat_code.specs.Routines.Routine.{Outcome, Continues, Halts, Reaches, Either, Never}
use Rattle.flat_code.proofs.Routines.Rules.{weaken, ends_there, next}
use Rattle.flat_actions.specs.Judgement.Judging.{IsSameBut, IsJudged}

-- ---- in the source

-- a run goes on at the place of a verdict
abbrev pub judged_then : {A : Type 0} → Verdict → (line : ℕ) → Source → (Place → Completed A) → Completed A
judged_then Outside line x next = Ended (Spatial line) x
judged_then Dead line x next = Ended (Temporal line) x
judged_then (Inside p) line x next = next p

pub placed_then : {A : Type 0} (v : Verdict) (line : ℕ) (x : Source) (next : Place → Run A)
    → on (place_or_stop v line x) next ≡ judged_then v line x (λ p. next p x)
placed_then Outside line x next = refl
placed_then Dead line x next = refl
placed_then (Inside p) line x next = refl

-- a judged access, by the verdict on it
pub located_then : {A : Type 0} (size : ℕ) (v : Value) (line : ℕ) (x : Source) (next : Place → Run A)
    → on (located true size v line x) next ≡ judged_then (judge size v x.objects) line x (λ p. next p x)
located_then size v line x next = placed_then (judge size v x.objects) line x next

-- ---- in flat code

module _ (c : Context) (code : List FlatInstruction) where
  pub after_judge : (a b pc middle end : ℕ) (f : State) (line t : ℕ) (w : Verdict) (R : Outcome → Type 0)
      → IsOfWords f → Reaches c code a (Goes pc f) middle (IsJudged w line t f)
      → (w ≡ Outside → (f' : State) → IsSameBut t f f'
      → R (Halts (code_of (Spatial line)) (report_of (Spatial line)) f'))
      → (w ≡ Dead → (f' : State) → IsSameBut t f f'
      → R (Halts (code_of (Temporal line)) (report_of (Temporal line)) f'))
      → ((p : Place) → w ≡ Inside p → (f' : State) → IsOfWords f' → IsSameBut t f f'
      → Reaches c code b (Goes middle f') end R)
      → Reaches c code (a + b) (Goes pc f) end R
  after_judge a b pc middle end f line t Outside R words run out dead inside =
      weaken c code a (a + b) (Goes pc f) end R R (omega arith) (λ o h. h)
      (ends_there c code a (Goes pc f) middle end (IsJudged Outside line t f) R run (λ f' never. never)
      (λ status report f' h.
      subst (λ s. R (Halts s report f')) (sym h.0)
      (subst (λ r. R (Halts (code_of (Spatial line)) r f')) (sym h.1) (out refl f' h.2))))
  after_judge a b pc middle end f line t Dead R words run out dead inside =
      weaken c code a (a + b) (Goes pc f) end R R (omega arith) (λ o h. h)
      (ends_there c code a (Goes pc f) middle end (IsJudged Dead line t f) R run (λ f' never. never)
      (λ status report f' h.
      subst (λ s. R (Halts s report f')) (sym h.0)
      (subst (λ r. R (Halts (code_of (Temporal line)) r f')) (sym h.1) (dead refl f' h.2))))
  after_judge a b pc middle end f line t (Inside p) R words run out dead inside =
      next c code a b (Goes pc f) middle end (IsSameBut t f) Never R words
      (weaken c code a a (Goes pc f) middle (IsJudged (Inside p) line t f) (Either (IsSameBut t f) Never)
      (omega arith) by run)
      (λ f' words' same. inside p refl f' words' same)
      (λ status report f' never. absurd never)
    where
      by : (o : Outcome) → IsJudged (Inside p) line t f o → Either (IsSameBut t f) Never o
      by (Continues f') h = h
      by (Halts status report f') never = never
