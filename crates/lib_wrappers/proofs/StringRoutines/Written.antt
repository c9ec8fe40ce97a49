-- Bytes that are written at a place that was judged: what memory becomes stands for what the objects become.
use Rattle.std.proofs.Common.{◌≡◌, ℕ, ◌+◌, ◌*◌, ◌<◌, ◌≤◌, List, ◌++◌, true, length, sym}
use Rattle.std.proofs.Common.{◌∙◌, subst, arith, get_or}
use Rattle.addr_map.specs.Places.{MapSizes, AreMapped}
use Rattle.obj_memory.specs.declared.value.Value.{Value}
use Rattle.obj_memory.specs.declared.value.Place.{Place}
use Rattle.obj_memory.specs.declared.judgement.Verdict.{Verdict}
use Rattle.obj_memory.specs.declared.judgement.Verdict.TheVariants.{Outside, Dead, Inside}
use Rattle.obj_memory.specs.Judgement.{judge}
use Rattle.obj_memory.specs.Sound.{IsSoundTag, IsAllowed}
use Rattle.obj_memory.proofs.Judging.{judge_inside}
use Rattle.source_meaning.specs.State.{State as Source, Outcome as Completed, Gives, Run, on, ◌>>◌, done}
use Rattle.source_meaning.specs.Acting.{state_of}
use Rattle.source_meaning.specs.Actions.{located}
use Rattle.source_meaning.specs.Bytes.{set_bytes}
use Rattle.flat_code.specs.declared.instruction.FlatInstruction.{FlatInstruction}
use Rattle.flat_code.specs.Memory.{Bytes}
use Rattle.flat_code.specs.State.{State}
use Rattle.flat_code.specs.Meaning.{Context}
use Rattle.flat_code.specs.Routines.Routine.{Outcome, Continues, Halts, Does, Either, Never}
use Rattle.flat_code.specs.Routines.Metadata.{View}
use Rattle.flat_code.proofs.Routines.Rules.{Holds, weaken}
use Rattle.flat_code.proofs.Routines.Words.{IsLocal}
use Rattle.flat_code.specs.Routines.Objects.StandsFor.{Views, Keys}
use Rattle.flat_actions.specs.Judgement.Judging.{IsSameBut, IsJudged}
use Rattle.flat_actions.specs.Actions.{views_of, IsFor, Nowhere, HasGiven, Leaves}
use Rattle.flat_actions.proofs.Judged.{judged_then, located_then}
use Rattle.lib_wrappers.proofs.MovingRoutines.Moves.{with_put, put_is}
use Rattle.lib_wrappers.proofs.MovingRoutines.Judged.{work_done, judged_acts}
use Rattle.lib_wrappers.specs.StringRoutines.Copying.{HasWritten}

-- ---- what is written in the source

abbrev pub written_run : (size : ℕ) → Value → (result : Value) → List ℕ → (line : ℕ) → Run Value
written_run n dv v new line x = on (located true n dv line x) (λ p. set_bytes new p >> done v)

-- it takes no work back
pub written_works : (n : ℕ) (dv v : Value) (new : List ℕ) (line : ℕ) (x : Source)
    → x.work ≤ (state_of (written_run n dv v new line x)).work
written_works n dv v new line x =
    subst (λ r. x.work ≤ (state_of r).work) (sym (located_then n dv line x (λ p. set_bytes new p >> done v)))
    (by (judge n dv x.objects))
  where
    by : (w : Verdict) → x.work ≤ (state_of (judged_then w line x (λ p. (set_bytes new p >> done v) x))).work
    by Outside = omega arith
    by Dead = omega arith
    by (Inside p) = omega arith

-- and gives what it is to give
pub written_gives : (n : ℕ) (dv v : Value) (new : List ℕ) (line : ℕ) (x : Source) (w : Value) (x' : Source)
    → written_run n dv v new line x ≡ Gives w x' → w ≡ v
written_gives n dv v new line x w x' e =
    by (judge n dv x.objects) (sym (located_then n dv line x (λ p. set_bytes new p >> done v)) ∙ e)
  where
    by : (j : Verdict) → judged_then j line x (λ p. (set_bytes new p >> done v) x) ≡ Gives w x' → w ≡ v
    by Outside q = cc
    by Dead q = cc
    by (Inside p) q = cc

-- ---- what memory becomes

module _ (map : MapSizes) (mapped : AreMapped map) (entry : View) (IsGood : Bytes → Type 0)
    (local : IsLocal map entry IsGood) (functions : ℕ) (types : ℕ → ℕ) (k : Keys) (t : ℕ) (x : Source) where
  abbrev g : Views
  g = views_of map functions types entry

  pub written_is : (f f' : State) (new : List ℕ) (dv v : Value) (p : Place) → IsFor g k IsGood x f
      → IsAllowed x.objects dv (length new) p → ((j : ℕ) → get_or new j 0 < 256) → HasWritten new dv.word t f f'
      → HasGiven g k IsGood Nowhere t x f v (with_put x (x.work + length new) new p) f'
  written_is f f' new dv v p h a small written =
      put_is map mapped entry IsGood functions types k t x f f' local new (x.work + length new) dv v p h a small
      (record { there = written.there; beside = written.beside; shows = written.shows; others = written.others })

  -- ---- judged first

  module _ (c : Context) (judging writing : List FlatInstruction) (dv v : Value) (new : List ℕ) (line : ℕ) (P : Holds)
      (K : ℕ) (small : (j : ℕ) → get_or new j 0 < 256) (sound : IsSoundTag functions x.objects dv.tag)
      (stands : (f : State) → P f → IsFor g k IsGood x f)
      (keep : (f f' : State) → P f → IsSameBut t f f' → P f')
      (judges : Does c judging P (λ f. 10) (λ f. IsJudged (judge (length new) dv x.objects) line t f))
      (writes : (p : Place) → IsAllowed x.objects dv (length new) p
      → Does c writing P (λ f. K + 8 * length new) (λ f. Either (HasWritten new dv.word t f) Never)) where
    abbrev whole : Completed Value
    whole = written_run (length new) dv v new line x

    abbrev writing_run : Place → Run Value
    writing_run p = set_bytes new p >> done v

    writes_as : (p : Place) → judge (length new) dv x.objects ≡ Inside p
        → Does c writing P (λ f. K + 8 * work_done (writing_run p x) x)
        (λ f. Leaves g k IsGood Nowhere t x f (writing_run p x))
    writes_as p e = record {
      from = λ code pc f has w q.
          let a = judge_inside functions x.objects (length new) dv p sound e in
          let n : work_done (writing_run p x) x ≡ length new = omega arith in
          weaken c code (K + 8 * length new) (K + 8 * work_done (writing_run p x) x) _ _ _ _ (omega arith)
          (left p a f q) ((writes p a).from code pc f has w q);
    }
      where
        left : (p : Place) → IsAllowed x.objects dv (length new) p → (f : State) → P f → (o : Outcome)
            → Either (HasWritten new dv.word t f) Never o → Leaves g k IsGood Nowhere t x f (writing_run p x) o
        left p a f q (Continues f') h = written_is f f' new dv v p (stands f q) a small h
        left p a f q (Halts status report f') h = absurd h

    pub judged_writes : Does c (judging ++ writing) P (λ f. 10 + (K + 8 * work_done whole x))
        (λ f. Leaves g k IsGood Nowhere t x f whole)
    judged_writes =
        judged_acts g k IsGood Nowhere t x c judging writing dv (length new) line writing_run P 10 K 8 judges
        (λ f q. (stands f q).shown) keep writes_as
