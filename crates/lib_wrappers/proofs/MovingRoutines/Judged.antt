-- A judgement before an act: the run ends where the judgement is a violation, and else does what the act does.
use Rattle.std.proofs.Common.{◌≡◌, ℕ, ◌+◌, ◌-◌, ◌*◌, List, ◌++◌, true, length, refl, sym, ap, ◌∙◌}
use Rattle.std.proofs.Common.{subst, arith, length-append}
use Rattle.sb_base.specs.declared.ending.Ending.TheVariants.{Spatial, Temporal}
use Rattle.sb_base.specs.Endings.{code_of, report_of}
use Rattle.obj_memory.specs.declared.value.Value.{Value}
use Rattle.obj_memory.specs.declared.value.Place.{Place}
use Rattle.obj_memory.specs.declared.judgement.Verdict.{Verdict}
use Rattle.obj_memory.specs.declared.judgement.Verdict.TheVariants.{Outside, Dead, Inside}
use Rattle.obj_memory.specs.Judgement.{judge}
use Rattle.source_meaning.specs.State.{State as Source, Outcome as Completed, Gives, Ended, Paused, Run, on}
use Rattle.source_meaning.specs.Acting.{state_of}
use Rattle.source_meaning.specs.Actions.{located}
use Rattle.flat_code.specs.declared.instruction.FlatInstruction.{FlatInstruction}
use Rattle.flat_code.specs.Memory.{Bytes}
use Rattle.flat_code.specs.State.{State}
use Rattle.flat_code.specs.Meaning.{Context, Goes}
use Rattle.flat_code.specs.Routines.Routine.{Outcome, Continues, Halts, Reaches, Does}
use Rattle.flat_code.proofs.Routines.Steps.{has_front, has_back}
use Rattle.flat_code.proofs.Routines.Rules.{Holds, weaken}
use Rattle.flat_code.specs.Routines.Objects.StandsFor.{Views, Keys}
use Rattle.flat_actions.specs.Judgement.Judging.{IsSameBut, IsJudged}
use Rattle.flat_actions.specs.Actions.{IsShown, Holder, registers_of, Leaves}
use Rattle.flat_actions.proofs.Judged.{judged_then, located_then, after_judge}
use Rattle.flat_actions.proofs.Standing.{others_trans, ended_still, unwritten_same, unwritten_since}

-- the work that an outcome has done since a state
abbrev pub work_done : Completed Value → Source → ℕ
work_done o x = (state_of o).work - x.work

module _ (g : Views) (k : Keys) (IsGood : Bytes → Type 0) (result : Holder) (t : ℕ) (x : Source) where
  abbrev Left : State → Completed Value → Outcome → Type 0
  Left = Leaves g k IsGood result t x

  -- what is left since a state before, from which memory and all registers that are kept are the same
  pub left_since : (f f' : State) (o : Completed Value) (o' : Outcome) → IsSameBut t f f' → Left f' o o' → Left f o o'
  left_since f f' (Gives v x') (Continues f2) s h = record {
    keys = h.keys;
    held = h.held;
    stands = h.stands;
    given = h.given;
    turns = h.turns ∙ s.shows.turns;
    elsewhere = record {
      low = λ a l out. h.elsewhere.low a l out ∙ ap (λ m. m a) s.memory;
      behind = λ a l. h.elsewhere.behind a l ∙ ap (λ m. m a) s.memory;
    };
    others = others_trans (registers_of result) t f f' f2 s.others h.others;
  }
  left_since f f' (Ended e x') (Halts status report f2) s h = record {
    status_is = h.status_is;
    report_is = h.report_is;
    shown = h.shown;
    turns = h.turns ∙ s.shows.turns;
    unwritten = unwritten_since s.memory h.unwritten;
  }
  left_since f f' (Gives v x') (Halts status report f2) s h = h
  left_since f f' (Ended e x') (Continues f2) s h = h
  left_since f f' (Paused x') o' s h = h

  module _ (c : Context) (judging act : List FlatInstruction) (v : Value) (size line : ℕ) (next : Place → Run Value)
      (P : Holds) (A K F : ℕ)
      (judges : Does c judging P (λ f. A) (λ f. IsJudged (judge size v x.objects) line t f))
      (shown : (f : State) → P f → IsShown x f) (keep : (f f' : State) → P f → IsSameBut t f f' → P f')
      (acts : (p : Place) → judge size v x.objects ≡ Inside p
      → Does c act P (λ f. K + F * work_done (next p x) x) (λ f. Left f (next p x))) where
    abbrev whole : Completed Value
    whole = on (located true size v line x) next

    -- what it is, by the verdict
    whole_is : (w : Verdict) → judge size v x.objects ≡ w → whole ≡ judged_then w line x (λ p. next p x)
    whole_is w e = located_then size v line x next ∙ ap (λ j. judged_then j line x (λ p. next p x)) e

    pub judged_acts : Does c (judging ++ act) P (λ f. A + (K + F * work_done whole x)) (λ f. Left f whole)
    judged_acts = record {
      from = λ code pc f has w p.
          (let end : pc + length judging + length act ≡ pc + length (judging ++ act) =
          omega (arith, length-append judging act) in
          subst (λ e. Reaches c code (A + (K + F * work_done whole x)) (Goes pc f) e (Left f whole)) end
          (after_judge c code A (K + F * work_done whole x) pc (pc + length judging)
          (pc + length judging + length act) f line t (judge size v x.objects) (Left f whole) w
          (judges.from code pc f (has_front code pc judging act has) w p)
          (λ e f' s. subst (λ o. Left f o (Halts (code_of (Spatial line)) (report_of (Spatial line)) f'))
          (sym (whole_is Outside e))
          (ended_still (Spatial line) x x.work _ _ f f' (shown f p) s.shows (unwritten_same s.memory) refl refl))
          (λ e f' s. subst (λ o. Left f o (Halts (code_of (Temporal line)) (report_of (Temporal line)) f'))
          (sym (whole_is Dead e))
          (ended_still (Temporal line) x x.work _ _ f f' (shown f p) s.shows (unwritten_same s.memory) refl refl))
          (λ q e f' w' s.
          let same : next q x ≡ whole = sym (whole_is (Inside q) e) in
          weaken c code (K + F * work_done (next q x) x) (K + F * work_done whole x)
          (Goes (pc + length judging) f') (pc + length judging + length act) (Left f' (next q x)) (Left f whole)
          (let n = ap (λ o. K + F * work_done o x) same in omega arith)
          (λ o h. subst (λ z. Left f z o) same (left_since f f' (next q x) o s h))
          ((acts q e).from code (pc + length judging) f' (has_back code pc judging act has) w' (keep f f' p s)))));
    }
