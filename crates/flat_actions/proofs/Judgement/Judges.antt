-- The judgement in flat code is that of the objects: both tests, one after the other.
use Rattle.std.proofs.Common.{◌≡◌, ℕ, ◌+◌, List, [], ◌∷◌, if◌then◌else◌, Bool, true, false, refl, sym, ◌∙◌}
use Rattle.std.proofs.Common.{subst, ⊎_elim, arith}
use Rattle.std.proofs.lemmas.Bool.{cond-true, cond-false, cases_Bool}
use Rattle.sb_base.specs.declared.ending.Ending.TheVariants.{Spatial, Temporal}
use Rattle.addr_map.specs.Places.{AreMapped}
use Rattle.obj_memory.specs.declared.value.Tag.{Tag}
use Rattle.obj_memory.specs.declared.value.Tag.TheVariants.{Untagged, OfFunction, OfObject}
use Rattle.obj_memory.specs.declared.value.Value.{Value}
use Rattle.obj_memory.specs.declared.value.Place.{Place}
use Rattle.obj_memory.specs.declared.judgement.Verdict.TheVariants.{Outside, Dead, Inside}
use Rattle.obj_memory.specs.Objects.{Objects, object_at}
use Rattle.obj_memory.specs.Judgement.{are_within, place_in, judged, judge}
use Rattle.source_meaning.specs.State.{State as Source}
use Rattle.source_meaning.specs.Blocks.{pass_or_stop}
use Rattle.source_meaning.specs.Judging.{is_within, is_live_tag}
use Rattle.flat_code.specs.declared.instruction.RightOperand.TheVariants.{Register}
use Rattle.flat_code.specs.declared.instruction.FlatInstruction.{FlatInstruction}
use Rattle.flat_code.specs.State.{State}
use Rattle.flat_code.specs.Words.{IsOfWords}
use Rattle.flat_code.specs.Meaning.{Context, Goes}
use Rattle.flat_code.specs.declared.registers.Held.{Held}
use Rattle.flat_code.specs.Routines.Registers.{AreBelow}
use Rattle.flat_code.specs.Routines.Routine.{HasAt, Outcome, Continues, Halts, Reaches, Either, Never}
use Rattle.flat_code.specs.Routines.Metadata.{held_registers}
use Rattle.flat_code.proofs.Routines.Steps.{has_front, has_back}
use Rattle.flat_code.proofs.Routines.Rules.{weaken, ends_there, next}
use Rattle.flat_code.specs.Routines.Objects.StandsFor.{Views, Keys, StandsFor}
use Rattle.shadow_space.proofs.Entries.{context_of}
use Rattle.flat_actions.specs.Actions.{Pointer as InPointer}
use Rattle.flat_actions.specs.Judgement.Judging.{IsToJudge, IsSameBut, IsJudged, IsJudgeRoutine}
use Rattle.flat_actions.specs.Judgement.Testing.{IsTested}
use Rattle.flat_actions.specs.Judgement.Code.{spatial_code, temporal_code, judge_code}
use Rattle.flat_actions.proofs.Judgement.Tests.{spatial_does, temporal_does}
use Rattle.flat_actions.proofs.Standing.{held_still, none_of_none, same_then}

-- ---- the judgement by the tests

-- the tests look at nothing of the source but its objects
abbrev with_objects : Objects → Source
with_objects objects = record {
  objects = objects;
  frame = [];
  plain = [];
  input = [];
  taken = 0;
  output = [];
  accesses = [];
  work = 0;
  turns = 0;
  charged = 0;
  stacked = 0;
  keys = 0;
}

module _ (objects : Objects) (a n : ℕ) where
  -- bytes out of the bounds
  outside : (t : Tag) → is_within t a n ≡ false → judged n t a objects ≡ Outside
  outside Untagged e = refl
  outside (OfFunction f) e = refl
  outside (OfObject o b) e = cond-false (are_within b a n)
      (if (object_at objects o).is_live then Inside (place_in objects o a) else Dead) Outside e

  -- bytes within them of a dead object
  dead : (t : Tag) → is_within t a n ≡ true → is_live_tag t objects ≡ false → judged n t a objects ≡ Dead
  dead Untagged e f = cc
  dead (OfFunction g) e f = cc
  dead (OfObject o b) e f =
      cond-true (are_within b a n) (if (object_at objects o).is_live then Inside (place_in objects o a) else Dead)
      Outside e
      ∙ cond-false (object_at objects o).is_live (Inside (place_in objects o a)) Dead f

  -- and of a live one
  inside : (t : Tag) → is_within t a n ≡ true → is_live_tag t objects ≡ true
      → (p : Place) × (judged n t a objects ≡ Inside p)
  inside Untagged e f = (record { object = 0; offset = 0 }, cc)
  inside (OfFunction g) e f = (record { object = 0; offset = 0 }, cc)
  inside (OfObject o b) e f = (
    place_in objects o a,
    cond-true (are_within b a n) (if (object_at objects o).is_live then Inside (place_in objects o a) else Dead)
        Outside e
        ∙ cond-true (object_at objects o).is_live (Inside (place_in objects o a)) Dead f,
  )

-- ---- in flat code

module _ (h : Held) (n line t : ℕ) (below : AreBelow t (n ∷ held_registers h)) (g : Views) (k : Keys)
    (objects : Objects) (v : Value) (size : ℕ) (runtime : Bool) (charge weight : ℕ) (mapped : AreMapped g.sizes)
    (code : List FlatInstruction) (pc : ℕ) (f : State) (has : HasAt code pc (judge_code h n line t)) (w : IsOfWords f)
    (p : IsToJudge g k objects v size h n f) where
  abbrev c : Context
  c = context_of g.sizes runtime charge weight

  abbrev x : Source
  x = with_objects objects

  abbrev R : Outcome → Type 0
  R = IsJudged (judged size v.tag v.word objects) line t f

  tested_bounds : Reaches c code 5 (Goes pc f) (pc + 7)
      (IsTested (pass_or_stop (is_within v.tag v.word size) (Spatial line) x) t f)
  tested_bounds =
      (spatial_does h (Register n) line t below.1 below.0 g k x v size runtime charge weight).from code pc f
      (has_front code pc (spatial_code h (Register n) line t) (temporal_code h line t) has) w
      (record { stands = p.stands; sound = p.sound; spells = p.spells }, p.size_is, p.some)

  -- the second test, where the bytes are within the bounds
  module _ (z : State) (wz : IsOfWords z) (same : IsSameBut t f z) (fits : is_within v.tag v.word size ≡ true) where
    tested_life : Reaches c code 3 (Goes (pc + 7) z) (pc + 7 + 3)
        (IsTested (pass_or_stop (is_live_tag v.tag objects) (Temporal line) x) t z)
    tested_life =
        (temporal_does h line t below.1 g k x v v.word size runtime charge weight mapped).from code (pc + 7) z
        (has_back code pc (spatial_code h (Register n) line t) (temporal_code h line t) has) wz (
          record {
            stands = subst (StandsFor g k objects) (sym same.memory) p.stands;
            sound = p.sound;
            spells =
                (held_still g k objects (InPointer h) v [] t f z same.others below.1 (none_of_none (held_registers h))
                (p.spells, p.sound)).0;
          },
          fits,
        )

    lives : Reaches c code 3 (Goes (pc + 7) z) (pc + 7 + 3) R
    lives = ⊎_elim
        (λ live. weaken c code 3 3 (Goes (pc + 7) z) (pc + 7 + 3) _ R (omega arith) (passes live) tested_life)
        (λ died. weaken c code 3 3 (Goes (pc + 7) z) (pc + 7 + 3) _ R (omega arith) (fails died) tested_life)
        (cases_Bool (is_live_tag v.tag objects))
      where
        ends_inside : (q : Place) → (o : Outcome) → IsTested (pass_or_stop true (Temporal line) x) t z o
            → IsJudged (Inside q) line t f o
        ends_inside q (Continues s) e = same_then t f z s same e
        ends_inside q (Halts status report s) e = e

        ends_dead : (o : Outcome) → IsTested (pass_or_stop false (Temporal line) x) t z o → IsJudged Dead line t f o
        ends_dead (Continues s) e = e
        ends_dead (Halts status report s) e = (e.0, e.1, same_then t f z s same e.2)

        passes : is_live_tag v.tag objects ≡ true → (o : Outcome)
            → IsTested (pass_or_stop (is_live_tag v.tag objects) (Temporal line) x) t z o → R o
        passes live o e =
            let q = inside objects v.word size v.tag fits live in
            subst (λ j. IsJudged j line t f o) (sym q.1)
            (ends_inside q.0 o (subst (λ b. IsTested (pass_or_stop b (Temporal line) x) t z o) live e))

        fails : is_live_tag v.tag objects ≡ false → (o : Outcome)
            → IsTested (pass_or_stop (is_live_tag v.tag objects) (Temporal line) x) t z o → R o
        fails died o e =
            subst (λ j. IsJudged j line t f o) (sym (dead objects v.word size v.tag fits died))
            (ends_dead o (subst (λ b. IsTested (pass_or_stop b (Temporal line) x) t z o) died e))

  judged_here : Reaches c code 10 (Goes pc f) (pc + 10) R
  judged_here =
      let e : pc + 7 + 3 ≡ pc + 10 = omega arith in
      subst (λ end. Reaches c code 10 (Goes pc f) end R) e (⊎_elim
      (λ fits.
      weaken c code (5 + 3) 10 (Goes pc f) (pc + 7 + 3) R R (omega arith) (λ o q. q)
      (next c code 5 3 (Goes pc f) (pc + 7) (pc + 7 + 3) (IsSameBut t f) Never R w
      (weaken c code 5 5 (Goes pc f) (pc + 7) _ (Either (IsSameBut t f) Never) (omega arith)
      (λ o q. passed o (subst (λ b. IsTested (pass_or_stop b (Spatial line) x) t f o) fits q)) tested_bounds)
      (λ z wz same. lives z wz same fits)
      (λ status report s never. absurd never)))
      (λ out.
      weaken c code 5 10 (Goes pc f) (pc + 7 + 3) R R (omega arith) (λ o q. q)
      (ends_there c code 5 (Goes pc f) (pc + 7) (pc + 7 + 3)
      (IsTested (pass_or_stop false (Spatial line) x) t f) R
      (weaken c code 5 5 (Goes pc f) (pc + 7) _ _ (omega arith)
      (λ o q. subst (λ b. IsTested (pass_or_stop b (Spatial line) x) t f o) out q) tested_bounds)
      (λ s never. never)
      (λ status report s q.
      subst (λ j. IsJudged j line t f (Halts status report s)) (sym (outside objects v.word size v.tag out)) q)))
      (cases_Bool (is_within v.tag v.word size)))
    where
      passed : (o : Outcome) → IsTested (pass_or_stop true (Spatial line) x) t f o → Either (IsSameBut t f) Never o
      passed (Continues s) q = q
      passed (Halts status report s) q = q

pub judges : (h : Held) (n line t : ℕ) → AreBelow t (n ∷ held_registers h)
    → IsJudgeRoutine h n line t (judge_code h n line t)
unfolding judge
judges h n line t below g k objects v size runtime charge weight mapped = record {
  from = λ code pc f has w p.
      judged_here h n line t below g k objects v size runtime charge weight mapped code pc f has w p;
}
