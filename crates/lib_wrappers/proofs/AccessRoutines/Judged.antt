-- Both tests and then an access that names its object are an access that is judged.
use Rattle.std.proofs.Common.{◌≡◌, ℕ, ◌+◌, ◌*◌, ◌^◌, ◌<◌, ◌≤◌, List, [], ◌∷◌, ◌++◌, Bool, true, false, length, refl}
use Rattle.std.proofs.Common.{sym}
use Rattle.std.proofs.Common.{ap, ◌∙◌, subst, arith, ⊎_elim, length-append}
use Rattle.std.proofs.lemmas.Bool.{leb-true, and_parts, cases_Bool}
use Rattle.sb_base.specs.declared.ending.Ending.{Ending}
use Rattle.sb_base.specs.declared.ending.Ending.TheVariants.{Spatial, Temporal}
use Rattle.sb_base.specs.Endings.{code_of, report_of}
use Rattle.addr_map.specs.Places.{AreMapped}
use Rattle.obj_memory.specs.declared.value.Tag.{Tag}
use Rattle.obj_memory.specs.declared.value.Tag.TheVariants.{Untagged, OfFunction, OfObject}
use Rattle.obj_memory.specs.declared.value.Value.{Value}
use Rattle.obj_memory.specs.declared.value.Place.{Place}
use Rattle.obj_memory.specs.Objects.{Objects}
use Rattle.obj_memory.specs.Sound.{IsSoundTag}
use Rattle.source_meaning.specs.State.{State as Source, Outcome as Completed, Gives, Ended, Paused, on}
use Rattle.source_meaning.specs.Actions.{located}
use Rattle.source_meaning.specs.Blocks.{pass_or_stop}
use Rattle.source_meaning.specs.Judging.{is_within, is_live_tag}
use Rattle.source_meaning.specs.Keeping.{IsDirect}
use Rattle.source_meaning.specs.Library.{argument}
use Rattle.source_meaning.proofs.JudgingTests.{two_tests}
use Rattle.flat_code.specs.declared.instruction.RightOperand.TheVariants.{Number}
use Rattle.flat_code.specs.declared.instruction.FlatInstruction.{FlatInstruction}
use Rattle.flat_code.specs.Memory.{Bytes}
use Rattle.flat_code.specs.State.{State}
use Rattle.flat_code.specs.Words.{IsOfWords}
use Rattle.flat_code.specs.Meaning.{Context, Goes}
use Rattle.flat_code.specs.declared.registers.Held.{Held}
use Rattle.flat_code.specs.Routines.Registers.{AreBelow, OthersStay}
use Rattle.flat_code.specs.Routines.Routine.{HasAt, Outcome, Continues, Halts, Reaches, Either, Never}
use Rattle.flat_code.specs.Routines.Metadata.{held_registers}
use Rattle.flat_code.proofs.Routines.Steps.{has_front, has_back}
use Rattle.flat_code.proofs.Routines.Rules.{weaken, ends_there, next}
use Rattle.flat_code.specs.Routines.Objects.StandsFor.{Views, Keys}
use Rattle.flat_actions.specs.Judgement.Judging.{IsSameBut}
use Rattle.flat_actions.specs.Actions.{IsFor, Holder, Word, Pointer as InPointer, registers_of, AreHeldBy}
use Rattle.flat_actions.specs.Actions.{Leaves, Basis, context_in, IsAction, IsActionIn, views_of, work_of}
use Rattle.flat_actions.proofs.Standing.{unwritten_same, unwritten_since}
use Rattle.flat_actions.proofs.Standing.{for_still, held_still, none_of_none, others_trans, shown_still}
use Rattle.flat_actions.specs.Judgement.Testing.{IsTested}
use Rattle.flat_actions.specs.Judgement.Code.{spatial_code, temporal_code}
use Rattle.flat_actions.proofs.Judgement.Tests.{spatial_does, temporal_does}
use Rattle.flat_actions.proofs.Standing.{same_then, AreAllBelow}

-- ---- in the source

module _ (n : ℕ) (v : Value) (line : ℕ) (x : Source) where
  abbrev by_tests : (within live : Bool) → Completed Place
  by_tests within live = on (pass_or_stop within (Spatial line) x)
      (λ u s. on (pass_or_stop live (Temporal line) s) (λ u s. located false n v line s))

  judged_by : (within live : Bool) → is_within v.tag v.word n ≡ within → is_live_tag v.tag x.objects ≡ live
      → located true n v line x ≡ by_tests within live
  judged_by within live e e2 = two_tests n v line x ∙ step (is_within v.tag v.word n) e
    where
      step : (w : Bool) → w ≡ within
          → on (pass_or_stop w (Spatial line) x) (λ u s.
          on (pass_or_stop (is_live_tag v.tag s.objects) (Temporal line) s) (λ u s. located false n v line s))
          ≡ by_tests within live
      step true e =
          ap (λ l. on (pass_or_stop l (Temporal line) x) (λ u s. located false n v line s)) e2
          ∙ ap (λ w. by_tests w live) e
      step false e = ap (λ w. by_tests w live) e

-- bytes within the bounds of a tag whose object lives are bytes of that object
direct_by : (functions : ℕ) (objects : Objects) (v : Value) (n : ℕ) (t : Tag) → v.tag ≡ t
    → is_within t v.word n ≡ true → is_live_tag t objects ≡ true → IsSoundTag functions objects t → IsDirect objects v n
direct_by functions objects v n Untagged same e live sound = cc
direct_by functions objects v n (OfFunction f) same e live sound = cc
direct_by functions objects v n (OfObject o b) same e live sound =
    let h = and_parts _ _ e in
    let lo : b.base ≤ v.word = leb-true _ _ h.0 in let hi : v.word + n ≤ b.bound = leb-true _ _ h.1 in
    let base = sound.base in let bound = sound.bound in
    record {
      object = o;
      bounds = b;
      tag = same;
      made = sound.made;
      live = live;
      start = omega arith;
      end = omega arith;
    }

-- ---- lists

-- both tests of a size and an access, where the size and the access are known by equations
pub both_tests_then : (h : Held) (line t size n : ℕ) (r items access : List FlatInstruction)
    → r ≡ (spatial_code h (Number size) line t ++ temporal_code h line t) ++ items → size ≡ n → items ≡ access
    → r ≡ (spatial_code h (Number n) line t ++ temporal_code h line t) ++ access
both_tests_then h line t size n r items access e sizes same =
    e ∙ ap (λ z. (spatial_code h (Number z) line t ++ temporal_code h line t) ++ items) sizes
    ∙ ap (λ l. (spatial_code h (Number n) line t ++ temporal_code h line t) ++ l) same

-- ---- in flat code

all_held : (g : Views) (k : Keys) (objects : Objects) (t : ℕ) (f f' : State) (hs : List Holder) (vs : List Value)
    → AreAllBelow t hs → OthersStay [] t f f' → AreHeldBy g k objects hs vs f.values
    → AreHeldBy g k objects hs vs f'.values
all_held g k objects t f f' [] [] below stay h = tt
all_held g k objects t f f' [] (v ∷ vs) below stay h = h
all_held g k objects t f f' (r ∷ hs) [] below stay h = h
all_held g k objects t f f' (r ∷ hs) (v ∷ vs) below stay h = (
  held_still g k objects r v [] t f f' stay below.0 (none_of_none (registers_of r)) h.0,
  all_held g k objects t f f' hs vs below.1 stay h.1,
)

-- what is left where nothing changed before
leaves_after : (g : Views) (k : Keys) (IsGood : Bytes → Type 0) (result : Holder) (t : ℕ) (x : Source) (f f' : State)
    → IsSameBut t f f' → (o : Completed Value) (out : Outcome) → Leaves g k IsGood result t x f' o out
    → Leaves g k IsGood result t x f o out
leaves_after g k IsGood result t x f f' same (Gives v x') (Continues z) h = record {
  keys = h.keys;
  held = h.held;
  stands = h.stands;
  given = h.given;
  turns = h.turns ∙ same.shows.turns;
  elsewhere = record {
    low = λ a l out. h.elsewhere.low a l out ∙ ap (λ m. m a) same.memory;
    behind = λ a l. h.elsewhere.behind a l ∙ ap (λ m. m a) same.memory;
  };
  others = others_trans (registers_of result) t f f' z same.others h.others;
}
leaves_after g k IsGood result t x f f' same (Ended e x') (Halts status report z) h = record {
  status_is = h.status_is;
  report_is = h.report_is;
  shown = h.shown;
  turns = h.turns ∙ same.shows.turns;
  unwritten = unwritten_since same.memory h.unwritten;
}
leaves_after g k IsGood result t x f f' same (Gives v x') (Halts status report z) h = h
leaves_after g k IsGood result t x f f' same (Ended e x') (Continues z) h = h
leaves_after g k IsGood result t x f f' same (Paused x') (Continues z) h = h
leaves_after g k IsGood result t x f f' same (Paused x') (Halts status report z) h = h

module _ (basis : Basis) (mapped : AreMapped basis.map) (h : Held) (n line t : ℕ)
    (below : AreBelow t (held_registers h))
    (some : 1 ≤ n) (small : n < 2 ^ 64) (others : List Holder) (others_below : AreAllBelow t others) (result : Holder)
    (B : ℕ) (access : List FlatInstruction) (F : List Value → Completed Place → Completed Value)
    (ends : (vs : List Value) (e : Ending) (x : Source) → F vs (Ended e x) ≡ Ended e x)
    (does : IsActionIn basis (λ x vs. IsDirect x.objects (argument 0 vs) n)
    (λ vs x. F vs (located false n (argument 0 vs) line x)) (Word h.value ∷ others) result t B 0 access) where
  abbrev spatial : List FlatInstruction
  spatial = spatial_code h (Number n) line t

  abbrev temporal : List FlatInstruction
  temporal = temporal_code h line t

  abbrev tests : List FlatInstruction
  tests = spatial ++ temporal

  module _ (functions : ℕ) (types : ℕ → ℕ) (k : Keys) (x : Source) (v : Value) (vs : List Value) (charge weight : ℕ)
      (code : List FlatInstruction) (pc : ℕ) (f : State) (has : HasAt code pc (tests ++ access)) (w : IsOfWords f) where
    abbrev g : Views
    g = views_of basis.map functions types basis.entry

    abbrev c : Context
    c = context_in basis charge weight

    abbrev run : Completed Value
    run = F (v ∷ vs) (located true n v line x)

    abbrev R : Outcome → Type 0
    R = Leaves g k basis.IsGood result t x f run

    module _ (stands : IsFor g k basis.IsGood x f)
        (held : AreHeldBy g k x.objects (InPointer h ∷ others) (v ∷ vs) f.values) where
      -- a test stops the run
      stopped : (e : Ending) (status : ℕ) (report : List ℕ) (z : State) → run ≡ Ended e x → status ≡ code_of e
          → report ≡ report_of e → IsSameBut t f z → R (Halts status report z)
      stopped e status report z is a b same =
          subst (λ o. Leaves g k basis.IsGood result t x f o (Halts status report z)) (sym is) (record {
            status_is = a;
            report_is = b;
            shown = shown_still x f z same.shows stands.shown;
            turns = same.shows.turns;
            unwritten = unwritten_same same.memory;
          })

      -- the access behind both tests
      accesses : (z : State) → IsOfWords z → IsSameBut t f z → is_within v.tag v.word n ≡ true
          → is_live_tag v.tag x.objects ≡ true
          → Reaches c code B (Goes (pc + length tests) z) (pc + length (tests ++ access)) R
      accesses z wz same within live =
          let is : run ≡ F (v ∷ vs) (located false n v line x) = ap (F (v ∷ vs))
          (judged_by n v line x true true within live) in
          let direct = direct_by functions x.objects v n v.tag refl within live held.0.1 in
          let len : pc + length tests + length access ≡ pc + length (tests ++ access) = omega
          (arith, length-append tests access) in
          let r = (does functions types k x (v ∷ vs) charge weight).from code (pc + length tests) z
          (has_back code pc tests access has) wz (
            for_still g k basis.IsGood x f z same.memory same.shows stands,
            all_held g k x.objects t f z (Word h.value ∷ others) (v ∷ vs) ((below.0, tt), others_below) same.others
                (held.0.0.word, held.1),
            direct,
          ) in
          subst (λ e. Reaches c code B (Goes (pc + length tests) z) e R) len
          (weaken c code (B + 0 * work_of (λ x. F (v ∷ vs) (located false n v line x)) x) B (Goes (pc + length tests) z)
          (pc + length tests + length access) _ R (omega arith)
          (λ o q. subst (λ u. Leaves g k basis.IsGood result t x f u o) (sym is)
          (leaves_after g k basis.IsGood result t x f z same (F (v ∷ vs) (located false n v line x)) o q)) r)

      -- from the second test on
      lives : (z : State) → IsOfWords z → IsSameBut t f z → is_within v.tag v.word n ≡ true
          → Reaches c code (3 + B) (Goes (pc + 7) z) (pc + length (tests ++ access)) R
      lives z wz same within = ⊎_elim
          (λ live.
          next c code 3 B (Goes (pc + 7) z) (pc + 7 + 3) (pc + length (tests ++ access)) (IsSameBut t z) Never R wz
          (weaken c code 3 3 (Goes (pc + 7) z) (pc + 7 + 3) _ (Either (IsSameBut t z) Never) (omega arith)
          (λ o q. passed o (subst (λ b. IsTested (pass_or_stop b (Temporal line) x) t z o) live q)) tested_life)
          (λ z2 w2 s. let e : pc + length tests ≡ pc + 7 + 3 = omega arith in
          subst (λ p. Reaches c code B (Goes p z2) (pc + length (tests ++ access)) R) e
          (accesses z2 w2 (same_then t f z z2 same s) within live))
          (λ status report s never. absurd never))
          (λ dead.
          let is : run ≡ Ended (Temporal line) x =
          ap (F (v ∷ vs)) (judged_by n v line x true false within dead) ∙ ends (v ∷ vs) (Temporal line) x in
          weaken c code 3 (3 + B) (Goes (pc + 7) z) (pc + length (tests ++ access)) R R (omega arith) (λ o q. q)
          (ends_there c code 3 (Goes (pc + 7) z) (pc + 7 + 3) (pc + length (tests ++ access))
          (IsTested (Ended (Temporal line) x) t z) R
          (weaken c code 3 3 (Goes (pc + 7) z) (pc + 7 + 3) _ _ (omega arith)
          (λ o q. subst (λ b. IsTested (pass_or_stop b (Temporal line) x) t z o) dead q) tested_life)
          (λ s never. never)
          (λ status report s q. stopped (Temporal line) status report s is q.0 q.1 (same_then t f z s same q.2))))
          (cases_Bool (is_live_tag v.tag x.objects))
        where
          tested_life : Reaches c code 3 (Goes (pc + 7) z) (pc + 7 + 3)
              (IsTested (pass_or_stop (is_live_tag v.tag x.objects) (Temporal line) x) t z)
          tested_life =
              let held' = held_still g k x.objects (InPointer h) v [] t f z same.others below
              (none_of_none (held_registers h)) held.0 in
              (temporal_does h line t below g k x v v.word n basis.is_runtime charge weight mapped).from code (pc + 7)
              z
              (has_back code pc spatial temporal (has_front code pc tests access has)) wz (
                record {
                  stands = (for_still g k basis.IsGood x f z same.memory same.shows stands).objects;
                  sound = held.0.1;
                  spells = held'.0;
                },
                within,
              )

          passed : (o : Outcome) → IsTested (pass_or_stop true (Temporal line) x) t z o → Either (IsSameBut t z) Never o
          passed (Continues s) q = q
          passed (Halts status report s) q = q

      checks : Reaches c code (5 + (3 + B)) (Goes pc f) (pc + length (tests ++ access)) R
      checks = ⊎_elim
          (λ within.
          next c code 5 (3 + B) (Goes pc f) (pc + 7) (pc + length (tests ++ access)) (IsSameBut t f) Never R w
          (weaken c code 5 5 (Goes pc f) (pc + 7) _ (Either (IsSameBut t f) Never) (omega arith)
          (λ o q. passed o (subst (λ b. IsTested (pass_or_stop b (Spatial line) x) t f o) within q)) tested_bounds)
          (λ z wz s. lives z wz s within)
          (λ status report s never. absurd never))
          (λ out.
          let is : run ≡ Ended (Spatial line) x =
          ap (F (v ∷ vs)) (judged_by n v line x false (is_live_tag v.tag x.objects) out refl)
          ∙ ends (v ∷ vs) (Spatial line) x in
          weaken c code 5 (5 + (3 + B)) (Goes pc f) (pc + length (tests ++ access)) R R (omega arith) (λ o q. q)
          (ends_there c code 5 (Goes pc f) (pc + 7) (pc + length (tests ++ access))
          (IsTested (Ended (Spatial line) x) t f) R
          (weaken c code 5 5 (Goes pc f) (pc + 7) _ _ (omega arith)
          (λ o q. subst (λ b. IsTested (pass_or_stop b (Spatial line) x) t f o) out q) tested_bounds)
          (λ s never. never)
          (λ status report s q. stopped (Spatial line) status report s is q.0 q.1 q.2)))
          (cases_Bool (is_within v.tag v.word n))
        where
          tested_bounds : Reaches c code 5 (Goes pc f) (pc + 7)
              (IsTested (pass_or_stop (is_within v.tag v.word n) (Spatial line) x) t f)
          tested_bounds =
              (spatial_does h (Number n) line t below tt g k x v n basis.is_runtime charge weight).from code pc f
              (has_front code pc spatial temporal (has_front code pc tests access has)) w
              (record { stands = stands.objects; sound = held.0.1; spells = held.0.0 }, omega arith, some)

          passed : (o : Outcome) → IsTested (pass_or_stop true (Spatial line) x) t f o → Either (IsSameBut t f) Never o
          passed (Continues s) q = q
          passed (Halts status report s) q = q

  pub checked_does : IsAction basis (λ vs x. F vs (located true n (argument 0 vs) line x)) (InPointer h ∷ others)
      result t
      (8 + B) 0 (tests ++ access)
  checked_does functions types k x [] charge weight = record { from = λ code pc f has w p. absurd p.1 }
  checked_does functions types k x (v ∷ vs) charge weight = record {
    from = λ code pc f has w p.
        weaken _ code (5 + (3 + B)) (8 + B + 0 * work_of (λ x. F (v ∷ vs) (located true n v line x)) x) (Goes pc f)
        (pc + length (tests ++ access)) _ _ (omega arith) (λ o q. q)
        (checks functions types k x v vs charge weight code pc f has w p.0 p.1);
  }
