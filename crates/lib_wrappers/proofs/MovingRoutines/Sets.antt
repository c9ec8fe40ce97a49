-- `memset`: the range is judged, and then filled.
use Rattle.std.proofs.Common.{◌≡◌, ◌≢◌, ℕ, ◌+◌, ◌*◌, ◌<◌, List, [], ◌∷◌, ◌++◌, true, refl, sym, ◌∙◌}
use Rattle.std.proofs.Common.{subst, arith}
use Rattle.std.specs.Prelude.{replicate}
use Rattle.std.proofs.lemmas.List.{length-replicate}
use Rattle.addr_map.specs.Places.{MapSizes, AreMapped}
use Rattle.obj_memory.specs.declared.int_type.IntType.TheVariants.{UnsignedChar}
use Rattle.obj_memory.specs.declared.value.Value.{Value}
use Rattle.obj_memory.specs.declared.value.Place.{Place}
use Rattle.obj_memory.specs.declared.judgement.Verdict.TheVariants.{Inside}
use Rattle.obj_memory.specs.Integers.{fit}
use Rattle.obj_memory.specs.Judgement.{judge}
use Rattle.obj_memory.specs.Sound.{IsSoundTag, IsAllowed}
use Rattle.obj_memory.proofs.Judging.{judge_inside}
use Rattle.source_meaning.specs.State.{State as Source, Gives, Run, ◌>>=◌, ◌>>◌, done}
use Rattle.source_meaning.specs.Actions.{located}
use Rattle.source_meaning.specs.Bytes.{set_bytes}
use Rattle.source_meaning.specs.Memory.{memset}
use Rattle.flat_code.specs.declared.instruction.FlatInstruction.{FlatInstruction}
use Rattle.flat_code.specs.Memory.{Bytes}
use Rattle.flat_code.specs.State.{State}
use Rattle.flat_code.specs.Meaning.{Context}
use Rattle.flat_code.specs.declared.registers.Held.{Held}
use Rattle.flat_code.specs.Routines.Registers.{AreBelow, AreNoneOf, AreDistinct}
use Rattle.flat_code.specs.Routines.Routine.{Outcome, Continues, Halts, Does, Either, Never}
use Rattle.flat_code.specs.Routines.Effects.{worked}
use Rattle.flat_code.specs.Routines.Metadata.{View, held_registers}
use Rattle.flat_code.proofs.Routines.Words.{IsLocal}
use Rattle.flat_code.specs.Routines.Objects.StandsFor.{Views, Keys}
use Rattle.flat_actions.specs.Judgement.Judging.{IsSameBut, IsToJudge, IsJudged, IsJudgeRoutine}
use Rattle.flat_actions.specs.Actions.{views_of, IsFor, Nowhere, Pointer, Leaves, runtime_basis}
use Rattle.flat_actions.specs.Ranges.{IsObjectRange, IsToFill, HasFilled, IsFillRoutine}
use Rattle.flat_actions.proofs.Standing.{for_still}
use Rattle.flat_actions.specs.Lists.{guarded_code}
use Rattle.lib_wrappers.specs.MovingRoutines.Library.{SetsObjects}
use Rattle.lib_wrappers.proofs.MovingRoutines.Steps.{does_weaken}
use Rattle.lib_wrappers.proofs.MovingRoutines.Bytes.{in_runtime}
use Rattle.lib_wrappers.proofs.MovingRoutines.Judged.{work_done, judged_acts}
use Rattle.lib_wrappers.proofs.MovingRoutines.Guarded.{guarded}
use Rattle.lib_wrappers.proofs.MovingRoutines.Moves.{allowed_range, with_filled, filled_is}
use Rattle.lib_wrappers.proofs.MovingRoutines.Acts.{gives_located, same_given, HasPointer, pointer_still, to_judge}

module _ (map : MapSizes) (mapped : AreMapped map) (entry : View) (IsGood : Bytes → Type 0)
    (local : IsLocal map entry IsGood) (functions : ℕ) (types : ℕ → ℕ) (k : Keys) (t charge weight : ℕ) (x : Source)
    (to : Held) (byte n : ℕ) (into : Held) (line : ℕ) (dv bv nv : Value) (below_to : AreBelow t (held_registers to))
    (below_byte : byte < t) (below_n : n < t) (below_into : AreBelow t (held_registers into))
    (distinct : AreDistinct (held_registers into)) (none : AreNoneOf (held_registers to) (held_registers into)) where
  abbrev g : Views
  g = views_of map functions types entry

  abbrev c : Context
  c = in_runtime map charge weight

  abbrev Holds : Held → Value → State → Type 0
  Holds = HasPointer map mapped entry IsGood functions types k t charge weight x

  pub record IsToSet (f : State) : Type 0 where
    pub stands : IsFor g k IsGood x f
    pub destination : Holds to dv f
    pub byte_is : f.values byte ≡ bv.word
    pub size_is : f.values n ≡ nv.word

  still : (f f' : State) → IsToSet f → IsSameBut t f f' → IsToSet f'
  still f f' p s = record {
    stands = for_still g k IsGood x f f' s.memory s.shows p.stands;
    destination = pointer_still map mapped entry IsGood functions types k t charge weight x to dv f f' below_to s
        p.destination;
    byte_is = s.others byte below_byte tt ∙ p.byte_is;
    size_is = s.others n below_n tt ∙ p.size_is;
  }

  on_work : (f : State) → IsToSet f → IsToSet (worked c f)
  on_work f p = still f (worked c f) p (record {
    memory = refl;
    shows = record { input = refl; output = refl; taken = refl; accesses = refl; turns = refl };
    others = λ r l none. refl;
  })

  abbrev setting : Place → Run Value
  setting p = set_bytes (replicate nv.word (fit UnsignedChar bv.word)) p >> done dv

  abbrev whole : Run Value
  whole = located true nv.word dv line >>= setting

  whole_gives : (v : Value) (x' : Source) → whole x ≡ Gives v x' → v ≡ dv
  whole_gives = gives_located nv.word dv line x setting dv
      (λ p v x' e. same_given dv v (with_filled x nv.word bv.word p) x' e)

  module _ (judging act : List FlatInstruction) (judges : IsJudgeRoutine to n line t judging)
      (fills : IsFillRoutine map to.value byte n t act) where
    abbrev Left : Run Value → State → Outcome → Type 0
    Left run f = Leaves g k IsGood Nowhere t x f (run x)

    ready : (f : State) (p : Place) → IsToSet f → IsAllowed x.objects dv nv.word p
        → IsToFill map to.value n nv.word f
    ready f p h a = record {
      size_is = h.size_is;
      to_range = subst (λ i. IsObjectRange map i nv.word) (sym h.destination.spells.word)
          (allowed_range g k x.objects f.memory dv nv.word p h.stands.objects a);
    }

    filled : (f : State) (p : Place) (o : Outcome) → IsToSet f → IsAllowed x.objects dv nv.word p
        → Either (HasFilled to.value byte nv.word t f) Never o → Left (setting p) f o
    filled f p (Continues f') h a done =
        filled_is map mapped entry IsGood functions types k t x f f' local to.value byte nv.word bv.word dv dv p
        h.stands a h.destination.spells.word h.byte_is done
    filled f p (Halts status report f') h a never = never

    acts_setting : (p : Place) → judge nv.word dv x.objects ≡ Inside p → IsSoundTag functions x.objects dv.tag
        → Does c act IsToSet (λ f. 8 + 5 * work_done (setting p x) x) (Left (setting p))
    acts_setting p is sound =
        let a = judge_inside functions x.objects nv.word dv p sound is in
        let long = length-replicate nv.word (fit UnsignedChar bv.word) in
        does_weaken c act (8 + 5 * nv.word) (8 + 5 * work_done (setting p x) x) (IsToFill map to.value n nv.word)
        IsToSet (λ f. Either (HasFilled to.value byte nv.word t f) Never) (Left (setting p)) (omega arith)
        (λ f h. ready f p h a) (λ f o h done. filled f p o h a done) (fills nv.word charge weight)

    after_judged : nv.word ≢ 0 → IsSoundTag functions x.objects dv.tag
        → Does c (judging ++ act) IsToSet (λ f. 10 + (8 + 5 * work_done (whole x) x)) (Left whole)
    after_judged some sound =
        judged_acts g k IsGood Nowhere t x c judging act dv nv.word line setting IsToSet 10 8 5
        (does_weaken c judging 10 10 (IsToJudge g k x.objects dv nv.word to n) IsToSet
        (λ f. IsJudged (judge nv.word dv x.objects) line t f) (λ f. IsJudged (judge nv.word dv x.objects) line t f)
        (omega arith)
        (λ f p. to_judge map mapped entry IsGood functions types k t charge weight x to n dv nv f some p.stands
        p.destination p.size_is)
        (λ f o p h. h) (judges g k x.objects dv nv.word true charge weight mapped))
        (λ f p. p.stands.shown) still (λ p is. acts_setting p is sound)

    pub memset_acts : Does c (guarded_code n to into (judging ++ act)) IsToSet
        (λ f. 24 + 5 * work_done (memset dv bv nv line x) x)
        (λ f. Leaves g k IsGood (Pointer into) t x f (memset dv bv nv line x))
    memset_acts = record {
      from = λ code pc f w p q.
          (let sound = q.destination.sound in
          (guarded g k IsGood t x c to into n dv nv whole (judging ++ act) IsToSet 18 5 below_to below_into distinct
          none
          (λ f p. record {
            stands = p.stands;
            spells = p.destination.spells;
            sound = p.destination.sound;
            size_is = p.size_is;
          })
          on_work whole_gives
          (λ some. does_weaken c (judging ++ act) (10 + (8 + 5 * work_done (whole x) x))
          (18 + 5 * work_done (whole x) x) IsToSet IsToSet (Left whole) (Left whole) (omega arith) (λ f p. p)
          (λ f o p h. h) (after_judged some sound))).from code pc f w p q);
    }

pub sets_as : (map : MapSizes) → AreMapped map → (entry : View) (IsGood : Bytes → Type 0) → IsLocal map entry IsGood
    → (to : Held) (byte n : ℕ) (into : Held) (line t : ℕ) → AreBelow t (held_registers to) → byte < t → n < t
    → AreBelow t (held_registers into) → AreDistinct (held_registers into)
    → AreNoneOf (held_registers to) (held_registers into) → (judging act : List FlatInstruction)
    → IsJudgeRoutine to n line t judging → IsFillRoutine map to.value byte n t act
    → SetsObjects (runtime_basis map entry IsGood) to byte n into line t (guarded_code n to into (judging ++ act))
sets_as map mapped entry IsGood local to byte n into line t bt bb bn bi distinct none judging act j fills functions
    types k x [] charge weight = record { from = λ code pc f has w p. absurd p.1 }
sets_as map mapped entry IsGood local to byte n into line t bt bb bn bi distinct none judging act j fills functions
    types k x (dv ∷ []) charge weight = record { from = λ code pc f has w p. absurd p.1.1 }
sets_as map mapped entry IsGood local to byte n into line t bt bb bn bi distinct none judging act j fills functions
    types k x (dv ∷ bv ∷ []) charge weight = record { from = λ code pc f has w p. absurd p.1.1.1 }
sets_as map mapped entry IsGood local to byte n into line t bt bb bn bi distinct none judging act j fills functions
    types k x (dv ∷ bv ∷ nv ∷ []) charge weight = record {
      from = λ code pc f has w p. (memset_acts map mapped entry IsGood local functions types k t charge weight x to byte
          n into line dv bv nv bt bb bn bi distinct none judging act j fills).from code pc f has w (record {
            stands = p.0;
            destination = record { spells = p.1.0.0; sound = p.1.0.1 };
            byte_is = p.1.1.0;
            size_is = p.1.1.1.0;
          });
    }
sets_as map mapped entry IsGood local to byte n into line t bt bb bn bi distinct none judging act j fills functions
    types k x (dv ∷ bv ∷ nv ∷ v ∷ vs) charge weight = record { from = λ code pc f has w p. absurd p.1.1.1.1 }
