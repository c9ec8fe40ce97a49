-- `memmove`: both ranges are judged, and then moved.
use Rattle.std.proofs.Common.{◌≡◌, ◌≢◌, ℕ, ◌+◌, ◌*◌, ◌<◌, List, [], ◌∷◌, ◌++◌, true, refl, sym}
use Rattle.std.proofs.Common.{◌∙◌, subst, arith}
use Rattle.addr_map.specs.Places.{MapSizes, AreMapped}
use Rattle.obj_memory.specs.declared.value.Value.{Value}
use Rattle.obj_memory.specs.declared.value.Place.{Place}
use Rattle.obj_memory.specs.declared.judgement.Verdict.{Verdict}
use Rattle.obj_memory.specs.declared.judgement.Verdict.TheVariants.{Outside, Dead, Inside}
use Rattle.obj_memory.specs.Judgement.{judge}
use Rattle.obj_memory.specs.Sound.{IsSoundTag, IsAllowed}
use Rattle.obj_memory.proofs.Judging.{judge_inside}
use Rattle.source_meaning.specs.State.{State as Source, Outcome as Completed, Gives, Run, ◌>>=◌, ◌>>◌, done, on}
use Rattle.source_meaning.specs.Actions.{located, move_bytes}
use Rattle.source_meaning.specs.Memory.{memmove}
use Rattle.flat_code.specs.declared.instruction.FlatInstruction.{FlatInstruction}
use Rattle.flat_code.specs.Memory.{Bytes}
use Rattle.flat_code.specs.State.{State}
use Rattle.flat_code.specs.Meaning.{Context}
use Rattle.flat_code.specs.declared.registers.Held.{Held}
use Rattle.flat_code.specs.Routines.Registers.{AreBelow, AreNoneOf, AreDistinct}
use Rattle.flat_code.specs.Routines.Routine.{Outcome, Continues, Halts, Does, Either, Never}
use Rattle.flat_code.specs.Routines.Effects.{worked}
use Rattle.flat_code.specs.Routines.Metadata.{View, held_registers}
use Rattle.flat_code.specs.Routines.Objects.StandsFor.{Views, Keys, Spells}
use Rattle.flat_actions.specs.Judgement.Judging.{IsSameBut, IsToJudge, IsJudged, IsJudgeRoutine}
use Rattle.flat_actions.specs.Actions.{views_of, AreSpacesGood, IsFor, Nowhere, Pointer, Leaves, runtime_basis}
use Rattle.flat_actions.specs.Ranges.{IsObjectRange, IsToMove, HasMovedTagged, IsTaggedMoveRoutine}
use Rattle.flat_actions.proofs.Standing.{for_still, spells_still, none_of_none}
use Rattle.flat_actions.proofs.Judged.{judged_then, located_then}
use Rattle.flat_actions.specs.Lists.{guarded_code}
use Rattle.lib_wrappers.specs.MovingRoutines.Library.{MovesObjects}
use Rattle.lib_wrappers.proofs.MovingRoutines.Steps.{does_weaken}
use Rattle.lib_wrappers.proofs.MovingRoutines.Bytes.{in_runtime}
use Rattle.lib_wrappers.proofs.MovingRoutines.Judged.{work_done, judged_acts}
use Rattle.lib_wrappers.proofs.MovingRoutines.Guarded.{guarded}
use Rattle.lib_wrappers.proofs.MovingRoutines.Moves.{allowed_range, with_moved, moved_is}

-- ---- what a run gives that judges first

gives_then : (w : Verdict) (line : ℕ) (x : Source) (next : Place → Completed Value) (d : Value)
    → ((p : Place) (v : Value) (x' : Source) → next p ≡ Gives v x' → v ≡ d) → (v : Value) (x' : Source)
    → judged_then w line x next ≡ Gives v x' → v ≡ d
gives_then Outside line x next d h v x' e = cc
gives_then Dead line x next d h v x' e = cc
gives_then (Inside p) line x next d h v x' e = h p v x' e

pub gives_located : (size : ℕ) (pointer : Value) (line : ℕ) (x : Source) (next : Place → Run Value) (d : Value)
    → ((p : Place) (v : Value) (x' : Source) → next p x ≡ Gives v x' → v ≡ d) → (v : Value) (x' : Source)
    → on (located true size pointer line x) next ≡ Gives v x' → v ≡ d
gives_located size pointer line x next d h v x' e =
    gives_then (judge size pointer x.objects) line x (λ p. next p x) d h v x'
    (sym (located_then size pointer line x next) ∙ e)

pub same_given : (d v : Value) (x x' : Source) → Gives d x ≡ Gives v x' → v ≡ d
same_given d v x x' e = cc

module _ (map : MapSizes) (mapped : AreMapped map) (entry : View) (IsGood : Bytes → Type 0) (functions : ℕ)
    (types : ℕ → ℕ) (k : Keys) (t charge weight : ℕ) (x : Source) where
  abbrev g : Views
  g = views_of map functions types entry

  abbrev c : Context
  c = in_runtime map charge weight

  -- a judged act needs the pointer
  pub record HasPointer (h : Held) (v : Value) (f : State) : Type 0 where
    pub spells : Spells g k v h f.values
    pub sound : IsSoundTag functions x.objects v.tag

  pub pointer_still : (h : Held) (v : Value) (f f' : State) → AreBelow t (held_registers h) → IsSameBut t f f'
      → HasPointer h v f → HasPointer h v f'
  pointer_still h v f f' below s p = record {
    spells = spells_still g k v h [] t f f' s.others below (none_of_none (held_registers h)) p.spells;
    sound = p.sound;
  }

  pub to_judge : (h : Held) (n : ℕ) (v nv : Value) (f : State) → nv.word ≢ 0 → IsFor g k IsGood x f → HasPointer h v f
      → f.values n ≡ nv.word → IsToJudge g k x.objects v nv.word h n f
  to_judge h n v nv f some stands p size_is = record {
    stands = stands.objects;
    sound = p.sound;
    spells = p.spells;
    size_is = size_is;
    some = omega (arith, some);
  }

  -- ---- memmove

  module _ (to from : Held) (n : ℕ) (into : Held) (line : ℕ) (dv sv nv : Value)
      (below_to : AreBelow t (held_registers to)) (below_from : AreBelow t (held_registers from)) (below_n : n < t)
      (below_into : AreBelow t (held_registers into)) (distinct : AreDistinct (held_registers into))
      (none : AreNoneOf (held_registers to) (held_registers into)) where
    pub record IsToMoveObjects (f : State) : Type 0 where
      pub stands : IsFor g k IsGood x f
      pub destination : HasPointer to dv f
      pub source : HasPointer from sv f
      pub size_is : f.values n ≡ nv.word

    still : (f f' : State) → IsToMoveObjects f → IsSameBut t f f' → IsToMoveObjects f'
    still f f' p s = record {
      stands = for_still g k IsGood x f f' s.memory s.shows p.stands;
      destination = pointer_still to dv f f' below_to s p.destination;
      source = pointer_still from sv f f' below_from s p.source;
      size_is = s.others n below_n tt ∙ p.size_is;
    }

    on_work : (f : State) → IsToMoveObjects f → IsToMoveObjects (worked c f)
    on_work f p = still f (worked c f) p (record {
      memory = refl;
      shows = record { input = refl; output = refl; taken = refl; accesses = refl; turns = refl };
      others = λ r l none. refl;
    })

    abbrev moving : Place → Place → Run Value
    moving d s = move_bytes nv.word d s >> done dv

    abbrev from_source : Place → Run Value
    from_source d = located true nv.word sv line >>= (λ s. moving d s)

    abbrev whole : Run Value
    whole = located true nv.word dv line >>= from_source

    whole_gives : (v : Value) (x' : Source) → whole x ≡ Gives v x' → v ≡ dv
    whole_gives = gives_located nv.word dv line x from_source dv
        (λ d. gives_located nv.word sv line x (moving d) dv
        (λ s v x' e. same_given dv v (with_moved x nv.word d s) x' e))

    module _ (first second act : List FlatInstruction) (judges_to : IsJudgeRoutine to n line t first)
        (judges_from : IsJudgeRoutine from n line t second)
        (moves : IsTaggedMoveRoutine map entry IsGood to.value from.value n t act) where
      abbrev Left : Run Value → State → Outcome → Type 0
      Left run f = Leaves g k IsGood Nowhere t x f (run x)

      -- what is moved was judged
      ready : (f : State) (d s : Place) → IsToMoveObjects f → IsAllowed x.objects dv nv.word d
          → IsAllowed x.objects sv nv.word s → IsToMove map to.value from.value n nv.word f
      ready f d s p a b = record {
        size_is = p.size_is;
        to_range = subst (λ i. IsObjectRange map i nv.word) (sym p.destination.spells.word)
            (allowed_range g k x.objects f.memory dv nv.word d p.stands.objects a);
        from_range = subst (λ i. IsObjectRange map i nv.word) (sym p.source.spells.word)
            (allowed_range g k x.objects f.memory sv nv.word s p.stands.objects b);
      }

      moved : (f : State) (d s : Place) (o : Outcome) → IsToMoveObjects f → IsAllowed x.objects dv nv.word d
          → IsAllowed x.objects sv nv.word s
          → Either (HasMovedTagged map entry IsGood to.value from.value nv.word t f) Never o → Left (moving d s) f o
      moved f d s (Continues f') p a b h =
          moved_is map mapped entry IsGood functions types k t x f f' to.value from.value nv.word t dv sv dv d s
          p.stands (omega arith) a b p.destination.spells.word p.source.spells.word h
      moved f d s (Halts status report f') p a b never = never

      acts_moving : (d s : Place) → judge nv.word dv x.objects ≡ Inside d → judge nv.word sv x.objects ≡ Inside s
          → IsSoundTag functions x.objects dv.tag → IsSoundTag functions x.objects sv.tag
          → Does c act IsToMoveObjects (λ f. 40 + 16 * work_done (moving d s x) x) (Left (moving d s))
      acts_moving d s is_d is_s sound_d sound_s =
          let a = judge_inside functions x.objects nv.word dv d sound_d is_d in
          let b = judge_inside functions x.objects nv.word sv s sound_s is_s in
          does_weaken c act (40 + 16 * nv.word) (40 + 16 * work_done (moving d s x) x)
          (λ f. IsToMove map to.value from.value n nv.word f × AreSpacesGood map IsGood f.memory) IsToMoveObjects
          (λ f. Either (HasMovedTagged map entry IsGood to.value from.value nv.word t f) Never) (Left (moving d s))
          (omega arith) (λ f p. (ready f d s p a b, p.stands.spaces)) (λ f o p h. moved f d s o p a b h)
          (moves nv.word charge weight)

      after_second : (d : Place) → nv.word ≢ 0 → judge nv.word dv x.objects ≡ Inside d
          → IsSoundTag functions x.objects dv.tag → IsSoundTag functions x.objects sv.tag
          → Does c (second ++ act) IsToMoveObjects (λ f. 10 + (40 + 16 * work_done (from_source d x) x))
          (Left (from_source d))
      after_second d some is_d sound_d sound_s =
          judged_acts g k IsGood Nowhere t x c second act sv nv.word line (moving d) IsToMoveObjects 10 40 16
          (does_weaken c second 10 10 (IsToJudge g k x.objects sv nv.word from n) IsToMoveObjects
          (λ f. IsJudged (judge nv.word sv x.objects) line t f) (λ f. IsJudged (judge nv.word sv x.objects) line t f)
          (omega arith) (λ f p. to_judge from n sv nv f some p.stands p.source p.size_is) (λ f o p h. h)
          (judges_from g k x.objects sv nv.word true charge weight mapped))
          (λ f p. p.stands.shown) still
          (λ s is_s. acts_moving d s is_d is_s sound_d sound_s)

      after_first : nv.word ≢ 0 → IsSoundTag functions x.objects dv.tag → IsSoundTag functions x.objects sv.tag
          → Does c (first ++ (second ++ act)) IsToMoveObjects (λ f. 10 + (50 + 16 * work_done (whole x) x)) (Left whole)
      after_first some sound_d sound_s =
          judged_acts g k IsGood Nowhere t x c first (second ++ act) dv nv.word line from_source IsToMoveObjects 10 50
          16
          (does_weaken c first 10 10 (IsToJudge g k x.objects dv nv.word to n) IsToMoveObjects
          (λ f. IsJudged (judge nv.word dv x.objects) line t f) (λ f. IsJudged (judge nv.word dv x.objects) line t f)
          (omega arith) (λ f p. to_judge to n dv nv f some p.stands p.destination p.size_is) (λ f o p h. h)
          (judges_to g k x.objects dv nv.word true charge weight mapped))
          (λ f p. p.stands.shown) still
          (λ d is_d. does_weaken c (second ++ act) (10 + (40 + 16 * work_done (from_source d x) x))
          (50 + 16 * work_done (from_source d x) x) IsToMoveObjects IsToMoveObjects (Left (from_source d))
          (Left (from_source d)) (omega arith) (λ f p. p) (λ f o p h. h)
          (after_second d some is_d sound_d sound_s))

      pub memmove_acts : Does c (guarded_code n to into (first ++ (second ++ act))) IsToMoveObjects
          (λ f. 66 + 16 * work_done (memmove dv sv nv line x) x)
          (λ f. Leaves g k IsGood (Pointer into) t x f (memmove dv sv nv line x))
      memmove_acts = record {
        from = λ code pc f w p q.
            (let sound_d = q.destination.sound in let sound_s = q.source.sound in
            (guarded g k IsGood t x c to into n dv nv whole (first ++ (second ++ act)) IsToMoveObjects 60 16 below_to
            below_into distinct none
            (λ f p. record {
              stands = p.stands;
              spells = p.destination.spells;
              sound = p.destination.sound;
              size_is = p.size_is;
            })
            on_work whole_gives
            (λ some. does_weaken c (first ++ (second ++ act)) (10 + (50 + 16 * work_done (whole x) x))
            (60 + 16 * work_done (whole x) x) IsToMoveObjects IsToMoveObjects (Left whole) (Left whole) (omega arith)
            (λ f p. p) (λ f o p h. h) (after_first some sound_d sound_s))).from code pc f w p q);
      }

pub moves_as : (map : MapSizes) → AreMapped map → (entry : View) (IsGood : Bytes → Type 0) (to from : Held) (n : ℕ)
    (into : Held) (line t : ℕ) → AreBelow t (held_registers to) → AreBelow t (held_registers from) → n < t
    → AreBelow t (held_registers into) → AreDistinct (held_registers into)
    → AreNoneOf (held_registers to) (held_registers into) → (first second act : List FlatInstruction)
    → IsJudgeRoutine to n line t first → IsJudgeRoutine from n line t second
    → IsTaggedMoveRoutine map entry IsGood to.value from.value n t act
    → MovesObjects (runtime_basis map entry IsGood) to from n into line t
    (guarded_code n to into (first ++ (second ++ act)))
moves_as map mapped entry IsGood to from n into line t bt bf bn bi distinct none first second act jt jf moves functions
    types k x [] charge weight = record { from = λ code pc f has w p. absurd p.1 }
moves_as map mapped entry IsGood to from n into line t bt bf bn bi distinct none first second act jt jf moves functions
    types k x (dv ∷ []) charge weight = record { from = λ code pc f has w p. absurd p.1.1 }
moves_as map mapped entry IsGood to from n into line t bt bf bn bi distinct none first second act jt jf moves functions
    types k x (dv ∷ sv ∷ []) charge weight = record { from = λ code pc f has w p. absurd p.1.1.1 }
moves_as map mapped entry IsGood to from n into line t bt bf bn bi distinct none first second act jt jf moves functions
    types k x (dv ∷ sv ∷ nv ∷ []) charge weight = record {
      from = λ code pc f has w p. (memmove_acts map mapped entry IsGood functions types k t charge weight x to from n
          into line dv sv nv bt bf bn bi distinct none first second act jt jf moves).from code pc f has w (record {
            stands = p.0;
            destination = record { spells = p.1.0.0; sound = p.1.0.1 };
            source = record { spells = p.1.1.0.0; sound = p.1.1.0.1 };
            size_is = p.1.1.1.0;
          });
    }
moves_as map mapped entry IsGood to from n into line t bt bf bn bi distinct none first second act jt jf moves functions
    types k x (dv ∷ sv ∷ nv ∷ v ∷ vs) charge weight = record { from = λ code pc f has w p. absurd p.1.1.1.1 }
