-- The assignment of structures: a range that pointers name is moved, and nothing is judged.
use Rattle.std.proofs.Common.{◌≡◌, ℕ, ◌+◌, ◌-◌, ◌*◌, ◌^◌, ◌<◌, List, [], ◌∷◌, false, length, refl, sym}
use Rattle.std.proofs.Common.{ap, ◌∙◌, subst, arith}
use Rattle.addr_map.specs.Places.{MapSizes, AreMapped}
use Rattle.obj_memory.specs.declared.value.Value.{Value}
use Rattle.obj_memory.specs.declared.value.Place.{Place}
use Rattle.obj_memory.specs.declared.judgement.Verdict.TheVariants.{Inside}
use Rattle.obj_memory.specs.Objects.{Objects}
use Rattle.obj_memory.specs.Judgement.{place_in, named_in, named}
use Rattle.obj_memory.specs.Sound.{IsAllowed}
use Rattle.source_meaning.specs.State.{State as Source, Outcome as Completed, Gives, ◌>>◌, done, on}
use Rattle.source_meaning.specs.Actions.{integer, copy_structure, place_or_stop, move_bytes}
use Rattle.source_meaning.specs.Keeping.{IsDirect}
use Rattle.flat_code.specs.declared.instruction.FlatInstruction.{FlatInstruction}
use Rattle.flat_code.specs.declared.instruction.FlatInstruction.TheVariants.{Constant}
use Rattle.flat_code.specs.Memory.{Bytes, put}
use Rattle.flat_code.specs.State.{State}
use Rattle.flat_code.specs.Meaning.{Context, Goes}
use Rattle.flat_code.specs.declared.registers.Held.{Held}
use Rattle.flat_code.specs.Routines.Registers.{AreBelow}
use Rattle.flat_code.specs.Routines.Routine.{Outcome, Continues, Halts, Does, Either, Never}
use Rattle.flat_code.specs.Routines.Metadata.{View, held_registers}
use Rattle.flat_code.proofs.Routines.Rules.{weaken}
use Rattle.flat_code.specs.Routines.Objects.StandsFor.{Views, Keys}
use Rattle.flat_actions.specs.Judgement.Judging.{IsSameBut}
use Rattle.flat_actions.specs.Actions.{views_of, AreSpacesGood, IsFor, Nowhere, Leaves, runtime_basis}
use Rattle.flat_actions.specs.Ranges.{IsObjectRange, IsToMove, HasMovedTagged, IsTaggedMoveRoutine}
use Rattle.flat_actions.proofs.Standing.{for_still}
use Rattle.lib_wrappers.specs.MovingRoutines.Structures.{CopiesStructure}
use Rattle.lib_wrappers.proofs.MovingRoutines.Steps.{does_weaken, quiet_then, IsGlued, glued}
use Rattle.lib_wrappers.proofs.MovingRoutines.Bytes.{in_runtime}
use Rattle.lib_wrappers.proofs.MovingRoutines.Judged.{work_done, left_since}
use Rattle.lib_wrappers.proofs.MovingRoutines.Moves.{allowed_range, with_moved, moved_is}
use Rattle.lib_wrappers.proofs.MovingRoutines.Acts.{HasPointer, pointer_still}

-- ---- in the source

-- the place that a pointer names
abbrev place_of : (objects : Objects) (v : Value) (size : ℕ) → IsDirect objects v size → Place
place_of objects v size h = place_in objects h.object v.word

named_is : (objects : Objects) (v : Value) (size : ℕ) (h : IsDirect objects v size)
    → named v objects ≡ Inside (place_of objects v size h)
unfolding named
named_is objects v size h = ap (λ tag. named_in tag v.word objects) h.tag

named_allowed : (objects : Objects) (v : Value) (size : ℕ) (h : IsDirect objects v size)
    → IsAllowed objects v size (place_of objects v size h)
named_allowed objects v size h =
    let start = h.start in let end = h.end in
    record {
      place = record { made = h.made; room = omega arith };
      live = h.live;
      address = omega arith;
    }

-- what the run gives
run_is : (x : Source) (line size : ℕ) (dv sv : Value) (d : IsDirect x.objects dv size) (s : IsDirect x.objects sv size)
    → (copy_structure size false dv line sv >> done (integer 0)) x
    ≡ Gives (integer 0) (with_moved x size (place_of x.objects dv size d) (place_of x.objects sv size s))
run_is x line size dv sv d s =
    ap (λ w. on (on (place_or_stop w line x) (λ p y. on (place_or_stop (named sv y.objects) line y)
    (λ q. move_bytes size p q))) (λ u y. Gives (integer 0) y)) (named_is x.objects dv size d)
    ∙ ap (λ w. on (on (place_or_stop w line x) (λ q. move_bytes size (place_of x.objects dv size d) q))
    (λ u y. Gives (integer 0) y)) (named_is x.objects sv size s)

-- ---- in flat code

module _ (map : MapSizes) (mapped : AreMapped map) (entry : View) (IsGood : Bytes → Type 0) (functions : ℕ)
    (types : ℕ → ℕ) (k : Keys) (t charge weight : ℕ) (x : Source) (to from : Held) (size : ℕ) (small : size < 2 ^ 64)
    (dv sv : Value) (below_to : AreBelow t (held_registers to)) (below_from : AreBelow t (held_registers from))
    (d : IsDirect x.objects dv size) (s : IsDirect x.objects sv size) where
  abbrev g : Views
  g = views_of map functions types entry

  abbrev c : Context
  c = in_runtime map charge weight

  abbrev Holds : Held → Value → State → Type 0
  Holds = HasPointer map mapped entry IsGood functions types k t charge weight x

  pub record IsToCopy (f : State) : Type 0 where
    pub stands : IsFor g k IsGood x f
    pub destination : Holds to dv f
    pub source : Holds from sv f

  -- the size is put into a register, and nothing else changes
  sized : (f y : State) → IsGlued c [] t 1 (Constant 0 size ∷ []) f y → (y.values t ≡ size) × IsSameBut t f y
  unfolding put
  sized f y h = (
    sym (h.values 0 (omega arith)) ∙ omega arith,
    record {
      memory = ap (λ z. z.memory) h.rest;
      shows = record {
        input = ap (λ z. z.input) h.rest;
        output = ap (λ z. z.output) h.rest;
        taken = ap (λ z. z.taken) h.rest;
        accesses = ap (λ z. z.accesses) h.rest;
        turns = ap (λ z. z.turns) h.rest;
      };
      others = h.others;
    },
  )

  still : (f y : State) → IsToCopy f → IsSameBut t f y → IsToCopy y
  still f y p same = record {
    stands = for_still g k IsGood x f y same.memory same.shows p.stands;
    destination = pointer_still map mapped entry IsGood functions types k t charge weight x to dv f y below_to same
        p.destination;
    source = pointer_still map mapped entry IsGood functions types k t charge weight x from sv f y below_from same
        p.source;
  }

  abbrev outcome : Completed Value
  outcome = Gives (integer 0) (with_moved x size (place_of x.objects dv size d) (place_of x.objects sv size s))

  module _ (act : List FlatInstruction)
      (moves : IsTaggedMoveRoutine map entry IsGood to.value from.value t (t + 1) act) where
    ready : (y : State) → IsToCopy y → y.values t ≡ size → IsToMove map to.value from.value t size y
    ready y p is = record {
      size_is = is;
      to_range = subst (λ i. IsObjectRange map i size) (sym p.destination.spells.word)
          (allowed_range g k x.objects y.memory dv size (place_of x.objects dv size d) p.stands.objects
          (named_allowed x.objects dv size d));
      from_range = subst (λ i. IsObjectRange map i size) (sym p.source.spells.word)
          (allowed_range g k x.objects y.memory sv size (place_of x.objects sv size s) p.stands.objects
          (named_allowed x.objects sv size s));
    }

    abbrev Left : State → Outcome → Type 0
    Left f = Leaves g k IsGood Nowhere t x f outcome

    left : (f y : State) (o : Outcome) → IsToCopy f → IsSameBut t f y
        → Either (HasMovedTagged map entry IsGood to.value from.value size (t + 1) y) Never o → Left f o
    left f y (Continues z) p same h =
        let q = still f y p same in
        left_since g k IsGood Nowhere t x f y outcome (Continues z) same
        (moved_is map mapped entry IsGood functions types k t x y z to.value from.value size (t + 1) dv sv (integer 0)
        (place_of x.objects dv size d) (place_of x.objects sv size s) q.stands (omega arith)
        (named_allowed x.objects dv size d) (named_allowed x.objects sv size s) q.destination.spells.word
        q.source.spells.word h)
    left f y (Halts status report z) p same never = never

    pub copies : Does c (Constant t size ∷ act) IsToCopy (λ f. 41 + 16 * size) Left
    copies =
        does_weaken c (Constant t size ∷ act) (1 + (40 + 16 * size)) (41 + 16 * size) IsToCopy IsToCopy Left Left
        (omega arith) (λ f p. p) (λ f o p h. h)
        (quiet_then c (Constant t size ∷ []) act 1 (40 + 16 * size) IsToCopy (IsGlued c [] t 1 (Constant 0 size ∷ []))
        (λ f y. IsToMove map to.value from.value t size y × AreSpacesGood map IsGood y.memory)
        (λ f y. Either (HasMovedTagged map entry IsGood to.value from.value size (t + 1) y) Never) Left
        (glued c [] t 1 (Constant 0 size ∷ []) IsToCopy tt refl (λ f w p. (tt, tt)))
        (λ f. moves size charge weight)
        (λ f y p h. let z = sized f y h in let q = still f y p z.1 in (ready y q z.0, q.stands.spaces))
        (λ f y o p h m. left f y o p (sized f y h).1 m))

pub copies_as : (map : MapSizes) → AreMapped map → (entry : View) (IsGood : Bytes → Type 0) (to from : Held)
    (size t : ℕ) → size < 2 ^ 64 → AreBelow t (held_registers to) → AreBelow t (held_registers from)
    → (act : List FlatInstruction) → IsTaggedMoveRoutine map entry IsGood to.value from.value t (t + 1) act
    → CopiesStructure (runtime_basis map entry IsGood) size to from t (Constant t size ∷ act)
copies_as map mapped entry IsGood to from size t small bt bf act moves line functions types k x [] charge weight =
    record { from = λ code pc f has w p. absurd p.1 }
copies_as map mapped entry IsGood to from size t small bt bf act moves line functions types k x (dv ∷ []) charge
    weight = record { from = λ code pc f has w p. absurd p.1.1 }
copies_as map mapped entry IsGood to from size t small bt bf act moves line functions types k x (dv ∷ sv ∷ []) charge
    weight = record {
      from = λ code pc f has w p.
          (let d = p.2.to in let s = p.2.from in
          let g = views_of map functions types entry in
          let run = (copy_structure size false dv line sv >> done (integer 0)) x in
          let is = run_is x line size dv sv d s in
          let work : size ≡ work_done run x =
          (let e : (x.work + size) - x.work ≡ size = omega arith in sym e ∙ ap (λ o. work_done o x) (sym is)) in
          weaken (in_runtime map charge weight) code (41 + 16 * size) (41 + 16 * work_done run x) (Goes pc f)
          (pc + length (Constant t size ∷ act))
          (Leaves g k IsGood Nowhere t x f (Gives (integer 0)
          (with_moved x size (place_of x.objects dv size d) (place_of x.objects sv size s))))
          (Leaves g k IsGood Nowhere t x f run) (omega arith)
          (λ o h. subst (λ z. Leaves g k IsGood Nowhere t x f z o) (sym is) h)
          ((copies map mapped entry IsGood functions types k t charge weight x to from size small dv sv bt bf d s act
          moves).from code pc f has w (record {
            stands = p.0;
            destination = record { spells = p.1.0.0; sound = p.1.0.1 };
            source = record { spells = p.1.1.0.0; sound = p.1.1.0.1 };
          })));
    }
copies_as map mapped entry IsGood to from size t small bt bf act moves line functions types k x (dv ∷ sv ∷ v ∷ vs)
    charge weight = record { from = λ code pc f has w p. absurd p.1.1.1 }
