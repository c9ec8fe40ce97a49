-- Areas that are made zero and that structures are taken to are what the runs of the source give.
use Rattle.std.proofs.Common.{◌≡◌, ℕ, ◌+◌, ◌-◌, ◌*◌, ◌/◌, inl, List, length}
use Rattle.std.proofs.Common.{refl, sym, ap, ◌∙◌, subst, arith, None}
use Rattle.addr_map.specs.Places.{MapSizes, AreMapped}
use Rattle.obj_memory.specs.declared.value.Value.{Value}
use Rattle.obj_memory.specs.declared.judgement.Verdict.TheVariants.{Inside}
use Rattle.obj_memory.specs.declared.object.Storage.TheVariants.{Automatic}
use Rattle.obj_memory.specs.Objects.{ObjectState, Objects, object_at, new_object}
use Rattle.obj_memory.specs.Judgement.{place_in, named_in, named}
use Rattle.c_tree.specs.declared.expression.Kind.TheVariants.{Structure}
use Rattle.source_meaning.specs.State.{State as Source, Gives, ◌>>◌, read_state, tally, on}
use Rattle.source_meaning.specs.Actions.{place_or_stop}
use Rattle.source_meaning.specs.Keeping.{IsDirect}
use Rattle.source_meaning.specs.Structures.{taken, contents_of, with_contents, make_zero}
use Rattle.source_meaning.proofs.Holding.{direct_allowed}
use Rattle.flat_code.specs.declared.instruction.FlatInstruction.{FlatInstruction}
use Rattle.flat_code.specs.Memory.{Bytes, KeepsBut}
use Rattle.flat_code.specs.State.{State}
use Rattle.flat_code.specs.Routines.Routine.{Outcome, Continues, Halts, Either, Never}
use Rattle.flat_code.specs.Meaning.{Goes}
use Rattle.source_meaning.specs.Acting.{state_of}
use Rattle.flat_code.specs.Routines.Metadata.{View, ShowsNothing}
use Rattle.flat_code.proofs.Routines.Rules.{weaken}
use Rattle.flat_code.proofs.Routines.Words.{IsLocal}
use Rattle.flat_code.specs.Routines.Objects.StandsFor.{Views, Keys}
use Rattle.flat_actions.specs.Actions.{IsFor, views_of}
use Rattle.lib_wrappers.proofs.MovingRoutines.Steps.{does_weaken}
use Rattle.lib_wrappers.proofs.MovingRoutines.Bytes.{in_runtime}
use Rattle.lib_wrappers.proofs.MovingRoutines.Moves.{allowed_range}
use Rattle.flat_actions.specs.Ranges.{IsObjectRange}
use Rattle.lib_wrappers.specs.AreaRoutines.Areas.{IsAreaPlace, IsArea, area_bytes, entries_begin}
use Rattle.lib_wrappers.specs.AreaRoutines.Zeroing.{IsToZeroArea, HasZeroedArea, IsZeroAreaRoutine}
use Rattle.lib_wrappers.specs.AreaRoutines.Taking.{HasTaken, IsTakeRangeRoutine}
use Rattle.lib_wrappers.specs.AreaRoutines.Values.{HasGivenArea, LeavesArea, IsToTakePlace, IsTakeRoutine}
use Rattle.lib_wrappers.specs.AreaRoutines.Values.{IsMakeZeroRoutine}
use Rattle.lib_wrappers.specs.AreaRoutines.Values.{work_from}
use Rattle.lib_wrappers.proofs.AreaRoutines.Behind.{for_behind}
use Rattle.lib_wrappers.proofs.AreaRoutines.Contents.{area_from, area_of_zeros, contents_size}
use Rattle.lib_wrappers.proofs.AreaRoutines.TakeRanges.{zeros_are_none}

-- ---- in the source

pub named_is : (objects : Objects) (v : Value) (size : ℕ) (h : IsDirect objects v size)
    → named v objects ≡ Inside (place_in objects h.object v.word)
unfolding named
named_is objects v size h = ap (λ tag. named_in tag v.word objects) h.tag

taken_is : (x : Source) (v : Value) (size line : ℕ) (d : IsDirect x.objects v size)
    → taken None size v line x
    ≡ Gives (with_contents size (place_in x.objects d.object v.word).offset (object_at x.objects d.object))
    (record x { work = x.work + size })
taken_is x v size line d =
    ap (λ w. on (place_or_stop w line x) (λ p. tally size
    >> read_state (λ s. with_contents size p.offset (object_at s.objects p.object))))
    (named_is x.objects v size d)

-- ---- a structure taken from its place

module _ (map : MapSizes) (mapped : AreMapped map) (entry : View) (IsGood : Bytes → Type 0)
    (local : IsLocal map entry IsGood) (functions : ℕ) (types : ℕ → ℕ) (k : Keys) where
  abbrev g : Views
  g = views_of map functions types entry

  -- what changes in an area alone
  pub stands_beside : (x : Source) (work size a : ℕ) (f f' : State) → IsAreaPlace map size a
      → KeepsBut a (area_bytes size) f.memory f'.memory → IsFor g k IsGood x f
      → ShowsNothing f f' → IsFor g k IsGood (record x { work = work }) f'
  stands_beside x work size a f f' place beside stands shows =
      let first = place.first in
      let h = for_behind map mapped functions types entry IsGood local k x f f'
      (λ b l. beside b (inl (omega arith))) shows stands in
      record {
        objects = h.objects;
        spaces = h.spaces;
        keys = h.keys;
        shown = record {
          input = h.shown.input;
          output = h.shown.output;
          taken = h.shown.taken;
          accesses = h.shown.accesses;
        };
      }

  module _ (x : Source) (v : Value) (size to from bytes t : ℕ) (f f' : State) (stands : IsFor g k IsGood x f)
      (p : IsToTakePlace map x v size to from bytes f) (taken : HasTaken entry to from size t f f') where
    abbrev d : IsDirect x.objects v size
    d = p.direct

    abbrev o : ObjectState
    o = object_at x.objects d.object

    abbrev offset : ℕ
    offset = (place_in x.objects d.object v.word).offset

    at : o.address + offset ≡ f.values from
    at = let start = d.start in let word = p.word in omega arith

    holds : IsArea g k (contents_of size offset o) (f.values to) f'.memory
    holds =
        let here = stands.objects.here d.object d.live in
        let sound = stands.objects.sound.at d.object in
        let aligned = sound.aligned in let all = sound.bytes in
        let is = at in let start = d.start in let end = d.end in
        area_from g k size offset (f.values to) o f'.memory (omega arith)
        (λ i l. (let e : f.values from + i ≡ o.address + (offset + i) = omega arith in
        taken.bytes i l ∙ ap f.memory e ∙ here.bytes (offset + i) (omega arith)))
        (λ al w l. (let e : f.values from + 8 * w ≡ o.address + 8 * (offset / 8 + w) = omega arith in
        taken.entries (omega arith) w l ∙ ap (entry f.memory) e ∙ here.tags (offset / 8 + w) (omega arith)))
        (λ ne w l. taken.none (λ e. ne (omega arith)) w l)

    gives : HasGivenArea g k IsGood (f.values to) t (contents_of size offset o) f
        (record x { work = x.work + size }) f'
    gives =
        let n = contents_size size offset o in
        record {
          stands = stands_beside x (x.work + size) size (f.values to) f f' p.place taken.beside stands taken.shows;
          area = holds;
          beside = subst (λ z. KeepsBut (f.values to) (area_bytes z) f.memory f'.memory) (sym n) taken.beside;
          turns = taken.shows.turns;
          others = taken.others;
        }

pub takes_structures : (map : MapSizes) → AreMapped map → (entry : View) (IsGood : Bytes → Type 0)
    → IsLocal map entry IsGood → (to from bytes t : ℕ) (r : List FlatInstruction)
    → IsTakeRangeRoutine map entry IsGood to from bytes t r → IsTakeRoutine map entry IsGood to from bytes t r
takes_structures map mapped entry IsGood local to from bytes t r takes functions types k x v size line charge weight =
    record {
      from = λ code pc f has w p.
          (let g = views_of map functions types entry in
          let d = p.1.direct in
          let is = taken_is x v size line d in
          let work : work_from (taken None size v line) x ≡ size =
          ap (λ o. (state_of o).work - x.work) is ∙ omega arith in
          weaken (in_runtime map charge weight) code (48 + 16 * size) (48 + 16 * work_from (taken None size v line) x)
          (Goes pc f) (pc + length r) (Either (HasTaken entry to from size t f) Never)
          (LeavesArea g k IsGood (f.values to) t f (taken None size v line x)) (omega arith) (by f p.0 p.1)
          ((takes size charge weight).from code pc f has w (
            record {
              size_is = p.1.size_is;
              place = p.1.place;
              range = subst (λ i. IsObjectRange map i size) (sym p.1.word)
                  (allowed_range g k x.objects f.memory v size (place_in x.objects d.object v.word) p.0.objects
                  (direct_allowed x.objects v size d));
            },
            p.0.spaces.shadow,
          )));
    }
  where
    by : (f : State) → (stands : IsFor (views_of map functions types entry) k IsGood x f)
        → (p : IsToTakePlace map x v size to from bytes f)
        → (y : Outcome) → Either (HasTaken entry to from size t f) Never y
        → LeavesArea (views_of map functions types entry) k IsGood (f.values to) t f (taken None size v line x) y
    by f stands p (Continues f') h =
        subst (λ o. LeavesArea (views_of map functions types entry) k IsGood (f.values to) t f o (Continues f'))
        (sym (taken_is x v size line p.direct))
        (gives map mapped entry IsGood local functions types k x v size to from bytes t f f' stands p h)
    by f stands p (Halts status report f') never = absurd never

-- ---- a structure of zeros

fresh_size : (size : ℕ) → (new_object Automatic 0 size).size ≡ size
unfolding new_object
fresh_size size = refl

pub makes_zeros : (map : MapSizes) → AreMapped map → (entry : View) (IsGood : Bytes → Type 0)
    → IsLocal map entry IsGood → (at bytes t : ℕ) (r : List FlatInstruction)
    → IsZeroAreaRoutine map at bytes t r → IsMakeZeroRoutine map entry IsGood at bytes t r
makes_zeros map mapped entry IsGood local at bytes t r zeros functions types k x size charge weight =
    let c = in_runtime map charge weight in
    let g = views_of map functions types entry in
    let e : (x.work + size) - x.work ≡ size = omega arith in
    let work : work_from (make_zero (Structure size)) x ≡ size = e in
    let P : State → Type 0 = λ f. IsFor g k IsGood x f × IsToZeroArea map at bytes size f in
    does_weaken c r (16 + 5 * size) (16 + 5 * work_from (make_zero (Structure size)) x)
    (IsToZeroArea map at bytes size) P
    (λ f. Either (HasZeroedArea at size t f) Never)
    (λ f. LeavesArea g k IsGood (f.values at) t f (make_zero (Structure size) x)) (omega arith) (λ f p. p.1)
    (λ f y p h. by f p.0 p.1 y h) (zeros size charge weight)
  where
    by : (f : State) → IsFor (views_of map functions types entry) k IsGood x f → IsToZeroArea map at bytes size f
        → (y : Outcome) → Either (HasZeroedArea at size t f) Never y
        → LeavesArea (views_of map functions types entry) k IsGood (f.values at) t f (make_zero (Structure size) x) y
    by f stands p (Continues f') h = record {
      stands = stands_beside map mapped entry IsGood local functions types k x (x.work + size) size (f.values at) f f'
          p.place h.beside stands h.shows;
      area = area_of_zeros (views_of map functions types entry) k size (f.values at) f'.memory
          (λ i l. h.zeros i (omega arith))
          (λ w l. zeros_are_none f'.memory (entries_begin (f.values at) size + 32 * w)
          (λ i il. (let off : ℕ = (size + 7) / 8 * 8 + 32 * w + i in
          let e : f.values at + off ≡ entries_begin (f.values at) size + 32 * w + i = omega arith in
          ap f'.memory (sym e) ∙ h.zeros off (omega arith))));
      beside = subst (λ z. KeepsBut (f.values at) (area_bytes z) f.memory f'.memory) (sym (fresh_size size)) h.beside;
      turns = h.shows.turns;
      others = h.others;
    }
    by f stands p (Halts status report f') never = absurd never
