-- Contents that are put to a place are what the run of the source puts there.
use Rattle.std.proofs.Common.{◌≡◌, ◌≢◌, ℕ, ◌+◌, ◌-◌, ◌*◌, ◌/◌, ◌%◌, ◌<◌, ◌≤◌, ◌⊎◌, inl, inr, ⊎_elim, List, [], ◌∷◌}
use Rattle.std.proofs.Common.{Bool, true, length, get_or, refl, sym, ap, ◌∙◌, subst, arith}
use Rattle.std.proofs.lemmas.Bool.{cases_eq, cases_lt}
use Rattle.addr_map.specs.Places.{MapSizes, AreMapped}
use Rattle.obj_memory.specs.declared.value.Value.{Value}
use Rattle.obj_memory.specs.declared.value.Place.{Place}
use Rattle.obj_memory.specs.declared.value.Tag.TheVariants.{Untagged}
use Rattle.obj_memory.specs.Objects.{ObjectState, Objects, object_at}
use Rattle.obj_memory.specs.Judgement.{place_in}
use Rattle.obj_memory.specs.Sound.{IsSound, IsSoundObject, IsPlace}
use Rattle.obj_memory.proofs.Continuing.{IsLater}
use Rattle.obj_memory.proofs.Soundness.{sound_set}
use Rattle.obj_memory.proofs.Moving.{tag_not_moved}
use Rattle.source_meaning.specs.State.{State as Source, Gives, on}
use Rattle.source_meaning.specs.Acting.{state_of}
use Rattle.source_meaning.specs.Actions.{integer, place_or_stop}
use Rattle.source_meaning.specs.Structures.{moved_into, put_range, put_contents}
use Rattle.source_meaning.proofs.Holding.{direct_allowed}
use Rattle.source_meaning.proofs.SureStructures.{moved_sound, keeps_put, put_object, put_other, range_is}
use Rattle.flat_code.specs.declared.instruction.FlatInstruction.{FlatInstruction}
use Rattle.flat_code.specs.Memory.{Bytes}
use Rattle.flat_code.specs.State.{State}
use Rattle.flat_code.specs.Meaning.{Goes}
use Rattle.flat_code.specs.declared.registers.Held.{Held}
use Rattle.flat_code.specs.Routines.Routine.{Outcome, Continues, Halts, Either, Never}
use Rattle.flat_code.specs.Routines.Metadata.{View, metadata_at, IsObjectWord}
use Rattle.flat_code.proofs.Routines.Regions.{IsLaidOut, laid_out}
use Rattle.flat_code.proofs.Routines.Rules.{weaken}
use Rattle.flat_code.specs.Routines.Objects.StandsFor.{Views, Keys, spell, StandsFor}
use Rattle.flat_code.specs.Routines.Objects.Changes.{Changes, IsKeptWord}
use Rattle.flat_code.proofs.Routines.Objects.Changing.{word_of, changed}
use Rattle.flat_actions.specs.Actions.{IsFor, HasGiven, Nowhere, Leaves, views_of, work_of}
use Rattle.flat_actions.specs.Ranges.{IsObjectRange}
use Rattle.flat_actions.proofs.Standing.{shown_still, keeps_same}
use Rattle.lib_wrappers.proofs.MovingRoutines.Bytes.{in_runtime}
use Rattle.lib_wrappers.proofs.MovingRoutines.Moves.{allowed_range}
use Rattle.lib_wrappers.specs.AreaRoutines.Areas.{IsArea, entries_begin}
use Rattle.lib_wrappers.specs.AreaRoutines.Putting.{IsPutIn, HasPutRange, IsPutRangeRoutine}
use Rattle.lib_wrappers.specs.AreaRoutines.Values.{IsToPutPlace, IsPutRoutine, putting}
use Rattle.lib_wrappers.proofs.AreaRoutines.Contents.{byte_moved, byte_beside, tag_moved}

-- ---- the objects

-- a word of which not all was moved keeps its tag
tag_beside : (size start source : ℕ) (from to : ObjectState) (w : ℕ)
    → (start % 8 ≢ source % 8) ⊎ ((8 * w < start) ⊎ (start + size < 8 * w + 8))
    → get_or (moved_into size start source from to).tags w Untagged ≡ get_or to.tags w Untagged
tag_beside size start source from to w out =
    let os = to ∷ from ∷ [] in
    let d : Place = record { object = 0; offset = start } in
    let s : Place = record { object = 1; offset = source } in
    sym (ap (λ (o : ObjectState). get_or o.tags w Untagged)
    (ap (λ l. object_at l 0) (range_is size d s os) ∙ put_object size d source from os (omega arith)))
    ∙ tag_not_moved size d s w os (omega arith) out

later_moved : (size start source : ℕ) (from to : ObjectState) → IsLater to (moved_into size start source from to)
unfolding moved_into
later_moved size start source from to = record { storage = refl; address = refl; size = refl; dead = λ x. x }

put_sound : (functions : ℕ) (size : ℕ) (d : Place) (source : ℕ) (c : ObjectState) (objects : Objects)
    → IsSound functions objects → IsPlace objects d size → IsSoundObject functions objects c → source + size ≤ c.size
    → IsSound functions (put_range size d source c objects)
unfolding put_range
put_sound functions size d source c objects h p k room =
    sound_set objects d.object _ h (later_moved size d.offset source c (object_at objects d.object))
    (moved_sound functions size d.offset source c (object_at objects d.object) objects k (h.at d.object) p.room room)

module _ (g : Views) (k : Keys) (mapped : AreMapped g.sizes) (ok : IsLaidOut g.sizes) (old : Objects) (m m' : Bytes)
    (st : StandsFor g k old m) (size : ℕ) (d : Place) (source a : ℕ) (c : ObjectState)
    (live : (object_at old d.object).is_live ≡ true) (to : IsPlace old d size)
    (sound : IsSoundObject g.functions old c) (room : source + size ≤ c.size) (aligned : a % 8 ≡ 0)
    (area : IsArea g k c a m)
    (moved : IsPutIn g size ((object_at old d.object).address + d.offset) c.size source a m m') where
  abbrev o : ObjectState
  o = object_at old d.object

  abbrev new : ObjectState
  new = moved_into size d.offset source c o

  bytes : (j : ℕ) → j < o.size → m' (o.address + j) ≡ get_or new.bytes j 0
  bytes j l =
      let all : length o.bytes ≡ o.size = (st.sound.at d.object).bytes in
      let from : length c.bytes ≡ c.size = sound.bytes in
      let fits = to.room in
      let placed = (st.placed d.object live).last in let small = ok.small in
      let beside : (j < d.offset) ⊎ (d.offset + size ≤ j) → m' (o.address + j) ≡ get_or new.bytes j 0 =
      λ out. moved.beside (o.address + j) (omega arith)
      (⊎_elim (λ z. inl (omega arith)) (λ z. inr (omega arith)) out)
      ∙ (st.here d.object live).bytes j l ∙ sym (byte_beside size d.offset source c o (omega arith) (omega arith) j out)
      in
      ⊎_elim
      (λ (lo : j < d.offset). beside (inl lo))
      (λ (ge : d.offset ≤ j). ⊎_elim
      (λ (lt : j < d.offset + size). (let i = j - d.offset in
      let e : o.address + d.offset + i ≡ o.address + j = omega arith in
      let p : a + source + i ≡ a + (source + i) = omega arith in
      let q : d.offset + i ≡ j = omega arith in
      ap m' (sym e) ∙ moved.there i (omega arith) ∙ ap m p ∙ area.bytes (source + i) (omega arith)
      ∙ sym (byte_moved size d.offset source c o (omega arith) (omega arith) i (omega arith))
      ∙ ap (λ z. get_or new.bytes z 0) q))
      (λ (hi : d.offset + size ≤ j). beside (inr hi))
      (cases_lt j (d.offset + size)))
      (cases_lt j d.offset)

  tags : (w : ℕ) → w < o.size / 8 → g.entry m' (o.address + 8 * w) ≡ spell g k (get_or new.tags w Untagged)
  tags w l = by (cases_eq (d.offset % 8) (source % 8)) (cases_lt (8 * w) d.offset)
      (cases_lt (d.offset + size) (8 * w + 8))
    where
      word : IsObjectWord g.sizes (o.address + 8 * w)
      word = word_of g.sizes g.functions old o w (st.sound.at d.object) (st.placed d.object live) l

      kept : IsKeptWord size (o.address + d.offset) (a + source) (o.address + 8 * w)
          → (d.offset % 8 ≢ source % 8) ⊎ ((8 * w < d.offset) ⊎ (d.offset + size < 8 * w + 8))
          → g.entry m' (o.address + 8 * w) ≡ spell g k (get_or new.tags w Untagged)
      kept out out' = moved.others (o.address + 8 * w) word out ∙ (st.here d.object live).tags w l
          ∙ ap (spell g k) (sym (tag_beside size d.offset source c o w out'))

      by : (d.offset % 8 ≡ source % 8) ⊎ (d.offset % 8 ≢ source % 8) → (8 * w < d.offset) ⊎ (d.offset ≤ 8 * w)
          → (d.offset + size < 8 * w + 8) ⊎ (8 * w + 8 ≤ d.offset + size)
          → g.entry m' (o.address + 8 * w) ≡ spell g k (get_or new.tags w Untagged)
      by (inr ne) b e =
          let z = (st.sound.at d.object).aligned in
          kept (inl (λ q. ne (omega arith))) (inl ne)
      by (inl same) (inl b) e = kept (inr (inl (omega arith))) (inr (inl b))
      by (inl same) (inr b) (inl e) = kept (inr (inr (omega arith))) (inr (inr e))
      by (inl same) (inr b) (inr e) =
          let z = (st.sound.at d.object).aligned in
          let count : length o.tags ≡ o.size / 8 = (st.sound.at d.object).tags in
          let j = (8 * w - d.offset + source) / 8 in
          let place : entries_begin a c.size + 4 * (o.address + 8 * w - (o.address + d.offset) + source)
          ≡ entries_begin a c.size + 32 * j = omega arith in
          moved.entries (o.address + 8 * w) word (omega arith, omega arith, omega arith)
          ∙ ap (metadata_at m) place ∙ area.entries j (omega arith)
          ∙ ap (spell g k) (sym (tag_moved size d.offset source c o same w (omega arith) b e))

  put_changes : Changes g k o (object_at (put_range size d source c old) d.object) m m'
  put_changes =
      let fits = to.room in
      let later = later_moved size d.offset source c o in
      let up : Changes g k o new m m' = record {
        here = record {
          bytes = λ j l. ap (λ z. m' (z + j)) later.address ∙ bytes j (subst (λ z. j < z) later.size l);
          tags = λ w l. ap (λ z. g.entry m' (z + 8 * w)) later.address ∙ tags w (subst (λ z. w < z / 8) later.size l);
        };
        bytes = λ b l out. moved.beside b l (⊎_elim (λ z. inl (omega arith)) (λ z. inr (omega arith)) out);
        entries = λ b w out.
            moved.others b w (⊎_elim (λ z. inr (inl (omega arith))) (λ z. inr (inr (omega arith))) out);
        tables = moved.tables;
      } in
      subst (λ z. Changes g k o z m m') (sym (put_object size d source c old to.made)) up

  pub put_stands : StandsFor g k (put_range size d source c old) m'
  put_stands = changed g k mapped ok d.object old (put_range size d source c old) m m' st live
      (keeps_put size d source c old) (put_sound g.functions size d source c old st.sound to sound room)
      (λ j ne. put_other size d source j c old ne) put_changes

-- ---- the action

module _ (map : MapSizes) (mapped : AreMapped map) (entry : View) (IsGood : Bytes → Type 0) (functions : ℕ)
    (types : ℕ → ℕ) (k : Keys) (x : Source) (is_judged : Bool) (p : Value) (c : ObjectState) (v : Value)
    (size line a to : ℕ) (h : Held) (bytes t : ℕ) where
  abbrev g : Views
  g = views_of map functions types entry

  abbrev IsReady : State → Type 0
  IsReady f = IsFor g k IsGood x f × IsToPutPlace g k x is_judged p c v.word size a to h bytes f

  abbrev place : (f : State) → IsReady f → Place
  place f r = place_in x.objects r.1.direct.object p.word

  abbrev after : (f : State) → IsReady f → Source
  after f r = record x { work = x.work + size; objects = put_range size (place f r) v.word c x.objects }

  putting_is : (f : State) (r : IsReady f) → putting c size is_judged p line v x ≡ Gives (integer 0) (after f r)
  putting_is f r =
      ap (λ w. on (on (place_or_stop w line x) (λ d. put_contents size d v.word c)) (λ u y. Gives (integer 0) y))
      r.1.inside

  given : (f f' : State) (r : IsReady f) → HasPutRange map entry IsGood to size c.size v.word a t f f'
      → HasGiven g k IsGood Nowhere t x f (integer 0) (after f r) f'
  given f f' r q =
      let d = place f r in
      let allowed = direct_allowed x.objects p size r.1.direct in
      let at : f.values to ≡ (object_at x.objects d.object).address + d.offset = r.1.word ∙ sym allowed.address in
      let moved = subst (λ i. IsPutIn g size i c.size v.word a f.memory f'.memory) at (q.put functions types) in
      let shown = shown_still x f f' q.shows r.0.shown in
      let keeps = keeps_put size d v.word c x.objects in
      record {
        keys = k;
        held = keeps_same x.objects k;
        stands = record {
          objects = put_stands g k mapped (laid_out map mapped) x.objects f.memory f'.memory r.0.objects size d v.word a
              c allowed.live allowed.place r.1.sound r.1.room r.1.place.aligned r.1.area moved;
          spaces = q.good;
          keys = r.0.keys;
          shown = record {
            input = shown.input;
            output = shown.output;
            taken = shown.taken;
            accesses = shown.accesses;
          };
        };
        given = tt;
        turns = q.shows.turns;
        elsewhere = record {
          low = λ b l out.
              (let same = keeps.at d.object in
              let address = same.address in let bytes = same.size in
              let room = allowed.place.room in let start = allowed.address in let to_is = r.1.word in
              (q.put functions types).beside b l (⊎_elim (λ lo. inl (omega arith)) (λ hi. inr (omega arith))
              (out d.object (same.live ∙ allowed.live))));
          behind = q.behind;
        };
        others = q.others;
      }

pub puts_structures : (map : MapSizes) → AreMapped map → (entry : View) (IsGood : Bytes → Type 0) (to : ℕ) (h : Held)
    (bytes t : ℕ) (r : List FlatInstruction) → IsPutRangeRoutine map entry IsGood to h bytes t r
    → IsPutRoutine map entry IsGood to h bytes t r
puts_structures map mapped entry IsGood to h bytes t r puts functions types k x is_judged p c v size line a charge
    weight = record {
      from = λ code pc f has w q.
          (let g = views_of map functions types entry in
          let is = putting_is map mapped entry IsGood functions types k x is_judged p c v size line a to h bytes t f q in
          let work : work_of (putting c size is_judged p line v) x ≡ size =
          ap (λ o. (state_of o).work - x.work) is ∙ omega arith in
          let d = q.1.direct in
          weaken (in_runtime map charge weight) code (40 + 16 * size)
          (40 + 16 * work_of (putting c size is_judged p line v) x) (Goes pc f) (pc + length r)
          (Either (HasPutRange map entry IsGood to size c.size v.word a t f) Never)
          (Leaves g k IsGood Nowhere t x f (putting c size is_judged p line v x)) (omega arith) (by f q)
          ((puts size c.size v.word a charge weight).from code pc f has w (
            record {
              size_is = q.1.size_is;
              range = subst (λ i. IsObjectRange map i size) (sym q.1.word)
                  (allowed_range g k x.objects f.memory p size (place_in x.objects d.object p.word) q.0.objects
                  (direct_allowed x.objects p size d));
              part = q.1.part;
              room = q.1.room;
              place = q.1.place;
            },
            q.0.spaces,
          )));
    }
  where
    by : (f : State)
        → (q : IsReady map mapped entry IsGood functions types k x is_judged p c v size line a to h bytes t f)
        → (y : Outcome) → Either (HasPutRange map entry IsGood to size c.size v.word a t f) Never y
        → Leaves (views_of map functions types entry) k IsGood Nowhere t x f (putting c size is_judged p line v x) y
    by f q (Continues f') m =
        subst (λ o. Leaves (views_of map functions types entry) k IsGood Nowhere t x f o (Continues f'))
        (sym (putting_is map mapped entry IsGood functions types k x is_judged p c v size line a to h bytes t f q))
        (given map mapped entry IsGood functions types k x is_judged p c v size line a to h bytes t f f' q m)
    by f q (Halts status report f') never = absurd never
