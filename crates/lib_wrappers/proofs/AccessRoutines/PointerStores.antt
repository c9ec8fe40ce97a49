-- A pointer stored in flat code is the one that the source writes.
use Rattle.std.proofs.Common.{◌≡◌, ◌≢◌, ℕ, ◌+◌, ◌*◌, ◌/◌, ◌%◌, ◌^◌, ◌<◌, ◌≤◌, inl, inr, ⊎_elim, List, [], ◌∷◌, ◌++◌}
use Rattle.std.proofs.Common.{true, false, length, get_or, set, refl, sym, ap, ◌∙◌, subst, arith, if◌then◌else◌}
use Rattle.std.proofs.lemmas.Bool.{cases_eq, eq-eqb, ne_eqb, eqb-true, eqb-false}
use Rattle.std.proofs.lemmas.List.{get_or-set_same, get_or-set_other}
use Rattle.byteorder.specs.Endian.{little_bytes}
use Rattle.byteorder.specs.Numbers.{length-bytes_low_first}
use Rattle.behaviours.specs.Shown.{Access, Write}
use Rattle.addr_map.specs.Places.{MapSizes, AreMapped, spaces_begin}
use Rattle.rv_isa.specs.declared.instruction.BranchOp.TheVariants.{Bne}
use Rattle.rv_isa.specs.declared.instruction.RegOp.TheVariants.{Sll}
use Rattle.rv_isa.specs.declared.instruction.StoreOp.TheVariants.{Sd}
use Rattle.rv_isa.specs.Results.{reg_result}
use Rattle.obj_memory.specs.declared.value.Tag.{Tag}
use Rattle.obj_memory.specs.declared.value.Tag.TheVariants.{Untagged}
use Rattle.obj_memory.specs.declared.value.Value.{Value}
use Rattle.obj_memory.specs.declared.value.Scalar.TheVariants.{Pointer as OfPointer}
use Rattle.obj_memory.specs.declared.value.Place.{Place}
use Rattle.obj_memory.specs.Objects.{ObjectState, Objects, object_at}
use Rattle.obj_memory.specs.Judgement.{place_in}
use Rattle.obj_memory.specs.Access.{write_bytes, write_tag, write_value}
use Rattle.obj_memory.specs.Sound.{IsSoundTag, IsAllowed, IsPlace, KeepsObjects}
use Rattle.obj_memory.proofs.Bytes.{little_bytes_below}
use Rattle.obj_memory.proofs.Continuing.{continues_bytes}
use Rattle.obj_memory.proofs.Soundness.{sound_tag_continues, sound_tag}
use Rattle.obj_memory.proofs.Keeping.{keeps_bytes, keeps_tag, keeps_then}
use Rattle.obj_memory.proofs.Reading.{object_set, object_set_other}
use Rattle.source_meaning.specs.State.{State as Source, ◌>>◌, done}
use Rattle.source_meaning.specs.Actions.{integer, store as source_store}
use Rattle.source_meaning.specs.Keeping.{IsDirect}
use Rattle.source_meaning.proofs.Holding.{direct_allowed}
use Rattle.flat_code.specs.declared.instruction.RightOperand.TheVariants.{Number}
use Rattle.flat_code.specs.declared.instruction.FlatInstruction.{FlatInstruction}
use Rattle.flat_code.specs.declared.instruction.FlatInstruction.TheVariants.{Operate, Store}
use Rattle.flat_code.specs.Memory.{Bytes, store}
use Rattle.flat_code.specs.Spaces.{is_of_objects, is_allowed}
use Rattle.flat_code.specs.State.{State}
use Rattle.flat_code.specs.Words.{IsOfWords}
use Rattle.flat_code.specs.Meaning.{Context, Goes}
use Rattle.flat_code.proofs.Stored.{put_same, put_other, store_beside}
use Rattle.flat_code.specs.declared.registers.Held.{Held}
use Rattle.flat_code.specs.Routines.Registers.{AreBelow, OthersStay}
use Rattle.flat_code.specs.Routines.Routine.{HasAt, Outcome, Continues, Halts, Reaches, Either, Never, unless_code}
use Rattle.flat_code.specs.Routines.Effects.{worked, effects, AreAllowed}
use Rattle.flat_code.specs.Routines.Metadata.{View, metadata_in, entry_registers, held_registers, IsObjectWord}
use Rattle.flat_code.proofs.Routines.Rules.{line_on, unless, weaken}
use Rattle.flat_code.proofs.Routines.Regions.{laid_out, spaces_follow}
use Rattle.flat_code.proofs.Routines.Branches.{if_differ, if_same}
use Rattle.flat_code.proofs.Routines.Words.{IsLocal}
use Rattle.flat_code.specs.Routines.Objects.StandsFor.{Views, Keys, spell, StandsFor}
use Rattle.flat_code.specs.Routines.Objects.Changes.{Changes, IsPut}
use Rattle.flat_code.proofs.Routines.Objects.Changing.{word_of, changed}
use Rattle.flat_code.proofs.Routines.Objects.Moves.{put_stands}
use Rattle.shadow_space.specs.Form.{HasWritten, IsWriteRoutine}
use Rattle.shadow_space.proofs.Entries.{context_of}
use Rattle.flat_actions.specs.Actions.{AreSpacesGood, IsFor, IsHeldBy, Nowhere, Word, Pointer as InPointer, Leaves}
use Rattle.flat_actions.specs.Actions.{program_basis}
use Rattle.flat_actions.specs.Actions.{HasGiven, views_of, work_of}
use Rattle.flat_actions.proofs.Standing.{entry_stays, none_of_none}
use Rattle.lib_wrappers.specs.declared.accesses.held.HeldScalar.TheVariants.{Pointer}
use Rattle.lib_wrappers.specs.AccessRoutines.Accessing.{IsStoreRoutine, store_pointer_code}
use Rattle.lib_wrappers.proofs.AccessRoutines.Places.{of_objects, lies_last, word_there, access_allowed}
use Rattle.lib_wrappers.proofs.AccessRoutines.Shown.{ShowsOne, shows_one_then, one_at_work, is_shown}
use Rattle.lib_wrappers.proofs.AccessRoutines.Integers.{address_is}
use Rattle.lib_wrappers.proofs.AccessRoutines.Pointers.{effects_words, if_aligned, if_misaligned}
use Rattle.lib_wrappers.proofs.AccessRoutines.Kept.{KeepsTablesBytes, store_keeps_tables, store_is_put}
use Rattle.lib_wrappers.proofs.AccessRoutines.Kept.{store_good}
use Rattle.lib_wrappers.proofs.AccessRoutines.Kept.{tables_stay, spaces_stay}
use Rattle.lib_wrappers.proofs.AccessRoutines.IntegerStores.{store_is, given_written, written_elsewhere}

-- ---- the entry of a word

-- what is written at a place that begins no word has no tag
no_tag_written : (t : Tag) (p : Place) (objects : Objects) → p.offset % 8 ≢ 0 → write_tag t p objects ≡ objects
unfolding write_tag
no_tag_written t p objects ne =
    let o = object_at objects p.object in
    ap (λ b. if b then set objects p.object (record o { tags = set o.tags (p.offset / 8) t }) else objects)
    (ne_eqb (p.offset % 8) 0 ne)

module _ (map : MapSizes) (mapped : AreMapped map) (entry : View) (IsGood : Bytes → Type 0) (functions : ℕ)
    (types : ℕ → ℕ) (k : Keys) (objects : Objects) (m m' : Bytes) where
  abbrev g : Views
  g = views_of map functions types entry

  module _ (st : StandsFor g k objects m) (good : AreSpacesGood map IsGood m) (v : Value) (p : Place) (t : Tag)
      (al : IsAllowed objects v 8 p) (sound : IsSoundTag functions objects t) (aligned : v.word % 8 ≡ 0)
      (written : entry m' v.word ≡ spell g k t)
      (others : (a : ℕ) → IsObjectWord map a → a ≢ v.word → entry m' a ≡ entry m a)
      (low : (b : ℕ) → b < spaces_begin → m' b ≡ m b) (keep : KeepsTablesBytes map m m') where
    abbrev o : ObjectState
    o = object_at objects p.object

    abbrev tagged : ObjectState
    tagged = record o { tags = set o.tags (p.offset / 8) t }

    offset_aligned : p.offset % 8 ≡ 0
    offset_aligned = let z = (st.sound.at p.object).aligned in let at = al.address in omega arith

    word_is : o.address + 8 * (p.offset / 8) ≡ v.word
    word_is = let z = offset_aligned in let at = al.address in omega arith

    new_object : object_at (write_tag t p objects) p.object ≡ tagged
    unfolding write_tag
    new_object =
        ap (λ b. object_at (if b then set objects p.object tagged else objects) p.object)
        (eq-eqb (p.offset % 8) 0 offset_aligned)
        ∙ object_set objects p.object tagged al.place.made

    other_objects : (j : ℕ) → j ≢ p.object → object_at (write_tag t p objects) j ≡ object_at objects j
    unfolding write_tag
    other_objects j ne =
        ap (λ b. object_at (if b then set objects p.object tagged else objects) j)
        (eq-eqb (p.offset % 8) 0 offset_aligned)
        ∙ object_set_other objects p.object j tagged ne

    -- the entries of the object
    entries : (w : ℕ) → w < o.size / 8
        → entry m' (o.address + 8 * w) ≡ spell g k (get_or (set o.tags (p.offset / 8) t) w Untagged)
    entries w l = ⊎_elim
        (λ (e : w ≡ p.offset / 8).
        let count = (st.sound.at p.object).tags in
        let at : o.address + 8 * w ≡ v.word = ap (λ z. o.address + 8 * z) e ∙ word_is in
        ap (entry m') at ∙ written
        ∙ ap (spell g k) (sym (ap (λ z. get_or (set o.tags (p.offset / 8) t) z Untagged) e
        ∙ get_or-set_same o.tags (p.offset / 8) t Untagged (omega arith))))
        (λ (ne : w ≢ p.offset / 8).
        let is = word_is in
        others (o.address + 8 * w)
        (word_of map functions objects o w (st.sound.at p.object) (st.placed p.object al.live) l)
        (λ e. ne (omega arith))
        ∙ (st.here p.object al.live).tags w l
        ∙ ap (spell g k) (sym (get_or-set_other o.tags (p.offset / 8) w t Untagged ne)))
        (cases_eq w (p.offset / 8))

    pub tag_stands : StandsFor g k (write_tag t p objects) m'
    tag_stands =
        let small = (laid_out map mapped).small in let last = (st.placed p.object al.live).last in
        let room = al.place.room in let at = al.address in
        let up : Changes g k o tagged m m' = record {
          here = record {
            bytes = λ j l. low (o.address + j) (omega arith) ∙ (st.here p.object al.live).bytes j l;
            tags = entries;
          };
          bytes = λ a l out. low a l;
          entries = λ a w out. others a w
              (λ e. ⊎_elim (λ z. omega (arith, z, e)) (λ z. omega (arith, z, e)) out);
          tables = tables_stay map mapped functions types entry IsGood m m' keep good;
        } in
        changed g k mapped (laid_out map mapped) p.object objects (write_tag t p objects) m m' st al.live
        (keeps_tag t p objects) (sound_tag t p objects st.sound sound) other_objects
        (subst (λ z. Changes g k o z m m') (sym new_object) up)

-- ---- the whole

module _ (map : MapSizes) (mapped : AreMapped map) (entry : View) (IsGood : Bytes → Type 0)
    (is_local : IsLocal map entry IsGood) (address : ℕ) (from : Held) (t : ℕ)
    (below : AreBelow t (address ∷ held_registers from))
    (write : List FlatInstruction) (writes : IsWriteRoutine map entry IsGood address from.tag t write)
    (functions : ℕ) (types : ℕ → ℕ) (k : Keys) (x : Source) (v new : Value) (charge weight line : ℕ) where
  abbrev gx : Views
  gx = views_of map functions types entry

  abbrev c : Context
  c = context_of map false charge weight

  abbrev start_code : List FlatInstruction
  start_code = Store Sd address 0 from.value ∷ Operate Sll t address (Number 61) ∷ []

  module _ (code : List FlatInstruction) (pc : ℕ) (f : State) (w : IsOfWords f)
      (has : HasAt code pc (store_pointer_code address from t write)) (stands : IsFor gx k IsGood x f)
      (held : IsHeldBy gx k x.objects (Word address) v f.values)
      (value : IsHeldBy gx k x.objects (InPointer from) new f.values) (d : IsDirect x.objects v 8) where
    abbrev p : Place
    p = place_in x.objects d.object v.word

    abbrev a : Access
    a = record { address = v.word; size = 8; kind = Write }

    abbrev bytes : List ℕ
    bytes = little_bytes 8 new.word

    -- the objects with the bytes alone
    abbrev half : Objects
    half = write_bytes bytes p x.objects

    abbrev m1 : Bytes
    m1 = store 8 f.memory v.word new.word

    abbrev y : State
    y = effects c start_code f

    abbrev R : Outcome → Type 0
    R = Leaves gx k IsGood Nowhere t x f ((source_store OfPointer false v line new >> done (integer 0)) x)

    allowed : IsAllowed x.objects v 8 p
    allowed = direct_allowed x.objects v 8 d

    in_objects : is_of_objects map v.word 8 ≡ true
    in_objects = of_objects gx k x.objects f.memory (laid_out map mapped) stands.objects v 8 p allowed

    low : v.word + 8 ≤ spaces_begin
    low =
        let l = lies_last gx k x.objects f.memory (laid_out map mapped) stands.objects v 8 p allowed in
        let s = (laid_out map mapped).small in omega arith

    at_is : (f.values address + 0) % 2 ^ 64 ≡ v.word
    at_is = address_is (f.values address) v.word (w.values address) held

    may_start : AreAllowed c start_code f
    may_start = (ap (λ z. is_allowed map z 8) at_is ∙ access_allowed map v.word 8 in_objects, (tt, tt))

    memory_is : y.memory ≡ m1
    memory_is = ap (λ z. store 8 f.memory z (f.values from.value)) at_is ∙ ap (store 8 f.memory v.word) value.0.word

    shifted : y.values t ≡ v.word * 2 ^ 61 % 2 ^ 64
    unfolding reg_result
    shifted = put_same f.values t _ ∙ ap (λ z. z * 2 ^ 61 % 2 ^ 64) held

    stays : OthersStay [] t f y
    stays i l none = put_other f.values t _ i (λ e. omega (arith, e))

    shows : ShowsOne a f y
    shows = record {
      input = refl;
      output = refl;
      taken = refl;
      accesses = is_shown map charge weight v.word _ 8 8 Write f.accesses at_is refl in_objects;
      turns = refl;
    }

    half_stands : StandsFor gx k half m1
    half_stands =
        let long = length-bytes_low_first 0 8 new.word in
        let is_put = store_is_put map 8 f.memory v.word new.word low mapped functions types entry IsGood is_local
        stands.spaces in
        put_stands gx k mapped (laid_out map mapped) x.objects f.memory m1 stands.objects bytes p allowed.live
        (subst (IsPlace x.objects p) (sym long) allowed.place) (little_bytes_below 8 new.word)
        (subst (λ z. IsPut gx bytes z f.memory m1) (sym allowed.address) is_put)

    half_good : AreSpacesGood map IsGood m1
    half_good = store_good map 8 f.memory v.word new.word low mapped functions types entry IsGood is_local stands.spaces

    -- the place is one of the same object still
    half_allowed : IsAllowed half v 8 p
    half_allowed =
        let keeps = keeps_bytes bytes p x.objects in
        let e = keeps.at p.object in let made = allowed.place.made in let room = allowed.place.room in
        let count = keeps.count in let size = e.size in let address = e.address in let at = allowed.address in
        record {
          place = record { made = omega arith; room = omega arith };
          live = e.live
              ∙ allowed.live;
          address = omega arith;
        }

    -- the state at the end, by its memory
    left : (z : State) (objects : Objects) → objects ≡ write_value OfPointer new p x.objects
        → KeepsObjects x.objects objects → StandsFor gx k objects z.memory → AreSpacesGood map IsGood z.memory
        → ((b : ℕ) → b < spaces_begin → z.memory b ≡ m1 b) → KeepsTablesBytes map m1 z.memory → ShowsOne a f z
        → OthersStay [] t f z → R (Continues z)
    left z objects same keeps st good beside behind shown others =
        let keep1 = store_keeps_tables map 8 f.memory v.word new.word low in
        let elsewhere = written_elsewhere map x.objects objects 8 p v f.memory z.memory keeps allowed
        (λ b l out. beside b l ∙ store_beside 8 f.memory v.word new.word b out)
        (λ b l. behind b l ∙ keep1 b l) in
        subst (λ o. Leaves gx k IsGood Nowhere t x f o (Continues z)) (sym (store_is OfPointer v line new x d))
        (subst (λ o. HasGiven gx k IsGood Nowhere t x f (integer 0)
        (record x { accesses = x.accesses ++ a ∷ []; objects = o }) z) same
        (given_written gx k IsGood t x a objects f z (integer 0) stands st good shown elsewhere others))

    -- no entry is written
    without_entry : v.word % 8 ≢ 0 → R (Continues (worked c y))
    unfolding write_value
    without_entry ne =
        let off : p.offset % 8 ≢ 0 = λ e. ne
        (let z = (stands.objects.sound.at p.object).aligned in let at = allowed.address in omega arith) in
        left (worked c y) half (sym (no_tag_written new.tag p half off)) (keeps_bytes bytes p x.objects)
        (subst (StandsFor gx k half) (sym memory_is) half_stands)
        (subst (AreSpacesGood map IsGood) (sym memory_is) half_good)
        (λ b l. ap (λ q. q b) memory_is) (λ b l. ap (λ q. q b) memory_is)
        (one_at_work a f y _ shows)
        stays

    with_entry : v.word % 8 ≡ 0 → (o : Outcome)
        → Either (HasWritten map entry IsGood address from.tag t (worked c y)) Never o → R o
    unfolding write_value
    with_entry e (Halts status report z) never = absurd never
    with_entry e (Continues z) q =
        let at : y.values address ≡ v.word = stays address below.0 tt ∙ held in
        let entry_is : metadata_in y.values from.tag ≡ spell gx k new.tag =
        entry_stays [] t f y from.tag stays below.1.1 (none_of_none (entry_registers from.tag)) ∙ value.0.tag in
        let first = (spaces_follow map).shadow in
        let low' : (b : ℕ) → b < spaces_begin → z.memory b ≡ m1 b =
        λ b l. q.memory b (inl l) ∙ ap (λ m. m b) memory_is in
        let keep : KeepsTablesBytes map m1 z.memory =
        λ b l. q.memory b (inr (omega arith)) ∙ ap (λ m. m b) memory_is in
        let sound = sound_tag_continues functions x.objects half (continues_bytes bytes p x.objects) new.tag value.1 in
        let st = tag_stands map mapped entry IsGood functions types k half m1 z.memory half_stands half_good v p new.tag
        half_allowed sound e
        (ap (entry z.memory) (sym at) ∙ q.written ∙ entry_is)
        (λ b wb ne. q.other_words b wb (λ z. ne (z ∙ at)) ∙ ap (λ m. entry m b) memory_is) low' keep in
        let good = spaces_stay map mapped functions types entry IsGood m1 z.memory keep half_good q.good in
        left z (write_tag new.tag p half) refl
        (keeps_then _ _ _ (keeps_bytes bytes p x.objects) (keeps_tag new.tag p half)) st good low' keep
        (shows_one_then a f (worked c y) z
        (one_at_work a f y _ shows)
        q.shows)
        (λ i l none. q.others i l tt ∙ stays i l tt)

    stores_pointer : Reaches c code 27 (Goes pc f) (pc + length (store_pointer_code address from t write)) R
    stores_pointer =
        let U = unless_code Bne t (Number 0) write in
        let w1 = effects_words c start_code f may_start w in
        let w2 : IsOfWords (worked c y) = record { values = w1.values; memory = w1.memory } in
        let q : pc + 1 + 1 ≡ pc + 2 = omega arith in
        let rest = subst (λ n. HasAt code n U) q has.1.1 in
        let end : pc + 2 + length U ≡ pc + length (store_pointer_code address from t write) = omega arith in
        subst (λ n. Reaches c code 27 (Goes pc f) n R) end
        (line_on c code start_code 25 pc f (pc + 2 + length U) R may_start (has.0, (has.1.0, tt))
        (unless c code 24 (pc + 2) y Bne t (Number 0) write R rest
        (λ e. without_entry (if_misaligned v.word (y.values t) shifted
        (eqb-false (y.values t) 0 (if_differ (y.values t) 0 e))))
        (λ e.
        let zero : y.values t ≡ 0 = eqb-true (y.values t) 0 (if_same (y.values t) 0 e) in
        let aligned = if_aligned v.word (y.values t) shifted zero in
        let at : y.values address ≡ v.word = stays address below.0 tt ∙ held in
        let there = word_there gx k x.objects f.memory (laid_out map mapped) stands.objects v 8 p allowed (omega arith)
        aligned in
        weaken c code 24 24 (Goes (pc + 2 + 1) (worked c y)) (pc + 2 + 1 + length write) _ R (omega arith)
        (with_entry aligned)
        ((writes false charge weight).from code (pc + 2 + 1) (worked c y) rest.1 w2
        (subst (IsObjectWord map) (sym at) there, subst IsGood (sym memory_is) half_good.shadow)))))

pub store_pointer_does : (map : MapSizes) (entry : View) (IsGood : Bytes → Type 0) (address : ℕ) (from : Held) (t : ℕ)
    (write : List FlatInstruction) → AreMapped map → IsLocal map entry IsGood
    → AreBelow t (address ∷ held_registers from) → IsWriteRoutine map entry IsGood address from.tag t write
    → IsStoreRoutine (program_basis map entry IsGood) address (Pointer from) t
    (store_pointer_code address from t write)
store_pointer_does map entry IsGood address from t write mapped is_local below writes line functions types k x [] charge
    weight =
    record { from = λ code pc f has w p. absurd p.1 }
store_pointer_does map entry IsGood address from t write mapped is_local below writes line functions types k x (v ∷ [])
    charge
    weight = record { from = λ code pc f has w p. absurd p.1.1 }
store_pointer_does map entry IsGood address from t write mapped is_local below writes line functions types k x
    (v ∷ new ∷ [])
    charge weight = record {
      from = λ code pc f has w p.
          weaken _ code 27 (27 + 0 * work_of (source_store OfPointer false v line new >> done (integer 0)) x)
          (Goes pc f)
          (pc + length (store_pointer_code address from t write)) _ _ (omega arith) (λ o q. q)
          (stores_pointer map mapped entry IsGood is_local address from t below write writes functions types k x v new
          charge
          weight
          line code pc f w has p.0 p.1.0 p.1.1.0 p.2);
    }
store_pointer_does map entry IsGood address from t write mapped is_local below writes line functions types k x
    (v ∷ new ∷ v' ∷ vs) charge weight = record { from = λ code pc f has w p. absurd p.1.1.1 }
