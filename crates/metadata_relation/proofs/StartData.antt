-- The entries with which a run begins are entries of words of static objects, just of those that hold tags.
use Rattle.std.proofs.Common.{◌≡◌, ◌≢◌, ℕ, zero, suc, ◌+◌, ◌*◌, ◌/◌, ◌%◌, ◌^◌, ◌<◌, ◌≤◌, List, [], ◌∷◌, ◌++◌, length}
use Rattle.std.proofs.Common.{refl, sym, subst, arith, get_or}
use Rattle.addr_map.specs.declared.region.Region.TheVariants.{Globals}
use Rattle.addr_map.specs.Places.{MapSizes, objects_begin, function_address, region_end}
use Rattle.obj_memory.specs.declared.value.Tag.{Tag}
use Rattle.obj_memory.specs.declared.value.Tag.TheVariants.{Untagged, OfFunction, OfObject}
use Rattle.obj_memory.specs.Objects.{Objects, object_at}
use Rattle.obj_memory.specs.Heap.{rounded_up}
use Rattle.obj_memory.specs.Sound.{IsSoundTag, IsSoundObject}
use Rattle.tac_ir.specs.declared.function.StaticData.{StaticData}
use Rattle.tac_ir.specs.Meaning.{placed_data}
use Rattle.flat_code.specs.Routines.Registers.{IsNoneOf}
use Rattle.flat_code.specs.Routines.Metadata.{Metadata, View}
use Rattle.flat_code.specs.Routines.Objects.StandsFor.{Views, spell, global_lock}
use Rattle.flat_code.specs.Routines.Objects.Start.{start_keys}
use Rattle.shadow_space.specs.declared.start.StartEntry.{StartEntry}
use Rattle.shadow_space.specs.Start.{metadata_of, words_of, IsStartEntry, AreStartEntries}
use Rattle.flat_actions.specs.Actions.{views_of}
use Rattle.flat_actions.specs.Start.{HasEntry, AreEntriesOf, no_entry}
use Rattle.metadata_relation.specs.StartData.{entry_of_tag, entries_of_tags, entries_of_statics, statics_end}

-- ---- words in ascending order

-- the words of entries ascend from an address on, and end at another
abbrev Ascend : (from end : ℕ) → List StartEntry → Type 0
Ascend a z [] = a ≤ z
Ascend a z (e ∷ es) = (a ≤ e.at) × Ascend (e.at + 8) z es

ascend_to : (a z : ℕ) (es : List StartEntry) → Ascend a z es → a ≤ z
ascend_to a z [] h = h
ascend_to a z (e ∷ es) h =
    let rest = ascend_to (e.at + 8) z es h.1 in
    let first = h.0 in
    omega (arith, rest, first)

ascend_from : (a b z : ℕ) (es : List StartEntry) → a ≤ b → Ascend b z es → Ascend a z es
ascend_from a b z [] low h = omega (arith, low, h)
ascend_from a b z (e ∷ es) low h = let first = h.0 in (omega (arith, low, first), h.1)

ascend_append : (a b z : ℕ) (es fs : List StartEntry) → Ascend a b es → Ascend b z fs → Ascend a z (es ++ fs)
ascend_append a b z [] fs h k = ascend_from a b z fs h k
ascend_append a b z (e ∷ es) fs h k = (h.0, ascend_append (e.at + 8) b z es fs h.1 k)

none_below : (a z x : ℕ) (es : List StartEntry) → Ascend a z es → x < a → IsNoneOf x (words_of es)
none_below a z x [] h low = tt
none_below a z x (e ∷ es) h low =
    let first = h.0 in (
      (λ same. let p : x < x = omega (arith, first, low, same) in omega (arith, p)),
      none_below (e.at + 8) z x es h.1 (omega (arith, first, low)),
    )

none_behind : (a z x : ℕ) (es : List StartEntry) → Ascend a z es → z ≤ x → IsNoneOf x (words_of es)
none_behind a z x [] h past = tt
none_behind a z x (e ∷ es) h past =
    let rest = ascend_to (e.at + 8) z es h.1 in (
      (λ same. let p : x < x = omega (arith, rest, past, same) in omega (arith, p)),
      none_behind (e.at + 8) z x es h.1 past,
    )

none_append : (x : ℕ) (es fs : List StartEntry) → IsNoneOf x (words_of es) → IsNoneOf x (words_of fs)
    → IsNoneOf x (words_of (es ++ fs))
none_append x [] fs h k = k
none_append x (e ∷ es) fs h k = (h.0, none_append x es fs h.1 k)

-- ---- entries of words

abbrev AreEach : MapSizes → List StartEntry → Type 0
AreEach map [] = Unit {0}
AreEach map (e ∷ es) = IsStartEntry map e × AreEach map es

each_append : (map : MapSizes) (es fs : List StartEntry) → AreEach map es → AreEach map fs → AreEach map (es ++ fs)
each_append map [] fs h k = k
each_append map (e ∷ es) fs h k = (h.0, each_append map es fs h.1 k)

each_apart : (map : MapSizes) (a z : ℕ) (es : List StartEntry) → AreEach map es → Ascend a z es → AreStartEntries map es
each_apart map a z [] h k = tt
each_apart map a z (e ∷ es) h k =
    (h.0, none_below (e.at + 8) z e.at es k.1 (omega arith), each_apart map (e.at + 8) z es h.1 k.1)

has_more : (e : StartEntry) (es : List StartEntry) (a : ℕ) (m : Metadata) → HasEntry es a m → HasEntry (e ∷ es) a m
has_more e es a m h =
    let low = h.below in
    record { index = suc h.index; below = omega (arith, low); word = h.word; is = h.is }

has_behind : (es fs : List StartEntry) (a : ℕ) (m : Metadata) → HasEntry fs a m → HasEntry (es ++ fs) a m
has_behind [] fs a m h = h
has_behind (e ∷ es) fs a m h = has_more e (es ++ fs) a m (has_behind es fs a m h)

has_before : (es fs : List StartEntry) (a : ℕ) (m : Metadata) → HasEntry es a m → HasEntry (es ++ fs) a m
has_before es fs a m h = at es h.index h.below h.word h.is
  where
    at : (es : List StartEntry) (i : ℕ) → i < length es → (get_or es i no_entry).at ≡ a
        → metadata_of (get_or es i no_entry) ≡ m → HasEntry (es ++ fs) a m
    at [] i low word is = absurd (omega (arith, low))
    at (e ∷ es) zero low word is = record { index = 0; below = omega arith; word = word; is = is }
    at (e ∷ es) (suc i) low word is = has_more e (es ++ fs) a m (at es i (omega (arith, low)) word is)

-- objects begin behind those before them
pub behind_offset : (first : ℕ) (ds : List StaticData) (offset n : ℕ) → n < length (placed_data first ds offset)
    → first + offset ≤ (object_at (placed_data first ds offset) n).address
behind_offset first [] offset n low = absurd (omega (arith, low))
behind_offset first (d ∷ ds) offset zero low = omega arith
behind_offset first (d ∷ ds) offset (suc n) low =
    let rest = behind_offset first ds (rounded_up 16 offset + d.size) n (omega (arith, low)) in
    omega (arith, rest)

module _ (map : MapSizes) (functions : ℕ) (types : ℕ → ℕ) (entry : View) where
  abbrev lock : ℕ
  lock = global_lock map

  abbrev views : Views
  views = views_of map functions types entry

  -- ---- the words of one object

  ascend_tags : (a z : ℕ) (ts : List Tag) → a + 8 * length ts ≤ z → Ascend a z (entries_of_tags types lock a ts)
  ascend_tags a z [] low = omega (arith, low)
  ascend_tags a z (Untagged ∷ ts) low =
      ascend_from a (a + 8) z (entries_of_tags types lock (a + 8) ts) (omega arith)
      (ascend_tags (a + 8) z ts (omega (arith, low)))
  ascend_tags a z (OfFunction f ∷ ts) low = (omega arith, ascend_tags (a + 8) z ts (omega (arith, low)))
  ascend_tags a z (OfObject o b ∷ ts) low = (omega arith, ascend_tags (a + 8) z ts (omega (arith, low)))

  has_tag : (a : ℕ) (ts : List Tag) (w x : ℕ) → x ≡ a + 8 * w → get_or ts w Untagged ≢ Untagged
      → HasEntry (entries_of_tags types lock a ts) x (spell views (start_keys views) (get_or ts w Untagged))
  has_tag a [] w x e tagged = absurd (tagged refl)
  has_tag a (Untagged ∷ ts) zero x e tagged = absurd (tagged refl)
  has_tag a (OfFunction f ∷ ts) zero x e tagged =
      record { index = 0; below = omega arith; word = omega (arith, e); is = refl }
  has_tag a (OfObject o b ∷ ts) zero x e tagged =
      record { index = 0; below = omega arith; word = omega (arith, e); is = refl }
  has_tag a (t ∷ ts) (suc w) x e tagged =
      has_behind (entry_of_tag types lock a t) (entries_of_tags types lock (a + 8) ts) x _
      (has_tag (a + 8) ts w x (omega (arith, e)) tagged)

  none_of_tag : (a : ℕ) (t : Tag) (x : ℕ) → x ≢ a → IsNoneOf x (words_of (entry_of_tag types lock a t))
  none_of_tag a Untagged x other = tt
  none_of_tag a (OfFunction f) x other = (other, tt)
  none_of_tag a (OfObject o b) x other = (other, tt)

  has_no_tag : (a : ℕ) (ts : List Tag) (w x : ℕ) → x ≡ a + 8 * w → get_or ts w Untagged ≡ Untagged
      → IsNoneOf x (words_of (entries_of_tags types lock a ts))
  has_no_tag a [] w x e none = tt
  has_no_tag a (t ∷ ts) zero x e none =
      none_append x (entry_of_tag types lock a t) (entries_of_tags types lock (a + 8) ts)
      (subst (λ z. IsNoneOf x (words_of (entry_of_tag types lock a z))) (sym none) tt)
      (none_below (a + 8) (a + 8 + 8 * length ts) x (entries_of_tags types lock (a + 8) ts)
      (ascend_tags (a + 8) (a + 8 + 8 * length ts) ts (omega arith)) (omega (arith, e)))
  has_no_tag a (t ∷ ts) (suc w) x e none =
      none_append x (entry_of_tag types lock a t) (entries_of_tags types lock (a + 8) ts)
      (none_of_tag a t x (λ same. let p : x < x = omega (arith, e, same) in omega (arith, p)))
      (has_no_tag (a + 8) ts w x (omega (arith, e)) none)

  -- ---- all objects

  module _ (types_small : (f : ℕ) → types f < 2 ^ 63) (few : functions ≤ 2 ^ 32) (lock_word : lock < 2 ^ 64)
      (all : Objects) where
    each_tag : (a : ℕ) (ts : List Tag) → ((k : ℕ) → IsSoundTag functions all (get_or ts k Untagged))
        → objects_begin ≤ a → a % 8 ≡ 0 → a + 8 * length ts ≤ region_end map Globals
        → AreEach map (entries_of_tags types lock a ts)
    unfolding function_address
    each_tag a [] sound first aligned last = tt
    each_tag a (Untagged ∷ ts) sound first aligned last =
        each_tag (a + 8) ts (λ k. sound (suc k)) (omega (arith, first)) (omega (arith, aligned)) (omega (arith, last))
    each_tag a (OfFunction f ∷ ts) sound first aligned last =
        let there : f < functions = sound 0 in
        let small = types_small f in (
          record {
            word = record { first = first; last = omega (arith, last); aligned = aligned };
            base = omega (arith, there, few);
            bound = omega (arith, there, few);
            key = omega (arith, small);
            lock = omega arith;
          },
          each_tag (a + 8) ts (λ k. sound (suc k)) (omega (arith, first)) (omega (arith, aligned)) (omega (arith, last)),
        )
    each_tag a (OfObject o b ∷ ts) sound first aligned last =
        let of = sound 0 in (
          record {
            word = record { first = first; last = omega (arith, last); aligned = aligned };
            base = of.base_word;
            bound = of.bound_word;
            key = omega arith;
            lock = lock_word;
          },
          each_tag (a + 8) ts (λ k. sound (suc k)) (omega (arith, first)) (omega (arith, aligned)) (omega (arith, last)),
        )

    abbrev AreSoundFrom : List StaticData → (offset : ℕ) → Type 0
    AreSoundFrom ds offset = (n : ℕ) → IsSoundObject functions all (object_at (placed_data objects_begin ds offset) n)

    ends_behind : (ds : List StaticData) (offset : ℕ) → offset ≤ statics_end ds offset
    ends_behind [] offset = omega arith
    ends_behind (d ∷ ds) offset = let rest = ends_behind ds (rounded_up 16 offset + d.size) in omega (arith, rest)

    ascend_statics : (ds : List StaticData) (offset : ℕ) → AreSoundFrom ds offset
        → Ascend (objects_begin + offset) (objects_begin + statics_end ds offset)
        (entries_of_statics types lock objects_begin ds offset)
    ascend_statics [] offset sound = omega arith
    ascend_statics (d ∷ ds) offset sound =
        let a = objects_begin + rounded_up 16 offset in
        let next = rounded_up 16 offset + d.size in
        let tags = (sound 0).tags in
        ascend_append (objects_begin + offset) (objects_begin + next) (objects_begin + statics_end ds next)
        (entries_of_tags types lock a d.tags) (entries_of_statics types lock objects_begin ds next)
        (ascend_from (objects_begin + offset) a (objects_begin + next) (entries_of_tags types lock a d.tags)
        (omega arith) (ascend_tags a (objects_begin + next) d.tags (omega (arith, tags))))
        (ascend_statics ds next (λ n. sound (suc n)))

    each_static : (ds : List StaticData) (offset : ℕ) → AreSoundFrom ds offset
        → objects_begin + statics_end ds offset ≤ region_end map Globals
        → AreEach map (entries_of_statics types lock objects_begin ds offset)
    each_static [] offset sound last = tt
    each_static (d ∷ ds) offset sound last =
        let a = objects_begin + rounded_up 16 offset in
        let next = rounded_up 16 offset + d.size in
        let tags = (sound 0).tags in
        let aligned = (sound 0).aligned in
        let end = ends_behind ds next in
        each_append map (entries_of_tags types lock a d.tags) (entries_of_statics types lock objects_begin ds next)
        (each_tag a d.tags (sound 0).tag (omega arith) (omega (arith, aligned)) (omega (arith, tags, end, last)))
        (each_static ds next (λ n. sound (suc n)) last)

    pub are_start_entries : (ds : List StaticData) → AreSoundFrom ds 0
        → objects_begin + statics_end ds 0 ≤ region_end map Globals
        → AreStartEntries map (entries_of_statics types lock objects_begin ds 0)
    are_start_entries ds sound last =
        each_apart map _ _ _ (each_static ds 0 sound last) (ascend_statics ds 0 sound)

    tagged_at : (ds : List StaticData) (offset n w : ℕ) → n < length (placed_data objects_begin ds offset)
        → get_or (object_at (placed_data objects_begin ds offset) n).tags w Untagged ≢ Untagged
        → HasEntry (entries_of_statics types lock objects_begin ds offset)
        ((object_at (placed_data objects_begin ds offset) n).address + 8 * w)
        (spell views (start_keys views) (get_or (object_at (placed_data objects_begin ds offset) n).tags w Untagged))
    tagged_at [] offset n w low tagged = absurd (omega (arith, low))
    tagged_at (d ∷ ds) offset zero w low tagged =
        has_before (entries_of_tags types lock (objects_begin + rounded_up 16 offset) d.tags) _ _ _
        (has_tag (objects_begin + rounded_up 16 offset) d.tags w _ refl tagged)
    tagged_at (d ∷ ds) offset (suc n) w low tagged =
        has_behind (entries_of_tags types lock (objects_begin + rounded_up 16 offset) d.tags) _ _ _
        (tagged_at ds (rounded_up 16 offset + d.size) n w (omega (arith, low)) tagged)

    untagged_at : (ds : List StaticData) (offset n w : ℕ) → AreSoundFrom ds offset
        → n < length (placed_data objects_begin ds offset)
        → w < (object_at (placed_data objects_begin ds offset) n).size / 8
        → get_or (object_at (placed_data objects_begin ds offset) n).tags w Untagged ≡ Untagged
        → IsNoneOf ((object_at (placed_data objects_begin ds offset) n).address + 8 * w)
        (words_of (entries_of_statics types lock objects_begin ds offset))
    untagged_at [] offset n w sound low inside none = absurd (omega (arith, low))
    untagged_at (d ∷ ds) offset zero w sound low inside none =
        let a = objects_begin + rounded_up 16 offset in
        let next = rounded_up 16 offset + d.size in
        none_append (a + 8 * w) (entries_of_tags types lock a d.tags) (entries_of_statics types lock objects_begin ds next)
        (has_no_tag a d.tags w (a + 8 * w) refl none)
        (none_below (objects_begin + next) (objects_begin + statics_end ds next) (a + 8 * w)
        (entries_of_statics types lock objects_begin ds next) (ascend_statics ds next (λ n. sound (suc n)))
        (omega (arith, inside)))
    untagged_at (d ∷ ds) offset (suc n) w sound low inside none =
        let a = objects_begin + rounded_up 16 offset in
        let next = rounded_up 16 offset + d.size in
        let tags = (sound 0).tags in
        let at = behind_offset objects_begin ds next n (omega (arith, low)) in
        none_append _ (entries_of_tags types lock a d.tags) (entries_of_statics types lock objects_begin ds next)
        (none_behind a (objects_begin + next) _ (entries_of_tags types lock a d.tags)
        (ascend_tags a (objects_begin + next) d.tags (omega (arith, tags))) (omega (arith, at)))
        (untagged_at ds next n w (λ n. sound (suc n)) (omega (arith, low)) inside none)

    pub are_entries_of : (ds : List StaticData) → AreSoundFrom ds 0
        → AreEntriesOf views (placed_data objects_begin ds 0) (entries_of_statics types lock objects_begin ds 0)
    are_entries_of ds sound = record {
      tagged = λ n w low inside tagged. tagged_at ds 0 n w low tagged;
      untagged = λ n w low inside none. untagged_at ds 0 n w sound low inside none;
    }
