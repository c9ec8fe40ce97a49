-- Objects that are kept stand for all objects: what is judged, read and written among them is the same.
use Rattle.std.proofs.Common.{◌≡◌, ℕ, zero, suc, ◌+◌, ◌-◌, ◌/◌, Bool, true, false, not, ◌&&◌, ◌||◌}
use Rattle.std.proofs.Common.{nat_le, if◌then◌else◌, List, [], ◌∷◌, take, drop}
use Rattle.std.proofs.Common.{set, length, refl, sym, ap, ◌∙◌, Some, None}
use Rattle.byteorder.specs.Endian.{little_bytes}
use Rattle.obj_memory.specs.declared.judgement.Verdict.TheVariants.{Outside, Dead, Inside}
use Rattle.obj_memory.specs.declared.object.Storage.{Storage}
use Rattle.obj_memory.specs.declared.value.Place.{Place}
use Rattle.obj_memory.specs.declared.value.Scalar.{Scalar}
use Rattle.obj_memory.specs.declared.value.Scalar.TheVariants.{Integer, Pointer}
use Rattle.obj_memory.specs.declared.value.Tag.{Tag}
use Rattle.obj_memory.specs.declared.value.Tag.TheVariants.{Untagged, OfFunction, OfObject}
use Rattle.obj_memory.specs.declared.value.Value.{Value}
use Rattle.obj_memory.specs.Access.{bytes_at, is_aligned, move_range, read_value, scalar_size, write_bytes}
use Rattle.obj_memory.specs.Access.{write_value}
use Rattle.obj_memory.specs.Heap.{block_count, block_room, is_allocated, is_clear, is_clear_of, is_live_block}
use Rattle.obj_memory.specs.Heap.{least_from, least_place}
use Rattle.obj_memory.specs.Judgement.{are_within, judge, judged, named, named_in, place_in}
use Rattle.obj_memory.specs.Objects.{ObjectState, Objects, new_object, object_at, pointer_to, with_dead}
use Rattle.obj_memory.specs.Objects.{with_new, with_zeroed}
use Rattle.source_meaning.specs.Structures.{contents_of, moved_into, put_range}
use Rattle.interpreter_objects.specs.Kept.{has_range, is_movable, is_puttable, with_cleared, with_moved, with_put}
use Rattle.interpreter_objects.specs.Kept.{zeroed}
use Rattle.interpreter_objects.specs.Kept.{buried, found, has_bytes, is_there, kept, kept_object, read_in, with_buried}
use Rattle.interpreter_objects.specs.Kept.{with_bytes, with_bytes_put, with_written, written_in}
use Rattle.interpreter_objects.proofs.Insides.{both, by_test, range_bytes, there_life}
use Rattle.interpreter_objects.proofs.Placed.{read_is, written_is}

-- one object

-- what holds of a live object, and of a dead one without what it held, holds of the one that is kept
kept_by : (P : ObjectState → Type 0) (o : ObjectState) → (o.is_live ≡ true → P o)
    → (o.is_live ≡ false → P (buried o)) → P (kept_object o)
unfolding kept_object
kept_by P o live dead = by o.is_live refl
  where
    by : (b : Bool) → o.is_live ≡ b → P (if b then o else buried o)
    by true e = live e
    by false e = dead e

-- a field that burying leaves
same_storage : (o : ObjectState) → (kept_object o).storage ≡ o.storage
unfolding buried
same_storage o = kept_by (λ x. x.storage ≡ o.storage) o (λ e. refl) (λ e. refl)

same_address : (o : ObjectState) → (kept_object o).address ≡ o.address
unfolding buried
same_address o = kept_by (λ x. x.address ≡ o.address) o (λ e. refl) (λ e. refl)

same_size : (o : ObjectState) → (kept_object o).size ≡ o.size
unfolding buried
same_size o = kept_by (λ x. x.size ≡ o.size) o (λ e. refl) (λ e. refl)

same_life : (o : ObjectState) → (kept_object o).is_live ≡ o.is_live
unfolding buried
same_life o = kept_by (λ x. x.is_live ≡ o.is_live) o (λ e. refl) (λ e. sym e)

same_bytes : (offset size : ℕ) (o : ObjectState) → has_bytes offset size (kept_object o) ≡ has_bytes offset size o
unfolding has_bytes buried
same_bytes offset size o =
    kept_by (λ x. has_bytes offset size x ≡ has_bytes offset size o) o (λ e. refl)
    (λ e. sym (ap (λ b. b && nat_le (offset + size) (length o.bytes)) e))

-- one that is live is kept as it is
live_kept : (o : ObjectState) → o.is_live ≡ true → kept_object o ≡ o
unfolding kept_object
live_kept o e = ap (λ b. if b then o else buried o) e

there_live : (offset size : ℕ) (o : ObjectState) → has_bytes offset size o ≡ true → kept_object o ≡ o
there_live offset size o h = live_kept o (there_life offset size o h)

-- all objects

kept_at : (objects : Objects) (n : ℕ) → object_at (kept objects) n ≡ kept_object (object_at objects n)
unfolding kept kept_object buried
kept_at [] n = refl
kept_at (o ∷ os) zero = refl
kept_at (o ∷ os) (suc n) = kept_at os n

kept_set : (objects : Objects) (n : ℕ) (x : ObjectState) → kept (set objects n x) ≡ set (kept objects) n (kept_object x)
unfolding kept
kept_set [] n x = refl
kept_set (o ∷ os) zero x = refl
kept_set (o ∷ os) (suc n) x = ap (λ ys. kept_object o ∷ ys) (kept_set os n x)

pub kept_new : (storage : Storage) (address size : ℕ) (objects : Objects)
    → kept (with_new storage address size objects) ≡ with_new storage address size (kept objects)
unfolding kept with_new kept_object new_object
kept_new storage address size [] = refl
kept_new storage address size (o ∷ os) = ap (λ ys. kept_object o ∷ ys) (kept_new storage address size os)

gone : (o : ObjectState) → kept_object (record o { is_live = false }) ≡ buried (kept_object o)
unfolding kept_object buried
gone o = kept_by (λ x. buried (record o { is_live = false }) ≡ buried x) o (λ e. refl) (λ e. refl)

pub kept_dead : (n : ℕ) (objects : Objects) → kept (with_dead n objects) ≡ with_buried n (kept objects)
unfolding with_dead with_buried
kept_dead n objects =
    kept_set objects n (record (object_at objects n) { is_live = false })
    ∙ ap (λ x. set (kept objects) n x) (gone (object_at objects n) ∙ sym (ap buried (kept_at objects n)))

-- what is read

pub same_there : (size : ℕ) (p : Place) (objects : Objects) → is_there size p (kept objects) ≡ is_there size p objects
unfolding is_there
same_there size p objects =
    ap (has_bytes p.offset size) (kept_at objects p.object) ∙ same_bytes p.offset size (object_at objects p.object)

same_read : (k : Scalar) (p : Place) (objects : Objects) (b : Bool) → is_there (scalar_size k) p objects ≡ b
    → (if b then Some (read_value k p (kept objects)) else None) ≡ (if b then Some (read_value k p objects) else None)
unfolding is_there
same_read k p objects false e = refl
same_read k p objects true e =
    ap Some (read_is k p (kept objects)
    ∙ ap (read_in k p.offset) (kept_at objects p.object
    ∙ there_live p.offset (scalar_size k) (object_at objects p.object) e)
    ∙ sym (read_is k p objects))

pub same_found : (k : Scalar) (p : Place) (objects : Objects) → found k p (kept objects) ≡ found k p objects
unfolding found
same_found k p objects =
    ap (λ b. if b then Some (read_value k p (kept objects)) else None) (same_there (scalar_size k) p objects)
    ∙ same_read k p objects (is_there (scalar_size k) p objects) refl

-- what is written

stays_live : (k : Scalar) (v : Value) (offset : ℕ) (o : ObjectState) → (written_in k v offset o).is_live ≡ o.is_live
unfolding written_in
stays_live (Integer t) v offset o = refl
stays_live Pointer v offset o = tag_live (is_aligned offset)
  where
    tag_live : (b : Bool) → (if b then record (with_bytes offset (little_bytes 8 v.word) o)
        { tags = set o.tags (offset / 8) v.tag } else with_bytes offset (little_bytes 8 v.word) o).is_live ≡ o.is_live
    tag_live true = refl
    tag_live false = refl

same_write : (k : Scalar) (v : Value) (p : Place) (objects : Objects) (b : Bool)
    → is_there (scalar_size k) p objects ≡ b
    → (if b then write_value k v p (kept objects) else kept objects)
    ≡ kept (if b then write_value k v p objects else objects)
unfolding is_there
same_write k v p objects false e = refl
same_write k v p objects true e =
    let o = object_at objects p.object in
    let same : kept_object o ≡ o = there_live p.offset (scalar_size k) o e in
    written_is k v p (kept objects)
    ∙ ap (λ x. set (kept objects) p.object (written_in k v p.offset x)) (kept_at objects p.object ∙ same)
    ∙ ap (λ x. set (kept objects) p.object x) (sym (live_kept (written_in k v p.offset o)
    (stays_live k v p.offset o ∙ live_of)))
    ∙ sym (ap kept (written_is k v p objects) ∙ kept_set objects p.object (written_in k v p.offset o))
  where
    live_of : (object_at objects p.object).is_live ≡ true
    live_of = there_life p.offset (scalar_size k) (object_at objects p.object) e

pub same_written : (k : Scalar) (v : Value) (p : Place) (objects : Objects)
    → with_written k v p (kept objects) ≡ kept (with_written k v p objects)
unfolding with_written
same_written k v p objects =
    ap (λ b. if b then write_value k v p (kept objects) else kept objects) (same_there (scalar_size k) p objects)
    ∙ same_write k v p objects (is_there (scalar_size k) p objects) refl

-- bytes

same_put_bytes : (bytes : List ℕ) (p : Place) (objects : Objects) (b : Bool) → is_there (length bytes) p objects ≡ b
    → (if b then write_bytes bytes p (kept objects) else kept objects)
    ≡ kept (if b then write_bytes bytes p objects else objects)
unfolding is_there write_bytes
same_put_bytes bytes p objects false e = refl
same_put_bytes bytes p objects true e =
    let o = object_at objects p.object in
    let same : kept_object o ≡ o = there_live p.offset (length bytes) o e in
    ap (λ x. set (kept objects) p.object (with_bytes p.offset bytes x)) (kept_at objects p.object ∙ same)
    ∙ ap (λ x. set (kept objects) p.object x) (sym (live_kept (with_bytes p.offset bytes o)
    (there_life p.offset (length bytes) o e)))
    ∙ sym (kept_set objects p.object (with_bytes p.offset bytes o))

pub same_bytes_put : (bytes : List ℕ) (p : Place) (objects : Objects)
    → with_bytes_put bytes p (kept objects) ≡ kept (with_bytes_put bytes p objects)
unfolding with_bytes_put
same_bytes_put bytes p objects =
    ap (λ b. if b then write_bytes bytes p (kept objects) else kept objects) (same_there (length bytes) p objects)
    ∙ same_put_bytes bytes p objects (is_there (length bytes) p objects) refl

pub same_bytes_at : (size : ℕ) (p : Place) (objects : Objects) → is_there size p objects ≡ true
    → bytes_at size p (kept objects) ≡ bytes_at size p objects
unfolding is_there
same_bytes_at size p objects e = ap (λ o. take size (drop p.offset o.bytes)) (kept_at objects p.object
    ∙ there_live p.offset size (object_at objects p.object) e)

-- what is judged

module _ (objects : Objects) (n : ℕ) where
  abbrev kept_one : ObjectState
  kept_one = object_at (kept objects) n

  abbrev one : ObjectState
  one = object_at objects n

  pub storage_at : kept_one.storage ≡ one.storage
  storage_at = ap (λ o. o.storage) (kept_at objects n) ∙ same_storage one

  pub address_at : kept_one.address ≡ one.address
  address_at = ap (λ o. o.address) (kept_at objects n) ∙ same_address one

  pub size_at : kept_one.size ≡ one.size
  size_at = ap (λ o. o.size) (kept_at objects n) ∙ same_size one

  pub life_at : kept_one.is_live ≡ one.is_live
  life_at = ap (λ o. o.is_live) (kept_at objects n) ∙ same_life one

place_at : (objects : Objects) (n address : ℕ) → place_in (kept objects) n address ≡ place_in objects n address
place_at objects n address = ap (λ a. record { object = n; offset = address - a }) (address_at objects n)

judged_at : (size : ℕ) (t : Tag) (address : ℕ) (objects : Objects)
    → judged size t address (kept objects) ≡ judged size t address objects
judged_at size Untagged address objects = refl
judged_at size (OfFunction f) address objects = refl
judged_at size (OfObject n b) address objects =
    ap (λ l. if are_within b address size
    then (if l then Inside (place_in (kept objects) n address) else Dead) else Outside) (life_at objects n)
    ∙ ap (λ p. if are_within b address size
    then (if (object_at objects n).is_live then Inside p else Dead) else Outside) (place_at objects n address)

pub same_judged : (size : ℕ) (v : Value) (objects : Objects) → judge size v (kept objects) ≡ judge size v objects
unfolding judge
same_judged size v objects = judged_at size v.tag v.word objects

named_at : (t : Tag) (address : ℕ) (objects : Objects) → named_in t address (kept objects) ≡ named_in t address objects
named_at Untagged address objects = refl
named_at (OfFunction f) address objects = refl
named_at (OfObject n b) address objects = ap Inside (place_at objects n address)

pub same_named : (v : Value) (objects : Objects) → named v (kept objects) ≡ named v objects
unfolding named
same_named v objects = named_at v.tag v.word objects

pub same_pointer : (n : ℕ) (objects : Objects) → pointer_to n (kept objects) ≡ pointer_to n objects
unfolding pointer_to
same_pointer n objects =
    ap (λ a. pointer a (object_at (kept objects) n).size) (address_at objects n)
    ∙ ap (λ z. pointer (object_at objects n).address z) (size_at objects n)
  where
    pointer : ℕ → ℕ → Value
    pointer a z = record { word = a; tag = OfObject n (record { base = a; bound = a + z }) }

-- blocks of the heap

same_block : (o : ObjectState) → is_live_block (kept_object o) ≡ is_live_block o
same_block o =
    ap (λ s. is_allocated s && (kept_object o).is_live) (same_storage o)
    ∙ ap (λ l. is_allocated o.storage && l) (same_life o)

pub same_count : (objects : Objects) → block_count (kept objects) ≡ block_count objects
unfolding kept block_count
same_count [] = refl
same_count (o ∷ os) =
    ap (λ b. (if b then 1 else 0) + block_count (kept os)) (same_block o)
    ∙ ap (λ n. (if is_live_block o then 1 else 0) + n) (same_count os)

same_clear_of : (start room : ℕ) (o : ObjectState) → is_clear_of start room (kept_object o) ≡ is_clear_of start room o
same_clear_of start room o =
    ap (λ b. not b || (nat_le (start + room) (kept_object o).address
    || nat_le ((kept_object o).address + block_room (kept_object o).size) start)) (same_block o)
    ∙ ap (λ a. not (is_live_block o) || (nat_le (start + room) a
    || nat_le (a + block_room (kept_object o).size) start)) (same_address o)
    ∙ ap (λ z. not (is_live_block o) || (nat_le (start + room) o.address
    || nat_le (o.address + block_room z) start)) (same_size o)

same_clear : (start room : ℕ) (objects : Objects) → is_clear start room (kept objects) ≡ is_clear start room objects
unfolding kept is_clear
same_clear start room [] = refl
same_clear start room (o ∷ os) =
    ap (λ b. b && is_clear start room (kept os)) (same_clear_of start room o)
    ∙ ap (λ b. is_clear_of start room o && b) (same_clear start room os)

same_from : (count start last room : ℕ) (objects : Objects)
    → least_from count start last room (kept objects) ≡ least_from count start last room objects
same_from zero start last room objects = refl
same_from (suc k) start last room objects =
    ap (λ b. if nat_le (start + room) (last + 1) && b then Some start
    else least_from k (start + 16) last room (kept objects)) (same_clear start room objects)
    ∙ ap (λ o. if nat_le (start + room) (last + 1) && is_clear start room objects then Some start else o)
    (same_from k (start + 16) last room objects)

pub same_least : (first last size : ℕ) (objects : Objects)
    → least_place first last size (kept objects) ≡ least_place first last size objects
unfolding least_place
same_least first last size objects = same_from ((last + 1 - first) / 16) first last (block_room size) objects

-- ranges

same_range : (offset size : ℕ) (o : ObjectState) → has_range offset size (kept_object o) ≡ has_range offset size o
unfolding has_range has_bytes buried
same_range offset size o = kept_by (λ x. (x.is_live && nat_le (offset + size) (length x.bytes)
    && nat_le ((offset + size) / 8) (length x.tags)) ≡ has_range offset size o) o (λ e. refl)
    (λ e. sym (ap (λ b. b && nat_le (offset + size) (length o.bytes)
    && nat_le ((offset + size) / 8) (length o.tags)) e))

same_range_at : (offset size n : ℕ) (objects : Objects)
    → has_range offset size (object_at (kept objects) n) ≡ has_range offset size (object_at objects n)
same_range_at offset size n objects =
    ap (has_range offset size) (kept_at objects n) ∙ same_range offset size (object_at objects n)

kept_where : (offset size n : ℕ) (objects : Objects) → has_range offset size (object_at objects n) ≡ true
    → object_at (kept objects) n ≡ object_at objects n
kept_where offset size n objects h =
    kept_at objects n ∙ there_live offset size (object_at objects n) (range_bytes offset size (object_at objects n) h)

-- a range put into an object that has it
put_live : (size start source : ℕ) (from : ObjectState) (n : ℕ) (objects : Objects)
    → has_range start size (object_at objects n) ≡ true
    → set (kept objects) n (moved_into size start source from (object_at (kept objects) n))
    ≡ kept (set objects n (moved_into size start source from (object_at objects n)))
unfolding moved_into
put_live size start source from n objects h =
    ap (λ o. set (kept objects) n (moved_into size start source from o)) (kept_where start size n objects h)
    ∙ sym (kept_set objects n (moved_into size start source from (object_at objects n))
    ∙ ap (set (kept objects) n) (live_kept (moved_into size start source from (object_at objects n))
    (there_life start size (object_at objects n) (range_bytes start size (object_at objects n) h))))

module _ (size : ℕ) (d s : Place) (objects : Objects) where
  pub same_movable : is_movable size d s (kept objects) ≡ is_movable size d s objects
  unfolding is_movable
  same_movable =
      ap (λ b. b && has_range d.offset size (object_at (kept objects) d.object))
      (same_range_at s.offset size s.object objects)
      ∙ ap (λ b. has_range s.offset size (object_at objects s.object) && b)
      (same_range_at d.offset size d.object objects)

  moved_if : (b : Bool) → is_movable size d s objects ≡ b
      → (if b then move_range size d s (kept objects) else kept objects)
      ≡ kept (if b then move_range size d s objects else objects)
  unfolding is_movable move_range moved_into
  moved_if false e = refl
  moved_if true e =
      ap (λ o. set (kept objects) d.object (moved_into size d.offset s.offset o (object_at (kept objects) d.object)))
      (kept_where s.offset size s.object objects (both (has_range s.offset size (object_at objects s.object)) _ e))
      ∙ put_live size d.offset s.offset (object_at objects s.object) d.object objects
      (by_test (has_range s.offset size (object_at objects s.object)) _ e)

  pub same_moved : with_moved size d s (kept objects) ≡ kept (with_moved size d s objects)
  unfolding with_moved
  same_moved =
      ap (λ b. if b then move_range size d s (kept objects) else kept objects) same_movable
      ∙ moved_if (is_movable size d s objects) refl

module _ (size : ℕ) (d : Place) (source : ℕ) (c : ObjectState) (objects : Objects) where
  pub same_puttable : is_puttable size d source c (kept objects) ≡ is_puttable size d source c objects
  unfolding is_puttable
  same_puttable = ap (λ b. has_range source size c && b) (same_range_at d.offset size d.object objects)

  put_if : (b : Bool) → is_puttable size d source c objects ≡ b
      → (if b then put_range size d source c (kept objects) else kept objects)
      ≡ kept (if b then put_range size d source c objects else objects)
  unfolding is_puttable put_range
  put_if false e = refl
  put_if true e = put_live size d.offset source c d.object objects (by_test (has_range source size c) _ e)

  pub same_put : with_put size d source c (kept objects) ≡ kept (with_put size d source c objects)
  unfolding with_put
  same_put =
      ap (λ b. if b then put_range size d source c (kept objects) else kept objects) same_puttable
      ∙ put_if (is_puttable size d source c objects) refl

cleared_if : (n : ℕ) (objects : Objects) (b : Bool) → (object_at objects n).is_live ≡ b
    → (if b then with_zeroed n (kept objects) else kept objects)
    ≡ kept (if b then with_zeroed n objects else objects)
unfolding with_zeroed zeroed
cleared_if n objects false e = refl
cleared_if n objects true e =
    ap (λ o. set (kept objects) n (zeroed o)) (kept_at objects n ∙ live_kept (object_at objects n) e)
    ∙ sym (kept_set objects n (zeroed (object_at objects n))
    ∙ ap (set (kept objects) n) (live_kept (zeroed (object_at objects n)) e))

pub same_cleared : (n : ℕ) (objects : Objects) → with_cleared n (kept objects) ≡ kept (with_cleared n objects)
unfolding with_cleared
same_cleared n objects =
    ap (λ b. if b then with_zeroed n (kept objects) else kept objects) (life_at objects n)
    ∙ cleared_if n objects (object_at objects n).is_live refl

-- contents taken of an object that has them
pub same_contents : (size offset n : ℕ) (objects : Objects) → has_range offset size (object_at objects n) ≡ true
    → contents_of size offset (object_at (kept objects) n) ≡ contents_of size offset (object_at objects n)
same_contents size offset n objects h = ap (contents_of size offset) (kept_where offset size n objects h)
