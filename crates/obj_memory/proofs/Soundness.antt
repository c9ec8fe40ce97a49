-- What always holds of objects: every action keeps it.
use Rattle.std.proofs.Common.{◌≡◌, ℕ, zero, suc, ◌+◌, ◌-◌, ◌*◌, ◌/◌, ◌%◌, ◌<◌, ◌≤◌, true, false, ◌==◌, if◌then◌else◌}
use Rattle.std.proofs.Common.{List, [], ◌∷◌, ◌++◌, length, drop, get_or, set, replicate, refl, ap, sym, ◌∙◌, subst}
use Rattle.std.proofs.Common.{arith, length-set, length-take, length-drop}
use Rattle.std.proofs.lemmas.List.{length-replicate}
use Rattle.obj_memory.specs.declared.object.Storage.{Storage}
use Rattle.obj_memory.specs.declared.value.Tag.{Tag}
use Rattle.obj_memory.specs.declared.value.Tag.TheVariants.{Untagged, OfFunction, OfObject}
use Rattle.obj_memory.specs.declared.value.Value.{Value}
use Rattle.obj_memory.specs.declared.value.Place.{Place}
use Rattle.obj_memory.specs.declared.value.Scalar.{Scalar}
use Rattle.obj_memory.specs.declared.value.Scalar.TheVariants.{Integer, Pointer}
use Rattle.obj_memory.specs.Integers.{size_of}
use Rattle.obj_memory.specs.Objects.{ObjectState, Objects, no_object, object_at, new_object, with_new, with_dead}
use Rattle.obj_memory.specs.Objects.{with_zeroed}
use Rattle.obj_memory.specs.Access.{is_aligned, is_word_in, bytes_at, scalar_size, overwrite, moved_tags, write_bytes}
use Rattle.obj_memory.specs.Access.{write_tag, write_value, move_range}
use Rattle.obj_memory.specs.Sound.{Continues, IsSoundTag, IsSoundObject, IsSound, IsPlace}
use Rattle.byteorder.specs.Endian.{little_bytes}
use Rattle.byteorder.specs.Numbers.{length-bytes_low_first}
use Rattle.obj_memory.proofs.Bytes.{little_bytes_below}
use Rattle.obj_memory.proofs.Listed.{at_set, at_added, every_overwrite, every_replicate, every_take, every_drop}
use Rattle.obj_memory.proofs.Listed.{length-overwrite}
use Rattle.obj_memory.proofs.Continuing.{IsLater, continues_set, continues_added, continues_bytes}

pub sound_tag_continues : (functions : ℕ) (old new : Objects) → Continues old new → (t : Tag)
    → IsSoundTag functions old t → IsSoundTag functions new t
sound_tag_continues functions old new c Untagged h = tt
sound_tag_continues functions old new c (OfFunction f) h = h
sound_tag_continues functions old new c (OfObject o b) h = record {
  made = omega (arith, c.longer, h.made);
  base = omega (arith, h.base, c.address o h.made);
  bound = omega (arith, h.bound, c.address o h.made, c.size o h.made);
  base_word = h.base_word;
  bound_word = h.bound_word;
}

pub sound_object_continues : {functions : ℕ} (old new : Objects) → Continues old new → (o : ObjectState)
    → IsSoundObject functions old o
    → IsSoundObject functions new o
sound_object_continues {functions = functions} old new c o h = record {
  aligned = h.aligned;
  bytes = h.bytes;
  values = h.values;
  tags = h.tags;
  tag = λ k. sound_tag_continues functions old new c _ (h.tag k);
}

-- an object changed, and an object added
pub sound_set : {functions : ℕ} (objects : Objects) (n : ℕ) (x : ObjectState) → IsSound functions objects
    → IsLater (object_at objects n) x
    → IsSoundObject functions objects x → IsSound functions (set objects n x)
sound_set {functions = functions} objects n x h l s = record {
  at = λ m. sound_object_continues objects (set objects n x) (continues_set objects n x l) _
      (at_set (λ o. IsSoundObject functions objects o) no_object objects n m x (λ e. s) (h.at m));
}

pub sound_added : {functions : ℕ} (objects : Objects) (x : ObjectState) → IsSound functions objects
    → IsSoundObject functions objects x
    → IsSound functions (objects ++ (x ∷ []))
sound_added {functions = functions} objects x h s = record {
  at = λ m. sound_object_continues objects (objects ++ (x ∷ [])) (continues_added objects x) _
      (at_added (λ o. IsSoundObject functions objects o) no_object objects m x (λ e. s) (h.at m));
}

pub sound_none : {functions : ℕ} → IsSound functions []
sound_none = record {
  at = λ n. record { aligned = refl; bytes = refl; values = λ k. omega arith; tags = refl; tag = λ k. tt };
}

-- zero bytes and no tags
pub sound_zeros : {functions : ℕ} (objects : Objects) (o : ObjectState) → o.address % 16 ≡ 0
    → IsSoundObject functions objects (record o { bytes = replicate o.size 0; tags = replicate (o.size / 8) Untagged })
sound_zeros {functions = functions} objects o h = record {
  aligned = h;
  bytes = length-replicate o.size 0;
  values = every_replicate (λ b. b < 256) 0 o.size 0 (omega arith) (omega arith);
  tags = length-replicate (o.size / 8) Untagged;
  tag = every_replicate (λ t. IsSoundTag functions objects t) Untagged (o.size / 8) Untagged tt tt;
}

pub sound_new : {functions : ℕ} (storage : Storage) (address size : ℕ) (objects : Objects) → IsSound functions objects
    → address % 16 ≡ 0
    → IsSound functions (with_new storage address size objects)
unfolding with_new new_object
sound_new storage address size objects h a =
    sound_added objects (new_object storage address size) h (sound_zeros objects (new_object storage address size) a)

pub sound_zeroed : {functions : ℕ} (n : ℕ) (objects : Objects) → IsSound functions objects
    → IsSound functions (with_zeroed n objects)
unfolding with_zeroed
sound_zeroed n objects h =
    sound_set objects n _ h (record { storage = refl; address = refl; size = refl; dead = λ d. d })
    (sound_zeros objects (object_at objects n) (h.at n).aligned)

pub sound_dead : {functions : ℕ} (n : ℕ) (objects : Objects) → IsSound functions objects
    → IsSound functions (with_dead n objects)
unfolding with_dead
sound_dead n objects h =
    let s = h.at n in
    sound_set objects n _ h (record { storage = refl; address = refl; size = refl; dead = λ d. refl })
    (record { aligned = s.aligned; bytes = s.bytes; values = s.values; tags = s.tags; tag = s.tag })

-- other bytes in an object
pub sound_overwritten : {functions : ℕ} (objects : Objects) (o : ObjectState) (start : ℕ) (new : List ℕ)
    (tags : List Tag) → IsSoundObject functions objects o
    → start + length new ≤ o.size → ((k : ℕ) → get_or new k 0 < 256) → length tags ≡ o.size / 8
    → ((k : ℕ) → IsSoundTag functions objects (get_or tags k Untagged))
    → IsSoundObject functions objects (record o { bytes = overwrite start new o.bytes; tags = tags })
sound_overwritten objects o start new tags s fits values count sound = record {
  aligned = s.aligned;
  bytes = length-overwrite start new o.bytes (omega (arith, fits, s.bytes)) ∙ s.bytes;
  values = every_overwrite (λ b. b < 256) 0 start new o.bytes (omega arith) values s.values;
  tags = count;
  tag = sound;
}

pub sound_bytes : {functions : ℕ} (new : List ℕ) (p : Place) (objects : Objects) → IsSound functions objects
    → IsPlace objects p (length new)
    → ((k : ℕ) → get_or new k 0 < 256) → IsSound functions (write_bytes new p objects)
unfolding write_bytes
sound_bytes new p objects h place values =
    let o = object_at objects p.object in
    let s = h.at p.object in
    sound_set objects p.object _ h (record { storage = refl; address = refl; size = refl; dead = λ d. d })
    (sound_overwritten objects o p.offset new o.tags s place.room values s.tags s.tag)

pub sound_tag : {functions : ℕ} (t : Tag) (p : Place) (objects : Objects) → IsSound functions objects
    → IsSoundTag functions objects t
    → IsSound functions (write_tag t p objects)
unfolding write_tag
sound_tag {functions = functions} t p objects h sound =
    let o = object_at objects p.object in
    let s = h.at p.object in
    elim (is_aligned p.offset) as (λ b. IsSound functions (if b then set objects p.object
    (record o { tags = set o.tags (p.offset / 8) t }) else objects)) [
      | true ↦ sound_set objects p.object _ h (record { storage = refl; address = refl; size = refl; dead = λ d. d })
          (record {
            aligned = s.aligned;
            bytes = s.bytes;
            values = s.values;
            tags = length-set o.tags (p.offset / 8) t ∙ s.tags;
            tag = λ k. at_set (λ x. IsSoundTag functions objects x) Untagged o.tags (p.offset / 8) k t
                (λ e. sound) (s.tag k);
          })
      | false ↦ h
    ]

pub sound_value : {functions : ℕ} (s : Scalar) (v : Value) (p : Place) (objects : Objects) → IsSound functions objects
    → IsPlace objects p (scalar_size s) → IsSoundTag functions objects v.tag
    → IsSound functions (write_value s v p objects)
unfolding write_value
sound_value (Integer t) v p objects h place sound =
    sound_bytes (little_bytes (size_of t) v.word) p objects h
    (subst (λ n. IsPlace objects p n) (sym (length-bytes_low_first 0 (size_of t) v.word)) place)
    (little_bytes_below (size_of t) v.word)
sound_value {functions = functions} Pointer v p objects h place sound =
    let after = write_bytes (little_bytes 8 v.word) p objects in
    sound_tag v.tag p after
    (sound_bytes (little_bytes 8 v.word) p objects h
    (subst (λ n. IsPlace objects p n) (sym (length-bytes_low_first 0 8 v.word)) place) (little_bytes_below 8 v.word))
    (sound_tag_continues functions objects after (continues_bytes _ p objects) v.tag sound)

pub length-moved_tags : (size start source : ℕ) (from : List Tag) (word : ℕ) (ts : List Tag)
    → length (moved_tags size start source from word ts) ≡ length ts
length-moved_tags size start source from word [] = refl
length-moved_tags size start source from word (t ∷ ts) = ap suc (length-moved_tags size start source from (word + 1) ts)

pub every_moved : (P : Tag → Type 0) (size start source : ℕ) (from : List Tag) → ((k : ℕ) → P (get_or from k Untagged))
    → (word : ℕ) (ts : List Tag)
    → ((k : ℕ) → P (get_or ts k Untagged)) → (k : ℕ) → P (get_or (moved_tags size start source from word ts) k Untagged)
every_moved P size start source from f word [] h k = h k
every_moved P size start source from f word (t ∷ ts) h zero =
    elim (is_word_in start size word) as (λ b. P (if b then get_or from
    ((8 * word - start + source) / 8) Untagged else t)) [
      | true ↦ f ((8 * word - start + source) / 8)
      | false ↦ h zero
    ]
every_moved P size start source from f word (t ∷ ts) h (suc k) =
    every_moved P size start source from f (word + 1) ts (λ j. h (suc j)) k

pub length-bytes_at : {functions : ℕ} (size : ℕ) (p : Place) (objects : Objects) → IsSound functions objects
    → IsPlace objects p size
    → length (bytes_at size p objects) ≡ size
length-bytes_at size p objects h place =
    let o = object_at objects p.object in
    omega (
      arith,
      place.room,
      (h.at p.object).bytes,
      length-take size
          (drop p.offset o.bytes),
      length-drop p.offset o.bytes,
    )

pub bytes_at_below : {functions : ℕ} (size : ℕ) (p : Place) (objects : Objects) → IsSound functions objects → (k : ℕ)
    → get_or (bytes_at size p objects) k 0 < 256
bytes_at_below size p objects h =
    let o = object_at objects p.object in
    every_take (λ b. b < 256) 0 size (drop p.offset o.bytes) (omega arith)
    (every_drop (λ b. b < 256) 0 p.offset o.bytes (h.at p.object).values)

pub sound_moved : {functions : ℕ} (size : ℕ) (d s : Place) (objects : Objects) → IsSound functions objects
    → IsPlace objects d size
    → IsPlace objects s size
    → IsSound functions (move_range size d s objects)
unfolding move_range
sound_moved {functions = functions} size d s objects h to place =
    let o = object_at objects d.object in
    let from = object_at objects s.object in
    let sound = h.at d.object in
    let long = length-bytes_at size s objects h place in
    sound_set objects d.object _ h (record { storage = refl; address = refl; size = refl; dead = λ x. x })
    (sound_overwritten objects o d.offset (bytes_at size s objects) _ sound (omega (arith, to.room, long))
    (bytes_at_below size s objects h)
    (elim (d.offset % 8 == s.offset % 8) as
    (λ b. length (if b then moved_tags size d.offset s.offset from.tags 0 o.tags else o.tags) ≡ o.size / 8) [
      | true ↦ length-moved_tags size d.offset s.offset from.tags 0 o.tags ∙ sound.tags
      | false ↦ sound.tags
    ])
    (λ k. elim (d.offset % 8 == s.offset % 8) as (λ b. IsSoundTag functions objects
    (get_or (if b then moved_tags size d.offset s.offset from.tags 0 o.tags else o.tags) k Untagged)) [
      | true ↦ every_moved (λ t. IsSoundTag functions objects t) size d.offset s.offset from.tags
          (h.at s.object).tag 0 o.tags sound.tag k
      | false ↦ sound.tag k
    ]))

-- objects stand at multiples of 16
pub aligned_address : {functions : ℕ} (objects : Objects) (p : Place) → IsSound functions objects
    → ((object_at objects p.object).address + p.offset) % 8 ≡ p.offset % 8
aligned_address objects p h = let a = (h.at p.object).aligned in omega (arith, a)
