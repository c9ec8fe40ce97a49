-- What is read after a write: what was written there, and what stood at other places.
use Rattle.std.proofs.Common.{◌≡◌, ◌≢◌, ℕ, ◌+◌, ◌/◌, ◌%◌, ◌^◌, ◌<◌, ◌≤◌, Bool, true, false, if◌then◌else◌, ◌⊎◌}
use Rattle.std.proofs.Common.{inl, inr, List, length, take, drop, get_or, set, refl, ap, sym, ◌∙◌, subst, arith}
use Rattle.std.proofs.lemmas.Bool.{eqb-true, eq-eqb}
use Rattle.std.proofs.lemmas.Bool.Decides.{nat_tests}
use Rattle.std.proofs.lemmas.List.{get_or-set_same, get_or-set_other}
use Rattle.std.proofs.Math.Nat.{mod-eq_of_lt}
use Rattle.obj_memory.specs.declared.int_type.IntType.{IntType}
use Rattle.obj_memory.specs.declared.value.Tag.{Tag}
use Rattle.obj_memory.specs.declared.value.Tag.TheVariants.{Untagged}
use Rattle.obj_memory.specs.declared.value.Value.{Value}
use Rattle.obj_memory.specs.declared.value.Place.{Place}
use Rattle.obj_memory.specs.declared.value.Scalar.{Scalar}
use Rattle.obj_memory.specs.declared.value.Scalar.TheVariants.{Integer, Pointer}
use Rattle.obj_memory.specs.Integers.{size_of, fit}
use Rattle.obj_memory.specs.Objects.{ObjectState, Objects, no_object, object_at}
use Rattle.obj_memory.specs.Access.{tag_of, is_aligned, bytes_at, tag_at, overwrite, scalar_size, read_value}
use Rattle.obj_memory.specs.Access.{write_bytes, write_tag, write_value, kept_value}
use Rattle.byteorder.specs.Endian.{little_bytes, little_number}
use Rattle.byteorder.specs.Numbers.{length-bytes_low_first, little_from-lt}
use Rattle.obj_memory.specs.Sound.{KeepsObjects, IsSound, IsPlace, AreApart, IsSoundTag}
use Rattle.obj_memory.specs.Sound.AreApart.{InOthers, Before, Behind}
use Rattle.obj_memory.proofs.Listed.{at_set, overwrite-read, overwrite-other}
use Rattle.obj_memory.proofs.Bytes.{little_bytes_below, little_number-bytes}
use Rattle.obj_memory.proofs.Words.{fit_bytes, fit_below}
use Rattle.obj_memory.proofs.Soundness.{bytes_at_below, sound_bytes}
use Rattle.obj_memory.proofs.Keeping.{keeps_bytes}

-- the object of a write, and the others
pub object_set : (objects : Objects) (n : ℕ) (x : ObjectState) → n < length objects → object_at (set objects n x) n ≡ x
object_set objects n x h = get_or-set_same objects n x no_object h

pub object_set_other : (objects : Objects) (n m : ℕ) (x : ObjectState) → m ≢ n
    → object_at (set objects n x) m ≡ object_at objects m
object_set_other objects n m x h = get_or-set_other objects n m x no_object h

-- a field of an object that a write leaves as it is
field_kept : {A : Type 0} (f : ObjectState → A) (objects : Objects) (n m : ℕ) (x : ObjectState)
    → f x ≡ f (object_at objects n)
    → f (object_at (set objects n x) m) ≡ f (object_at objects m)
field_kept f objects n m x e =
    at_set (λ o. f o ≡ f (object_at objects m)) no_object objects n m x
    (λ s. subst (λ k. f x ≡ f (object_at objects k)) (sym s) e) refl

-- bytes
pub bytes_written : {functions : ℕ} (new : List ℕ) (p : Place) (objects : Objects) → IsSound functions objects
    → IsPlace objects p (length new)
    → bytes_at (length new) p (write_bytes new p objects) ≡ new
unfolding write_bytes
bytes_written new p objects h place =
    let o = object_at objects p.object in
    ap (λ x. take (length new) (drop p.offset x.bytes)) (object_set objects p.object _ place.made)
    ∙ overwrite-read p.offset new o.bytes (omega (arith, place.room, (h.at p.object).bytes))

beside : {functions : ℕ} (new : List ℕ) (p q : Place) (n : ℕ) (objects : Objects) → IsSound functions objects
    → IsPlace objects p (length new)
    → (q.offset + n ≤ p.offset) ⊎ (p.offset + length new ≤ q.offset)
    → take n (drop q.offset (object_at (set objects p.object (record
    (object_at objects p.object) {
      bytes = overwrite p.offset new
          (object_at objects p.object).bytes;
    })) q.object).bytes)
    ≡ take n (drop q.offset (object_at objects q.object).bytes)
beside new p q n objects h place apart =
    let o = object_at objects p.object in
    let x = record o { bytes = overwrite p.offset new o.bytes } in
    let P : ObjectState → Type 0 = λ y. take n (drop q.offset y.bytes)
    ≡ take n (drop q.offset (object_at objects q.object).bytes) in
    let fits : p.offset + length new ≤ length o.bytes = omega (arith, place.room, (h.at p.object).bytes) in
    at_set P no_object objects p.object q.object x
    (λ same. subst (λ m. take n (drop q.offset x.bytes) ≡ take n (drop q.offset (object_at objects m).bytes)) (sym same)
    (overwrite-other 0 p.offset new o.bytes q.offset n fits apart))
    refl

pub bytes_apart : {functions : ℕ} (new : List ℕ) (p q : Place) (n : ℕ) (objects : Objects) → IsSound functions objects
    → IsPlace objects p (length new) → AreApart p (length new) q n
    → bytes_at n q (write_bytes new p objects) ≡ bytes_at n q objects
unfolding write_bytes
bytes_apart new p q n objects h place (InOthers other) =
    ap (λ x. take n (drop q.offset x.bytes)) (object_set_other objects p.object q.object _ other)
bytes_apart new p q n objects h place (Before le) = beside new p q n objects h place (inl le)
bytes_apart new p q n objects h place (Behind le) = beside new p q n objects h place (inr le)

-- tags
pub tags_after_bytes : (new : List ℕ) (p q : Place) (objects : Objects)
    → tag_at q (write_bytes new p objects) ≡ tag_at q objects
unfolding write_bytes
tags_after_bytes new p q objects =
    ap (λ ts. if is_aligned q.offset then get_or ts (q.offset / 8) Untagged else Untagged)
    (field_kept (λ o. o.tags) objects p.object q.object _ refl)

pub bytes_after_tag : (t : Tag) (p q : Place) (n : ℕ) (objects : Objects)
    → bytes_at n q (write_tag t p objects) ≡ bytes_at n q objects
unfolding write_tag
bytes_after_tag t p q n objects =
    let o = object_at objects p.object in
    elim (is_aligned p.offset) as (λ b. bytes_at n q (if b then set objects p.object
    (record o { tags = set o.tags (p.offset / 8) t }) else objects) ≡ bytes_at n q objects) [
      | true ↦ ap (λ bs. take n (drop q.offset bs)) (field_kept (λ x. x.bytes) objects p.object q.object _ refl)
      | false ↦ refl
    ]

-- the tag of a word that was set
pub tag_written : {functions : ℕ} (t : Tag) (p : Place) (objects : Objects) → IsSound functions objects
    → IsPlace objects p 8
    → tag_at p (write_tag t p objects) ≡ (if is_aligned p.offset then t else Untagged)
unfolding write_tag
tag_written t p objects h place = go (is_aligned p.offset) refl
  where
    o : ObjectState
    o = object_at objects p.object

    go : (b : Bool) → is_aligned p.offset ≡ b
        → (if b then get_or (object_at (if b then set objects p.object
        (record (object_at objects p.object) {
          tags = set (object_at objects p.object).tags
              (p.offset / 8) t;
        }) else objects) p.object).tags (p.offset / 8) Untagged else Untagged)
        ≡ (if b then t else Untagged)
    go true e =
        let word : p.offset % 8 ≡ 0 = eqb-true _ _ e in
        let within : p.offset / 8 < length (object_at objects p.object).tags = omega
        (arith, word, place.room, (h.at p.object).tags) in
        ap (λ x. get_or x.tags (p.offset / 8) Untagged) (object_set objects p.object _ place.made)
        ∙ get_or-set_same (object_at objects p.object).tags (p.offset / 8) t Untagged within
    go false e = refl

word_apart : (t : Tag) (p q : Place) (objects : Objects) → q.offset / 8 ≢ p.offset / 8
    → get_or (object_at (set objects p.object (record (object_at objects p.object) {
      tags = set
          (object_at objects p.object).tags (p.offset / 8) t;
    })) q.object).tags (q.offset / 8) Untagged
    ≡ get_or (object_at objects q.object).tags (q.offset / 8) Untagged
word_apart t p q objects other =
    let o = object_at objects p.object in
    let x = record o { tags = set o.tags (p.offset / 8) t } in
    let P : ObjectState → Type 0 = λ y. get_or y.tags (q.offset / 8) Untagged
    ≡ get_or (object_at objects q.object).tags (q.offset / 8) Untagged in
    at_set P no_object objects p.object q.object x
    (λ same. subst (λ m. get_or x.tags (q.offset / 8) Untagged
    ≡ get_or (object_at objects m).tags (q.offset / 8) Untagged) (sym same)
    (get_or-set_other o.tags (p.offset / 8) (q.offset / 8) t Untagged other))
    refl

-- the tag of another word
pub tag_apart : (t : Tag) (p q : Place) (objects : Objects) → AreApart p 8 q 8
    → tag_at q (write_tag t p objects) ≡ tag_at q objects
unfolding write_tag
tag_apart t p q objects apart = go (is_aligned p.offset) (is_aligned q.offset) refl refl apart
  where
    go : (b c : Bool) → is_aligned p.offset ≡ b → is_aligned q.offset ≡ c → AreApart p 8 q 8
        → (if c then get_or (object_at (if b then set objects p.object
        (record (object_at objects p.object) {
          tags = set (object_at objects p.object).tags
              (p.offset / 8) t;
        }) else objects) q.object).tags (q.offset / 8) Untagged else Untagged)
        ≡ (if c then get_or (object_at objects q.object).tags (q.offset / 8) Untagged else Untagged)
    go b false e f a = refl
    go false true e f a = refl
    go true true e f (InOthers other) = ap (λ x. get_or x.tags (q.offset / 8) Untagged)
        (object_set_other objects p.object q.object _ other)
    go true true e f (Before le) =
        let w : p.offset % 8 ≡ 0 = eqb-true _ _ e in
        let v : q.offset % 8 ≡ 0 = eqb-true _ _ f in
        word_apart t p q objects (omega (arith, w, v, le))
    go true true e f (Behind le) =
        let w : p.offset % 8 ≡ 0 = eqb-true _ _ e in
        let v : q.offset % 8 ≡ 0 = eqb-true _ _ f in
        word_apart t p q objects (omega (arith, w, v, le))

-- a place stays one
pub place_kept : (old new : Objects) (p : Place) (size : ℕ) → KeepsObjects old new → IsPlace old p size
    → IsPlace new p size
place_kept old new p size k place = record {
  made = omega (arith, k.count, place.made);
  room = omega (arith, (k.at p.object).size, place.room);
}

-- the bytes beside a write
integer_apart : {functions : ℕ} (t : IntType) (v : Value) (p q : Place) (n : ℕ) (objects : Objects)
    → IsSound functions objects
    → IsPlace objects p (size_of t) → AreApart p (size_of t) q n
    → bytes_at n q (write_bytes (little_bytes (size_of t) v.word) p objects) ≡ bytes_at n q objects
integer_apart t v p q n objects h place apart =
    let new = little_bytes (size_of t) v.word in
    let long : length new ≡ size_of t = length-bytes_low_first 0 (size_of t) v.word in
    bytes_apart new p q n objects h (subst (λ k. IsPlace objects p k) (sym long) place)
    (subst (λ k. AreApart p k q n) (sym long) apart)

pointer_apart : {functions : ℕ} (v : Value) (p q : Place) (n : ℕ) (objects : Objects) → IsSound functions objects
    → IsPlace objects p 8
    → AreApart p 8 q n
    → bytes_at n q (write_tag v.tag p (write_bytes (little_bytes 8 v.word) p objects)) ≡ bytes_at n q objects
pointer_apart v p q n objects h place apart =
    let new = little_bytes 8 v.word in
    let long : length new ≡ 8 = length-bytes_low_first 0 8 v.word in
    bytes_after_tag v.tag p q n (write_bytes new p objects)
    ∙ bytes_apart new p q n objects h (subst (λ k. IsPlace objects p k) (sym long) place)
    (subst (λ k. AreApart p k q n) (sym long) apart)

-- values
pub read_written : {functions : ℕ} (s : Scalar) (v : Value) (p : Place) (objects : Objects) → IsSound functions objects
    → IsPlace objects p (scalar_size s) → v.word < 2 ^ 64
    → read_value s p (write_value s v p objects) ≡ kept_value s v p
unfolding read_value write_value kept_value
read_written (Integer t) v p objects h place small =
    let new = little_bytes (size_of t) v.word in
    let long : length new ≡ size_of t = length-bytes_low_first 0 (size_of t) v.word in
    let same : bytes_at (size_of t) p (write_bytes new p objects) ≡ new =
    subst (λ n. bytes_at n p (write_bytes new p objects) ≡ new) long
    (bytes_written new p objects h (subst (λ n. IsPlace objects p n) (sym long) place)) in
    ap (λ n. record { word = fit t n; tag = Untagged }) (ap (little_number (size_of t)) same
    ∙ little_number-bytes (size_of t) v.word)
    ∙ ap (λ n. record { word = n; tag = Untagged }) (fit_bytes t v.word)
read_written {functions = functions} Pointer v p objects h place small =
    let new = little_bytes 8 v.word in
    let after = write_bytes new p objects in
    let long : length new ≡ 8 = length-bytes_low_first 0 8 v.word in
    let same : bytes_at 8 p after ≡ new =
    subst (λ n. bytes_at n p after ≡ new) long (bytes_written new p objects h
    (subst (λ n. IsPlace objects p n) (sym long) place)) in
    let bytes : bytes_at 8 p (write_tag v.tag p after) ≡ new = bytes_after_tag v.tag p p 8 after ∙ same in
    let number : little_number 8 (bytes_at 8 p (write_tag v.tag p after)) ≡ v.word =
    ap (little_number 8) bytes ∙ little_number-bytes 8 v.word ∙ mod-eq_of_lt small in
    let sound : IsSound functions after = sound_bytes new p objects h
    (subst (λ n. IsPlace objects p n) (sym long) place)
    (little_bytes_below 8 v.word) in
    let there : IsPlace after p 8 = place_kept objects after p 8 (keeps_bytes new p objects) place in
    ap (λ n. record { word = n; tag = tag_at p (write_tag v.tag p after) }) number
    ∙ ap (λ t. record { word = v.word; tag = t }) (tag_written v.tag p after sound there)

pub read_apart : {functions : ℕ} (s : Scalar) (v : Value) (p : Place) (r : Scalar) (q : Place) (objects : Objects)
    → IsSound functions objects
    → IsPlace objects p (scalar_size s)
    → AreApart p (scalar_size s) q (scalar_size r) → read_value r q (write_value s v p objects) ≡ read_value r q objects
unfolding read_value write_value
read_apart (Integer t) v p (Integer u) q objects h place apart =
    ap (λ bs. record { word = fit u (little_number (size_of u) bs); tag = Untagged })
    (integer_apart t v p q (size_of u) objects h place apart)
read_apart (Integer t) v p Pointer q objects h place apart =
    ap (λ bs. record {
      word = little_number 8 bs;
      tag = tag_at q
          (write_bytes (little_bytes (size_of t) v.word) p objects);
    }) (integer_apart t v p q 8 objects h place apart)
    ∙ ap (λ x. record { word = little_number 8 (bytes_at 8 q objects); tag = x })
    (tags_after_bytes (little_bytes (size_of t) v.word) p q objects)
read_apart Pointer v p (Integer u) q objects h place apart =
    ap (λ bs. record { word = fit u (little_number (size_of u) bs); tag = Untagged })
    (pointer_apart v p q (size_of u) objects h place apart)
read_apart Pointer v p Pointer q objects h place apart =
    let after = write_bytes (little_bytes 8 v.word) p objects in
    ap (λ bs. record { word = little_number 8 bs; tag = tag_at q (write_tag v.tag p after) })
    (pointer_apart v p q 8 objects h place apart)
    ∙ ap (λ x. record { word = little_number 8 (bytes_at 8 q objects); tag = x })
    (tag_apart v.tag p q after apart ∙ tags_after_bytes (little_bytes 8 v.word) p q objects)

-- a value that is read
-- eight bytes are a word
pub number_below : (bytes : List ℕ) → ((k : ℕ) → get_or bytes k 0 < 256) → little_number 8 bytes < 2 ^ 64
number_below bytes h = little_from-lt 0 8 bytes h

pub read_below : {functions : ℕ} (s : Scalar) (p : Place) (objects : Objects) → IsSound functions objects
    → IsPlace objects p (scalar_size s)
    → (read_value s p objects).word < 2 ^ 64
unfolding read_value
read_below (Integer t) p objects h place = fit_below t _
read_below Pointer p objects h place = number_below (bytes_at 8 p objects) (bytes_at_below 8 p objects h)

pub sound_read : {functions : ℕ} (s : Scalar) (p : Place) (objects : Objects) → IsSound functions objects
    → IsSoundTag functions objects (read_value s p objects).tag
unfolding read_value
sound_read (Integer t) p objects h = tt
sound_read {functions = functions} Pointer p objects h =
    elim (is_aligned p.offset) as (λ b. IsSoundTag functions objects (if b then get_or (object_at objects p.object).tags
    (p.offset / 8) Untagged else Untagged)) [
      | true ↦ (h.at p.object).tag (p.offset / 8)
      | false ↦ tt
    ]

-- the object of a write, as a whole
pub bytes_of_written : (s : Scalar) (v : Value) (p : Place) (objects : Objects) → p.object < length objects
    → (object_at (write_value s v p objects) p.object).bytes ≡ overwrite p.offset
    (little_bytes (scalar_size s) v.word) (object_at objects p.object).bytes
unfolding write_value write_bytes write_tag
bytes_of_written (Integer t) v p objects h = ap (λ o. o.bytes) (object_set objects p.object _ h)
bytes_of_written Pointer v p objects h =
    let new = little_bytes 8 v.word in
    let x = record (object_at objects p.object) { bytes = overwrite p.offset new (object_at objects p.object).bytes } in
    let after = set objects p.object x in
    elim (is_aligned p.offset) as (λ b. (object_at (if b then set after p.object
    (record (object_at after p.object) {
      tags = set (object_at after p.object).tags
          (p.offset / 8) v.tag;
    }) else after) p.object).bytes ≡ x.bytes) [
      | true ↦ field_kept (λ o. o.bytes) after p.object p.object _ refl
          ∙ ap (λ o. o.bytes) (object_set objects p.object x h)
      | false ↦ ap (λ o. o.bytes) (object_set objects p.object x h)
    ]

pub written_other : (s : Scalar) (v : Value) (p : Place) (n : ℕ) (objects : Objects) → n ≢ p.object
    → object_at (write_value s v p objects) n ≡ object_at objects n
unfolding write_value write_bytes write_tag
written_other (Integer t) v p n objects h = object_set_other objects p.object n _ h
written_other Pointer v p n objects h =
    let x = record (object_at objects p.object) {
      bytes = overwrite p.offset (little_bytes 8 v.word)
          (object_at objects p.object).bytes;
    } in
    let after = set objects p.object x in
    elim (is_aligned p.offset) as (λ b. object_at (if b then set after p.object
    (record (object_at after p.object) {
      tags = set (object_at after p.object).tags
          (p.offset / 8) v.tag;
    }) else after) n ≡ object_at objects n) [
      | true ↦ object_set_other after p.object n _ h ∙ object_set_other objects p.object n x h
      | false ↦ object_set_other objects p.object n x h
    ]

-- bytes that are written, which leave all else
pub object_of_bytes : (new : List ℕ) (p : Place) (objects : Objects) → p.object < length objects
    → object_at (write_bytes new p objects) p.object ≡ record (object_at objects p.object) {
      bytes = overwrite p.offset new (object_at objects p.object).bytes;
    }
unfolding write_bytes
object_of_bytes new p objects h = object_set objects p.object _ h

pub bytes_other : (new : List ℕ) (p : Place) (n : ℕ) (objects : Objects) → n ≢ p.object
    → object_at (write_bytes new p objects) n ≡ object_at objects n
unfolding write_bytes
bytes_other new p n objects h = object_set_other objects p.object n _ h

-- its tags
tag_kept : (new : List ℕ) (p : Place) (n k : ℕ) (objects : Objects)
    → tag_of n k (write_bytes new p objects) ≡ tag_of n k objects
unfolding write_bytes
tag_kept new p n k objects = ap (λ ts. get_or ts k Untagged) (field_kept (λ o. o.tags) objects p.object n _ refl)

pub tags_after_integer : (t : IntType) (v : Value) (p : Place) (n k : ℕ) (objects : Objects)
    → tag_of n k (write_value (Integer t) v p objects) ≡ tag_of n k objects
unfolding write_value
tags_after_integer t v p n k objects = tag_kept (little_bytes (size_of t) v.word) p n k objects

pub tags_after_misaligned : (v : Value) (p : Place) (n k : ℕ) (objects : Objects) → p.offset % 8 ≢ 0
    → tag_of n k (write_value Pointer v p objects) ≡ tag_of n k objects
unfolding write_value write_tag
tags_after_misaligned v p n k objects h =
    let after = write_bytes (little_bytes 8 v.word) p objects in
    let test : is_aligned p.offset ≡ false = grind (arith, nat_tests) in
    ap (λ b. tag_of n k (if b then set after p.object (record
    (object_at after p.object) {
      tags = set (object_at after p.object).tags
          (p.offset / 8) v.tag;
    }) else after)) test
    ∙ tag_kept (little_bytes 8 v.word) p n k objects

pub tag_after_pointer : {functions : ℕ} (v : Value) (p : Place) (objects : Objects) → IsSound functions objects
    → IsPlace objects p 8
    → p.offset % 8 ≡ 0
    → tag_of p.object (p.offset / 8) (write_value Pointer v p objects) ≡ v.tag
unfolding write_value
tag_after_pointer {functions = functions} v p objects h place aligned =
    let new = little_bytes 8 v.word in
    let after = write_bytes new p objects in
    let there = subst (λ n. IsPlace objects p n) (sym (length-bytes_low_first 0 8 v.word)) place in
    let sound : IsSound functions after = sound_bytes new p objects h there (little_bytes_below 8 v.word) in
    let written = tag_written v.tag p after sound (place_kept objects after p 8 (keeps_bytes new p objects) place) in
    let test : is_aligned p.offset ≡ true = eq-eqb _ _ aligned in
    sym (ap (λ b. if b then tag_of p.object (p.offset / 8) (write_tag v.tag p after) else Untagged) test)
    ∙ written
    ∙ ap (λ b. if b then v.tag else Untagged) test

other_word : (v : Value) (p : Place) (n k : ℕ) (objects : Objects) → k ≢ p.offset / 8
    → tag_of n k (write_value Pointer v p objects) ≡ tag_of n k objects
unfolding write_value write_tag
other_word v p n k objects other =
    let after = write_bytes (little_bytes 8 v.word) p objects in
    let o = object_at after p.object in
    let x = record o { tags = set o.tags (p.offset / 8) v.tag } in
    let P : ObjectState → Type 0 = λ y. get_or y.tags k Untagged ≡ tag_of n k after in
    elim (is_aligned p.offset) as (λ b. tag_of n k (if b then set after p.object x else after) ≡ tag_of n k objects) [
      | true ↦ at_set P no_object after p.object n x
          (λ same. subst (λ m. get_or x.tags k Untagged ≡ tag_of m k after) (sym same)
          (get_or-set_other o.tags (p.offset / 8) k v.tag Untagged other)) refl
          ∙ tag_kept (little_bytes 8 v.word) p n k objects
      | false ↦ tag_kept (little_bytes 8 v.word) p n k objects
    ]

pub tags_after_pointer : (v : Value) (p : Place) (n k : ℕ) (objects : Objects) → (n ≢ p.object) ⊎ (k ≢ p.offset / 8)
    → tag_of n k (write_value Pointer v p objects) ≡ tag_of n k objects
tags_after_pointer v p n k objects (inl other) = ap (λ o. get_or o.tags k Untagged)
    (written_other Pointer v p n objects other)
tags_after_pointer v p n k objects (inr other) = other_word v p n k objects other
