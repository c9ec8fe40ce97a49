-- Structures by value keep objects sound: contents are sound, and have all bytes of the structure.
use Rattle.source_meaning.specs.Good.{PlaceIs, ReachBy, on_pointer, function_count, AreLow, IsGiven, IsOfType, IsWord}
use Rattle.source_meaning.specs.Good.{Any, ArgumentIs, Basis, Context, HasContents, IsTagged, LvalueIs, OnName}
use Rattle.source_meaning.specs.Good.{HasTaken, OnPointer, OnValue, RvalueReach, StructureIs, Sure, ValueIs}
use Rattle.std.proofs.Common.{◌≡◌, ◌≢◌, ℕ, ◌+◌, ◌/◌, ◌%◌, ◌<◌, ◌≤◌, [], ◌∷◌, true, false, ◌==◌, if◌then◌else◌, Option}
use Rattle.std.proofs.Common.{Some, None, length, get_or, take, drop, refl, ◌∙◌, arith, length-take, length-drop}
use Rattle.obj_memory.specs.declared.value.Tag.TheVariants.{Untagged}
use Rattle.obj_memory.specs.declared.value.Value.{Value}
use Rattle.obj_memory.specs.declared.value.Scalar.{Scalar}
use Rattle.obj_memory.specs.declared.value.Scalar.TheVariants.{Integer, Pointer}
use Rattle.obj_memory.specs.declared.value.Place.{Place}
use Rattle.obj_memory.specs.declared.object.Storage.TheVariants.{Automatic}
use Rattle.obj_memory.specs.Objects.{ObjectState, Objects, object_at, new_object}
use Rattle.obj_memory.specs.Access.{is_aligned, moved_tags, move_range, read_value}
use Rattle.obj_memory.specs.Sound.{IsSound, IsSoundObject, IsSoundTag, IsPlace, KeepsObjects}
use Rattle.obj_memory.proofs.Soundness.{sound_set, sound_zeros, sound_overwritten, length-moved_tags, every_moved}
use Rattle.obj_memory.proofs.Keeping.{keeps_set}
use Rattle.obj_memory.proofs.Continuing.{IsLater}
use Rattle.obj_memory.proofs.Listed.{every_take, every_drop}
use Rattle.obj_memory.proofs.Words.{fit_twice}
use Rattle.obj_memory.proofs.Reading.{number_below, object_set, object_set_other}
use Rattle.c_tree.specs.declared.expression.Kind.{Kind}
use Rattle.c_tree.specs.declared.expression.Kind.TheVariants.{Void, Scalar as OfScalar, Structure, Array}
use Rattle.c_tree.specs.Kinds.{size_of_kind}
use Rattle.source_meaning.specs.State.{Rvalue}
use Rattle.source_meaning.specs.Structures.{rvalue, moved_into, contents_of, with_contents, put_range, put_contents}
use Rattle.source_meaning.specs.Structures.{taken, take_value, copy_value, write_rvalue, part_of, read_part}
use Rattle.source_meaning.specs.Structures.{read_rvalue, zero_of}
use Rattle.source_meaning.specs.Keeping.{IsDirect}
use Rattle.source_meaning.proofs.ActionsAct.{continues_put}
use Rattle.source_meaning.proofs.Holding.{direct_kept}
use Rattle.source_meaning.proofs.Sure.{zero_of_kind, zero_of_type, sure_value, sure_on, sure_weak, sure_frame}
use Rattle.source_meaning.proofs.Sure.{sure_done, sure_read, stable_tag, sure_tally, sure_objects, place_value}
use Rattle.source_meaning.proofs.SureActions.{sure_located, sure_store, sure_read_lvalue, sure_copy, IsFound}

-- contents

fresh_sound : (functions : ℕ) (size : ℕ) (objects : Objects)
    → IsSoundObject functions objects (new_object Automatic 0 size)
unfolding new_object
fresh_sound functions size objects = sound_zeros objects (new_object Automatic 0 size) refl

fresh_size : (size : ℕ) → (new_object Automatic 0 size).size ≡ size
unfolding new_object
fresh_size size = refl

moved_size : (size start source : ℕ) (from to : ObjectState) → (moved_into size start source from to).size ≡ to.size
unfolding moved_into
moved_size size start source from to = refl

pub moved_sound : (functions : ℕ) (size start source : ℕ) (from to : ObjectState) (objects : Objects)
    → IsSoundObject functions objects from → IsSoundObject functions objects to
    → start + size ≤ to.size → source + size ≤ from.size
    → IsSoundObject functions objects (moved_into size start source from to)
unfolding moved_into
moved_sound functions size start source from to objects f t room there =
    let long : length (take size (drop source from.bytes))
    ≡ size = omega (
      arith,
      there,
      f.bytes,
      length-take size (drop source from.bytes),
      length-drop source
          from.bytes,
    ) in
    sound_overwritten objects to start (take size (drop source from.bytes)) _ t (omega (arith, room, long))
    (every_take (λ b. b < 256) 0 size (drop source from.bytes) (omega arith)
    (every_drop (λ b. b < 256) 0 source from.bytes f.values))
    (elim (start % 8 == source % 8) as
    (λ b. length (if b then moved_tags size start source from.tags 0 to.tags else to.tags) ≡ to.size / 8) [
      | true ↦ length-moved_tags size start source from.tags 0 to.tags ∙ t.tags
      | false ↦ t.tags
    ])
    (λ k. elim (start % 8 == source % 8) as
    (λ b. IsSoundTag functions objects
    (get_or (if b then moved_tags size start source from.tags 0 to.tags else to.tags) k Untagged)) [
      | true ↦ every_moved (λ t. IsSoundTag functions objects t) size start source from.tags f.tag 0 to.tags t.tag k
      | false ↦ t.tag k
    ])

contents_sound : (functions : ℕ) (size source : ℕ) (from : ObjectState) (objects : Objects)
    → IsSoundObject functions objects from → source + size ≤ from.size
    → HasTaken functions size 0 (contents_of size source from) objects
contents_sound functions size source from objects f there = record {
  sound = moved_sound _ size 0 source from (new_object Automatic 0 size) objects f (fresh_sound _ size objects)
      (omega (arith, fresh_size size)) there;
  whole = moved_size size 0 source from (new_object Automatic 0 size) ∙ fresh_size size;
  first = refl;
}

pub taken_argument : (functions : ℕ) (size source : ℕ) (from : ObjectState) (objects : Objects)
    → IsSoundObject functions objects from → source + size ≤ from.size
    → ArgumentIs functions (Structure size) (with_contents size source from) objects
taken_argument functions size source from objects f there = record
    { tag = tt; structure = contents_sound _ size source from objects f there; word = λ _. omega arith }

pub zero_argument : (functions : ℕ) (kind : Kind) (objects : Objects) → ArgumentIs functions kind (zero_of kind) objects
zero_argument functions Void objects = record { tag = tt; structure = refl; word = zero_of_kind functions Void }
zero_argument functions (OfScalar k) objects = record { tag = tt; structure = refl; word = zero_of_type functions k }
zero_argument functions (Structure n) objects = record {
  tag = tt;
  structure = record { sound = fresh_sound _ n objects; whole = fresh_size n; first = refl };
  word = λ _.
      omega arith;
}
zero_argument functions (Array n) objects = record { tag = tt; structure = refl; word = λ _. omega arith }

-- contents that are moved to a place

pub keeps_put : (size : ℕ) (d : Place) (source : ℕ) (c : ObjectState) (objects : Objects)
    → KeepsObjects objects (put_range size d source c objects)
unfolding put_range moved_into
keeps_put size d source c objects = keeps_set objects d.object _
    (record { storage = refl; address = refl; size = refl; live = refl })

-- the whole object at the place, and the others
pub put_object : (size : ℕ) (d : Place) (source : ℕ) (c : ObjectState) (objects : Objects) → d.object < length objects
    → object_at (put_range size d source c objects) d.object
    ≡ moved_into size d.offset source c (object_at objects d.object)
unfolding put_range
put_object size d source c objects h = object_set objects d.object _ h

pub put_other : (size : ℕ) (d : Place) (source n : ℕ) (c : ObjectState) (objects : Objects) → n ≢ d.object
    → object_at (put_range size d source c objects) n ≡ object_at objects n
unfolding put_range
put_other size d source n c objects h = object_set_other objects d.object n _ h

-- a range of an object is moved as contents are
pub range_is : (size : ℕ) (d s : Place) (objects : Objects)
    → move_range size d s objects ≡ put_range size d s.offset (object_at objects s.object) objects
unfolding move_range put_range moved_into
range_is size d s objects = refl

later_moved : (size start source : ℕ) (from to : ObjectState) → IsLater to (moved_into size start source from to)
unfolding moved_into
later_moved size start source from to = record { storage = refl; address = refl; size = refl; dead = λ x. x }

sound_put : (functions : ℕ) (size : ℕ) (d : Place) (source : ℕ) (c : ObjectState) (objects : Objects)
    → IsSound functions objects → IsPlace objects d size → HasContents functions size source c objects
    → IsSound functions (put_range size d source c objects)
unfolding put_range
sound_put functions size d source c objects h p k =
    sound_set objects d.object _ h (later_moved size d.offset source c (object_at objects d.object))
    (moved_sound _ size d.offset source c (object_at objects d.object) objects k.sound (h.at d.object)
    p.room k.room)

put_sure : {sc : Context} (size : ℕ) (d : Place) (source : ℕ) (c : ObjectState) (q : Value)
    → Sure sc (λ o. HasContents (function_count sc) size source c o × IsFound q size d o) (put_contents size d source c)
    (λ _ o. IsDirect o q size)
put_sure size d source c q =
    sure_on (sure_tally size) (λ _.
    sure_objects (put_range size d source c) (keeps_put size d source c) (continues_put size d source c)
    (λ o h sound. sound_put _ size d source c o sound h.1.0.place h.0)
    (λ o h. direct_kept o (put_range size d source c o) q size (keeps_put size d source c o) h.1.1))

copy_sure : {sc : Context} (b : Basis) (c : Option ObjectState) (n : ℕ) (q : Value) (line : ℕ) (v : Value)
    → Sure sc (λ o. (IsTagged (function_count sc) v o × StructureIs (function_count sc) n c v o)
    × (IsTagged (function_count sc) q o × ReachBy b n q o)) (copy_value c n (on_pointer b) q line v)
    (λ _ o. IsDirect o q n)
copy_sure b None n q line v = sure_copy b n q line v
copy_sure b (Some c) n q line v = sure_on (sure_weak (λ o h. (h.0.1, h.1)) (sure_located b n q line))
    (λ d. put_sure n d v.word c q)

-- a pointer to bytes of an object is a word
pub direct_word : (functions : ℕ) (o : Objects) (v : Value) (n : ℕ) → AreLow o → IsDirect o v n
    → IsWord functions v.word
direct_word functions o v n low d = λ _. let end = low d.object in omega (arith, end, d.end)

-- an lvalue gets a value

pub sure_write_rvalue : {sc : Context} (b : Basis) (kind : Kind) (q : Value) (line : ℕ) (v : Rvalue)
    → Sure sc (λ o. PlaceIs (function_count sc) b kind q o × ValueIs (function_count sc) kind v o)
    (write_rvalue kind (on_pointer b) q line v) (ValueIs (function_count sc) kind)
sure_write_rvalue b Void q line v = sure_done (λ o h. h.1)
sure_write_rvalue {sc = sc} b (OfScalar k) q line v =
    sure_on (sure_on (sure_weak (λ o h. (h.1.word, (h.1.tag, h.0)))
    (sure_frame {P0 = λ o. IsOfType (function_count sc) k v.value} (λ old new l x. x)
    (sure_store b k q line v.value))) (λ _.
    sure_done {Q = IsGiven (function_count sc) (OfScalar k)} {a = v.value} (λ o h. (h.1, h.0))))
    (λ w. sure_done {a = rvalue w} (λ o h. record { tag = h.0; structure = refl; word = h.1 }))
sure_write_rvalue b (Structure n) q line v =
    sure_on (sure_weak (λ o h. (h.0.0, ((h.1.tag, h.1.structure), h.0)))
    (sure_frame (stable_tag _ q) (copy_sure b v.contents n q line v.value))) (λ _.
    sure_value {a = rvalue q}
    (λ s good h. record { tag = h.0; structure = h.1; word = direct_word _ s.objects q n good.low h.1 }))
sure_write_rvalue b (Array n) q line v = sure_done (λ o h. h.1)

-- what an lvalue holds, or a part of contents

part_tag : (functions : ℕ) (k : Scalar) (offset : ℕ) (c : ObjectState) (objects : Objects)
    → IsSoundObject functions objects c
    → IsSoundTag functions objects (read_value k (record { object = 0; offset = offset }) (c ∷ [])).tag
unfolding read_value
part_tag functions (Integer t) offset c objects h = tt
part_tag functions Pointer offset c objects h =
    elim (is_aligned offset) as
    (λ b. IsSoundTag functions objects (if b then get_or c.tags (offset / 8) Untagged else Untagged)) [
      | true ↦ h.tag (offset / 8)
      | false ↦ tt
    ]

part_word : (functions : ℕ) (k : Scalar) (offset : ℕ) (c : ObjectState) (objects : Objects)
    → IsSoundObject functions objects c
    → IsOfType functions k (read_value k (record { object = 0; offset = offset }) (c ∷ []))
unfolding read_value
part_word functions (Integer t) offset c objects h = (refl, fit_twice t _)
part_word functions Pointer offset c objects h =
    λ _. number_below (take 8 (drop offset c.bytes))
    (every_take (λ b. b < 256) 0 8 (drop offset c.bytes) (omega arith)
    (every_drop (λ b. b < 256) 0 offset c.bytes h.values))

part_is : (functions : ℕ) (kind : Kind) (c : ObjectState) (q : Value) (o : Objects) → IsWord functions q.word
    → IsTagged functions q o → HasContents functions (size_of_kind kind) q.word c o
    → ValueIs functions kind (part_of kind c q) o
part_is functions Void c q o w t h = record { tag = tt; structure = refl; word = λ _. omega arith }
part_is functions (OfScalar k) c q o w t h = record
    { tag = part_tag _ k q.word c o h.sound; structure = refl; word = part_word _ k q.word c o h.sound }
part_is functions (Structure n) c q o w t h = record { tag = t; structure = h; word = w }
part_is functions (Array n) c q o w t h = record { tag = tt; structure = refl; word = λ _. omega arith }

abbrev ReadsIf : (functions : ℕ) → Basis → Kind → Option ObjectState → Value → Objects → Type 0
ReadsIf functions b kind c q o = IsTagged functions q o × RvalueReach functions b (size_of_kind kind) c q o
    × IsWord functions q.word

no_contents : {A : Type 0} {c : ObjectState} → Some c ≡ None → A
no_contents e = absurd (cc)

reach_place : (functions : ℕ) (b : Basis) (kind : Kind) (q : Value) (o : Objects)
    → RvalueReach functions b (size_of_kind kind) None q o → ReachBy b (size_of_kind kind) q o
reach_place functions OnName kind q o h = h.1
reach_place functions OnPointer kind q o h = tt
reach_place functions OnValue kind q o h = h

reach_contents : (functions : ℕ) (b : Basis) (kind : Kind) (c : ObjectState) (q : Value) (o : Objects)
    → RvalueReach functions b (size_of_kind kind) (Some c) q o → HasContents functions (size_of_kind kind) q.word c o
reach_contents functions OnName kind c q o h = no_contents h.0
reach_contents functions OnPointer kind c q o h = no_contents h
reach_contents functions OnValue kind c q o h = h

part_sure : {sc : Context} (b : Basis) (kind : Kind) (c : Option ObjectState) (q : Value) (line : ℕ)
    → Sure sc (ReadsIf (function_count sc) b kind c q) (read_part c kind (on_pointer b) q line)
    (ValueIs (function_count sc) kind)
part_sure b kind None q line =
    sure_on (sure_weak (λ o h. ((h.0, reach_place _ b kind q o h.1), h.2)) (sure_read_lvalue b kind q line))
    (λ v. sure_done {a = rvalue v} (λ o h. place_value _ kind v o h))
part_sure b kind (Some c) q line = sure_done {a = part_of kind c q}
    (λ o h. part_is _ kind c q o h.2 h.0 (reach_contents _ b kind c q o h.1))

pub sure_read_rvalue : {sc : Context} (b : Basis) (kind : Kind) (q : Rvalue) (line : ℕ)
    → Sure sc (LvalueIs (function_count sc) b kind q) (read_rvalue kind (on_pointer b) q line)
    (ValueIs (function_count sc) kind)
sure_read_rvalue b kind q line = sure_weak (λ o h. (h.tag, h.reach, h.word)) (part_sure b kind q.contents q.value line)

-- arguments and results

taken_sure : {sc : Context} (c : Option ObjectState) (n : ℕ) (v : Value) (line : ℕ)
    → Sure sc (λ o. IsTagged (function_count sc) v o × StructureIs (function_count sc) n c v o) (taken c n v line)
    (ArgumentIs (function_count sc) (Structure n))
taken_sure None n v line =
    sure_on (sure_weak (λ o h. (tt, (h.0, h.1))) (sure_located {P = Any} OnValue n v line)) (λ p.
    sure_on (sure_tally n) (λ _.
    sure_read {f = λ s. with_contents n p.offset (object_at s.objects p.object)} (λ s good h.
    taken_argument _ n p.offset (object_at s.objects p.object) s.objects
    (good.kept.sound.at p.object) h.1.0.place.room)))
taken_sure (Some c) n v line =
    sure_on (sure_tally n)
    (λ _. sure_done {a = with_contents n v.word c} (λ o h. taken_argument _ n v.word c o h.1.sound h.1.room))

pub take_sure : {sc : Context} (kind : Kind) (line : ℕ) (v : Rvalue)
    → Sure sc (ValueIs (function_count sc) kind v) (take_value kind line v) (ArgumentIs (function_count sc) kind)
take_sure Void line v = sure_done {a = v} (λ o h. record { tag = h.tag; structure = h.structure; word = h.word })
take_sure (OfScalar k) line v = sure_done {a = v}
    (λ o h. record { tag = h.tag; structure = h.structure; word = h.word })
take_sure (Structure n) line v = sure_weak (λ o h. (h.tag, h.structure)) (taken_sure v.contents n v.value line)
take_sure (Array n) line v = sure_done {a = v} (λ o h. record { tag = h.tag; structure = h.structure; word = h.word })
