-- What a judgement tells of an access.
use Rattle.std.proofs.Common.{◌≡◌, ℕ, ◌+◌, ◌<◌, ◌≤◌, ◌%◌, ◌^◌, Bool, true, false, ◌&&◌, nat_le, if◌then◌else◌, length}
use Rattle.std.proofs.Common.{refl, subst, arith}
use Rattle.std.proofs.lemmas.Bool.{leb-true}
use Rattle.obj_memory.specs.declared.value.Bounds.{Bounds}
use Rattle.obj_memory.specs.declared.value.Tag.{Tag}
use Rattle.obj_memory.specs.declared.value.Tag.TheVariants.{Untagged, OfFunction, OfObject}
use Rattle.obj_memory.specs.declared.value.Value.{Value}
use Rattle.obj_memory.specs.declared.value.Place.{Place}
use Rattle.obj_memory.specs.declared.judgement.Verdict.TheVariants.{Outside, Dead, Inside}
use Rattle.obj_memory.specs.Objects.{Objects, object_at, pointer_to}
use Rattle.obj_memory.specs.Judgement.{are_within, place_in, judged, judge, moved, narrowed, narrowed_tag}
use Rattle.obj_memory.specs.Sound.{IsPartOf, IsSoundTag, IsAllowed}

record IsGranted (b : Bounds) (a size : ℕ) (live : Bool) (q p : Place) : Type 0 where
  base : b.base ≤ a
  bound : a + size ≤ b.bound
  alive : live ≡ true
  place : q ≡ p

granted : (b : Bounds) (a size : ℕ) (live : Bool) (q p : Place)
    → (if are_within b a size then (if live then Inside q else Dead) else Outside) ≡ Inside p
    → IsGranted b a size live q p
granted b a size live q p e = go (nat_le b.base a) (nat_le (a + size) b.bound) live refl refl refl e
  where
    go : (x y l : Bool) → nat_le b.base a ≡ x → nat_le (a + size) b.bound ≡ y → live ≡ l
        → (if x && y then (if l then Inside q else Dead) else Outside) ≡ Inside p → IsGranted b a size live q p
    go true true true ex ey el h = record { base = leb-true _ _ ex; bound = leb-true _ _ ey; alive = el; place = cc }
    go true true false ex ey el h = absurd cc
    go true false l ex ey el h = absurd cc
    go false y l ex ey el h = absurd cc

judged_inside : (functions : ℕ) (objects : Objects) (size : ℕ) (t : Tag) (a : ℕ) (p : Place)
    → IsSoundTag functions objects t
    → judged size t a objects ≡ Inside p
    → IsAllowed objects (record { word = a; tag = t }) size p
judged_inside functions objects size Untagged a p h e = absurd cc
judged_inside functions objects size (OfFunction f) a p h e = absurd cc
judged_inside functions objects size (OfObject o b) a p h e =
    let g = granted b a size (object_at objects o).is_live (place_in objects o a) p e in
    subst (λ q. IsAllowed objects (record { word = a; tag = OfObject o b }) size q) g.place (record {
      place = record {
        made = h.made;
        room = omega (arith, h.base, h.bound, g.base, g.bound);
      };
      live = g.alive;
      address = omega (arith, h.base, g.base);
    })

-- an access that is judged to be inside is of bytes of a live object, those at its address
pub judge_inside : (functions : ℕ) (objects : Objects) (size : ℕ) (v : Value) (p : Place)
    → IsSoundTag functions objects v.tag
    → judge size v objects ≡ Inside p → IsAllowed objects v size p
unfolding judge
judge_inside functions objects size v p h e = judged_inside functions objects size v.tag v.word p h e

pub sound_pointer : (functions : ℕ) (n : ℕ) (objects : Objects) → n < length objects
    → (object_at objects n).address + (object_at objects n).size < 2 ^ 64
    → IsSoundTag functions objects (pointer_to n objects).tag
unfolding pointer_to
sound_pointer functions n objects h low = record {
  made = h;
  base = omega arith;
  bound = omega arith;
  base_word = omega arith;
  bound_word = omega arith;
}

narrowed_tag_sound : (functions : ℕ) (objects : Objects) (a size : ℕ) (t : Tag) → a < 2 ^ 64
    → IsSoundTag functions objects t
    → IsSoundTag functions objects (narrowed_tag a size t)
narrowed_tag_sound functions objects a size Untagged w h = tt
narrowed_tag_sound functions objects a size (OfFunction f) w h = h
narrowed_tag_sound functions objects a size (OfObject o b) w h = record {
  made = h.made;
  base = omega (arith, h.base);
  bound = omega (arith, h.bound);
  base_word = omega (arith, h.base_word, w);
  bound_word = omega (arith, h.bound_word);
}

pub sound_narrowed : (functions : ℕ) (objects : Objects) (offset size : ℕ) (v : Value)
    → IsSoundTag functions objects v.tag
    → IsSoundTag functions objects (narrowed offset size v).tag
unfolding narrowed
sound_narrowed functions objects offset size v h =
    narrowed_tag_sound functions objects ((v.word + offset) % 2 ^ 64) size v.tag (omega arith) h

pub sound_offset : (functions : ℕ) (objects : Objects) (offset : ℕ) (v : Value) → IsSoundTag functions objects v.tag
    → IsSoundTag functions objects (moved offset v).tag
unfolding moved
sound_offset functions objects offset v h = h

narrowed_tag_part : (a size : ℕ) (t : Tag) → IsPartOf (narrowed_tag a size t) t
narrowed_tag_part a size Untagged = tt
narrowed_tag_part a size (OfFunction f) = refl
narrowed_tag_part a size (OfObject o b) = (refl, omega arith, omega arith)

pub narrowed_part : (offset size : ℕ) (v : Value) → IsPartOf (narrowed offset size v).tag v.tag
unfolding narrowed
narrowed_part offset size v = narrowed_tag_part ((v.word + offset) % 2 ^ 64) size v.tag
