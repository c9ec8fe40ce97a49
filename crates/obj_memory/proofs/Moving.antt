-- What a moved range leaves in its destination and beside it.
use Rattle.std.proofs.Common.{◌≡◌, ◌≢◌, ℕ, zero, suc, ◌+◌, ◌-◌, ◌*◌, ◌/◌, ◌%◌, ◌<◌, ◌≤◌, true, false, ◌==◌, ◌&&◌}
use Rattle.std.proofs.Common.{nat_le, if◌then◌else◌, ◌⊎◌, inl, inr, List, [], ◌∷◌, length, take, drop, get_or, refl}
use Rattle.std.proofs.Common.{ap, sym, ◌∙◌, subst, arith}
use Rattle.std.proofs.lemmas.Bool.{eq-eqb, le-leb}
use Rattle.std.proofs.lemmas.Bool.Decides.{nat_tests}
use Rattle.obj_memory.specs.declared.value.Tag.{Tag}
use Rattle.obj_memory.specs.declared.value.Tag.TheVariants.{Untagged}
use Rattle.obj_memory.specs.declared.value.Place.{Place}
use Rattle.obj_memory.specs.Objects.{ObjectState, Objects, object_at}
use Rattle.obj_memory.specs.Access.{is_word_in, bytes_at, overwrite, moved_tags, move_range}
use Rattle.obj_memory.specs.Sound.{IsSound, IsPlace}
use Rattle.obj_memory.proofs.Listed.{overwrite-read, overwrite-other}
use Rattle.obj_memory.proofs.Soundness.{length-bytes_at}
use Rattle.obj_memory.proofs.Reading.{object_set, object_set_other}

-- the tag of a word after a move
pub get_or-moved_tags : (size start source : ℕ) (from : List Tag) (word : ℕ) (ts : List Tag) (k n : ℕ)
    → word + k ≡ n → k < length ts
    → get_or (moved_tags size start source from word ts) k Untagged
    ≡ (if is_word_in start size n then get_or from ((8 * n - start + source) / 8) Untagged else get_or ts k Untagged)
get_or-moved_tags size start source from word [] k n e h = absurd (omega arith)
get_or-moved_tags size start source from word (t ∷ ts) zero n e h =
    let same : word ≡ n = omega (arith, e) in
    ap (λ w. if is_word_in start size w then get_or from ((8 * w - start + source) / 8) Untagged else t) same
get_or-moved_tags size start source from word (t ∷ ts) (suc k) n e h =
    get_or-moved_tags size start source from (word + 1) ts k n (omega (arith, e)) (omega arith)

-- the object that a move leaves at its destination
abbrev moved_object : (size : ℕ) (d s : Place) (objects : Objects) → ObjectState
moved_object size d s objects =
    let o = object_at objects d.object in
    record o {
      bytes = overwrite d.offset (bytes_at size s objects) o.bytes;
      tags = if d.offset % 8 == s.offset % 8 then moved_tags size d.offset s.offset
          (object_at objects s.object).tags 0 o.tags else o.tags;
    }

pub moved_is : (size : ℕ) (d s : Place) (objects : Objects) → d.object < length objects
    → object_at (move_range size d s objects) d.object ≡ moved_object size d s objects
unfolding move_range
moved_is size d s objects h = object_set objects d.object _ h

-- other objects
pub moved_other : (size : ℕ) (d s : Place) (n : ℕ) (objects : Objects) → n ≢ d.object
    → object_at (move_range size d s objects) n ≡ object_at objects n
unfolding move_range
moved_other size d s n objects h = object_set_other objects d.object n _ h

-- the bytes
pub bytes_moved : {functions : ℕ} (size : ℕ) (d s : Place) (objects : Objects) → IsSound functions objects
    → IsPlace objects d size
    → IsPlace objects s size
    → bytes_at size d (move_range size d s objects) ≡ bytes_at size s objects
bytes_moved size d s objects h to from =
    let o = object_at objects d.object in
    let new = bytes_at size s objects in
    let long : length new ≡ size = length-bytes_at size s objects h from in
    let fits : d.offset + length new ≤ length o.bytes = omega (arith, to.room, long, (h.at d.object).bytes) in
    ap (λ x. take size (drop d.offset x.bytes)) (moved_is size d s objects to.made)
    ∙ subst (λ n. take n (drop d.offset (overwrite d.offset new o.bytes)) ≡ new) long
    (overwrite-read d.offset new o.bytes fits)

beside_move : {functions : ℕ} (size : ℕ) (d s : Place) (objects : Objects) → IsSound functions objects
    → IsPlace objects d size
    → IsPlace objects s size → (i n : ℕ)
    → (i + n ≤ d.offset) ⊎ (d.offset + size ≤ i)
    → take n (drop i (moved_object size d s objects).bytes) ≡ take n (drop i (object_at objects d.object).bytes)
beside_move size d s objects h to from i n apart =
    let o = object_at objects d.object in
    let new = bytes_at size s objects in
    let long : length new ≡ size = length-bytes_at size s objects h from in
    overwrite-other 0 d.offset new o.bytes i n (omega (arith, to.room, long, (h.at d.object).bytes))
    (subst (λ k. (i + n ≤ d.offset) ⊎ (d.offset + k ≤ i)) (sym long) apart)

-- the bytes beside, in the same object
pub bytes_moved_beside : {functions : ℕ} (size : ℕ) (d s : Place) (objects : Objects) (i n : ℕ)
    → IsSound functions objects
    → IsPlace objects d size → IsPlace objects s size
    → (i + n ≤ d.offset) ⊎ (d.offset + size ≤ i)
    → take n (drop i (object_at (move_range size d s objects) d.object).bytes)
    ≡ take n (drop i (object_at objects d.object).bytes)
bytes_moved_beside size d s objects i n h to from apart =
    ap (λ x. take n (drop i x.bytes)) (moved_is size d s objects to.made)
    ∙ beside_move size d s objects h to from i n apart

-- the tag of a whole word of the destination: its source's, where both places are equal modulo 8
pub tag_moved : {functions : ℕ} (size : ℕ) (d s : Place) (k : ℕ) (objects : Objects) → IsSound functions objects
    → IsPlace objects d size
    → d.offset % 8 ≡ s.offset % 8
    → d.offset ≤ 8 * k → 8 * k + 8 ≤ d.offset + size
    → get_or (object_at (move_range size d s objects) d.object).tags k Untagged
    ≡ get_or (object_at objects s.object).tags ((8 * k - d.offset + s.offset) / 8) Untagged
tag_moved size d s k objects h to same ge le =
    let o = object_at objects d.object in
    let from = (object_at objects s.object).tags in
    let within : k < length o.tags = omega (arith, le, to.room, (h.at d.object).tags) in
    ap (λ x. get_or x.tags k Untagged) (moved_is size d s objects to.made)
    ∙ ap (λ b. get_or (if b then moved_tags size d.offset s.offset from 0 o.tags else o.tags) k Untagged)
    (eq-eqb _ _ same)
    ∙ get_or-moved_tags size d.offset s.offset from 0 o.tags k k (omega arith) within
    ∙ ap (λ b. if b && nat_le (8 * k + 8) (d.offset + size) then get_or from
    ((8 * k - d.offset + s.offset) / 8) Untagged else get_or o.tags k Untagged) (le-leb _ _ ge)
    ∙ ap (λ b. if b then get_or from ((8 * k - d.offset + s.offset) / 8) Untagged else get_or o.tags k Untagged)
    (le-leb _ _ le)

get_or-not_moved : (size start source : ℕ) (from : List Tag) (word : ℕ) (ts : List Tag) (k n : ℕ) → word + k ≡ n
    → is_word_in start size n ≡ false
    → get_or (moved_tags size start source from word ts) k Untagged ≡ get_or ts k Untagged
get_or-not_moved size start source from word [] k n e out = refl
get_or-not_moved size start source from word (t ∷ ts) zero n e out =
    let same : word ≡ n = omega (arith, e) in
    ap (λ w. if is_word_in start size w then get_or from ((8 * w - start + source) / 8) Untagged else t) same
    ∙ ap (λ b. if b then get_or from ((8 * n - start + source) / 8) Untagged else t) out
get_or-not_moved size start source from word (t ∷ ts) (suc k) n e out =
    get_or-not_moved size start source from (word + 1) ts k n (omega (arith, e)) out

is_outside : (start size word : ℕ) → (8 * word < start) ⊎ (start + size < 8 * word + 8)
    → is_word_in start size word ≡ false
is_outside start size word h = grind (arith, nat_tests)

-- every other tag stays
pub tag_not_moved : (size : ℕ) (d s : Place) (k : ℕ) (objects : Objects) → d.object < length objects
    → (d.offset % 8 ≢ s.offset % 8) ⊎ ((8 * k < d.offset) ⊎ (d.offset + size < 8 * k + 8))
    → get_or (object_at (move_range size d s objects) d.object).tags k Untagged
    ≡ get_or (object_at objects d.object).tags k Untagged
tag_not_moved size d s k objects h out =
    ap (λ x. get_or x.tags k Untagged) (moved_is size d s objects h) ∙ go out
  where
    go : (d.offset % 8 ≢ s.offset % 8) ⊎ ((8 * k < d.offset) ⊎ (d.offset + size < 8 * k + 8))
        → get_or (if d.offset % 8 == s.offset % 8 then moved_tags size d.offset s.offset
        (object_at objects s.object).tags 0 (object_at objects d.object).tags else
        (object_at objects d.object).tags) k Untagged
        ≡ get_or (object_at objects d.object).tags k Untagged
    go (inl other) =
        let test : (d.offset % 8 == s.offset % 8) ≡ false = grind (arith, nat_tests) in
        ap (λ b. get_or (if b then moved_tags size d.offset s.offset (object_at objects s.object).tags 0
        (object_at objects d.object).tags else (object_at objects d.object).tags) k Untagged) test
    go (inr beside) =
        elim (d.offset % 8 == s.offset % 8) as (λ b. get_or (if b then moved_tags size d.offset s.offset
        (object_at objects s.object).tags 0 (object_at objects d.object).tags else
        (object_at objects d.object).tags) k Untagged ≡ get_or (object_at objects d.object).tags k Untagged) [
          | true ↦ get_or-not_moved size d.offset s.offset (object_at objects s.object).tags 0
              (object_at objects d.object).tags k k (omega arith) (is_outside d.offset size k beside)
          | false ↦ refl
        ]
