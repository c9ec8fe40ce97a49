-- What a write leaves: the same objects, so the same judgement and the same places for blocks.
use Rattle.std.proofs.Common.{◌≡◌, ℕ, zero, suc, ◌+◌, ◌-◌, ◌/◌, true, false, if◌then◌else◌, List, [], ◌∷◌, set, refl}
use Rattle.std.proofs.Common.{sym, ◌∙◌, subst, arith, length-set}
use Rattle.obj_memory.specs.declared.value.Tag.{Tag}
use Rattle.obj_memory.specs.declared.value.Tag.TheVariants.{Untagged, OfFunction, OfObject}
use Rattle.obj_memory.specs.declared.value.Value.{Value}
use Rattle.obj_memory.specs.declared.value.Place.{Place}
use Rattle.obj_memory.specs.declared.value.Scalar.{Scalar}
use Rattle.obj_memory.specs.declared.value.Scalar.TheVariants.{Integer, Pointer}
use Rattle.obj_memory.specs.Objects.{ObjectState, Objects, no_object, object_at, with_zeroed}
use Rattle.obj_memory.specs.Judgement.{judge, judged, named, named_in}
use Rattle.obj_memory.specs.Access.{is_aligned, write_bytes, write_tag, write_value, move_range}
use Rattle.obj_memory.specs.Heap.{block_count, is_clear, is_clear_of, is_live_block, least_from, least_place}
use Rattle.obj_memory.specs.Heap.{block_room}
use Rattle.obj_memory.specs.Sound.{KeepsObjects, IsSameBut}
use Rattle.obj_memory.proofs.Listed.{at_set}

same_object : (o : ObjectState) → IsSameBut o o
same_object o = record { storage = refl; address = refl; size = refl; live = refl }

pub keeps_same : (objects : Objects) → KeepsObjects objects objects
keeps_same objects = record { count = refl; at = λ n. same_object _ }

pub keeps_then : (a b c : Objects) → KeepsObjects a b → KeepsObjects b c → KeepsObjects a c
keeps_then a b c p q = record {
  count = q.count ∙ p.count;
  at = λ n. record {
    storage = (q.at n).storage ∙ (p.at n).storage;
    address = (q.at n).address ∙ (p.at n).address;
    size = (q.at n).size ∙ (p.at n).size;
    live = (q.at n).live ∙ (p.at n).live;
  };
}

pub keeps_set : (objects : Objects) (n : ℕ) (x : ObjectState) → IsSameBut (object_at objects n) x
    → KeepsObjects objects (set objects n x)
keeps_set objects n x h = record {
  count = length-set objects n x;
  at = λ m. at_set (λ o. IsSameBut (object_at objects m) o) no_object objects n m x
      (λ e. subst (λ k. IsSameBut (object_at objects k) x) (sym e) h) (same_object _);
}

pub keeps_zeroed : (n : ℕ) (objects : Objects) → KeepsObjects objects (with_zeroed n objects)
unfolding with_zeroed
keeps_zeroed n objects = keeps_set objects n _ (record { storage = refl; address = refl; size = refl; live = refl })

pub keeps_bytes : (new : List ℕ) (p : Place) (objects : Objects) → KeepsObjects objects (write_bytes new p objects)
unfolding write_bytes
keeps_bytes new p objects = keeps_set objects p.object _ (record {
  storage = refl;
  address = refl;
  size = refl;
  live = refl;
})

pub keeps_tag : (t : Tag) (p : Place) (objects : Objects) → KeepsObjects objects (write_tag t p objects)
unfolding write_tag
keeps_tag t p objects =
    let o = object_at objects p.object in
    elim (is_aligned p.offset) as (λ b. KeepsObjects objects (if b then set objects p.object
    (record o { tags = set o.tags (p.offset / 8) t }) else objects)) [
      | true ↦ keeps_set objects p.object _ (record { storage = refl; address = refl; size = refl; live = refl })
      | false ↦ keeps_same objects
    ]

pub keeps_value : (s : Scalar) (v : Value) (p : Place) (objects : Objects)
    → KeepsObjects objects (write_value s v p objects)
unfolding write_value
keeps_value (Integer t) v p objects = keeps_bytes _ p objects
keeps_value Pointer v p objects = keeps_then _ _ _ (keeps_bytes _ p objects) (keeps_tag v.tag p _)

pub keeps_moved : (size : ℕ) (d s : Place) (objects : Objects) → KeepsObjects objects (move_range size d s objects)
unfolding move_range
keeps_moved size d s objects = keeps_set objects d.object _ (record {
  storage = refl;
  address = refl;
  size = refl;
  live = refl;
})

-- the judgement
judged_kept : (old new : Objects) → KeepsObjects old new → (size : ℕ) (t : Tag) (address : ℕ)
    → judged size t address new ≡ judged size t address old
judged_kept old new k size Untagged address = refl
judged_kept old new k size (OfFunction f) address = refl
judged_kept old new k size (OfObject o b) address = rw ((k.at o).live, (k.at o).address)

pub judge_kept : (old new : Objects) → KeepsObjects old new → (size : ℕ) (v : Value)
    → judge size v new ≡ judge size v old
unfolding judge
judge_kept old new k size v = judged_kept old new k size v.tag v.word

named_in_kept : (old new : Objects) → KeepsObjects old new → (t : Tag) (address : ℕ)
    → named_in t address new ≡ named_in t address old
named_in_kept old new k Untagged address = refl
named_in_kept old new k (OfFunction f) address = refl
named_in_kept old new k (OfObject o b) address = rw (k.at o).address

pub named_kept : (old new : Objects) → KeepsObjects old new → (v : Value) → named v new ≡ named v old
unfolding named
named_kept old new k v = named_in_kept old new k v.tag v.word

-- the heap
later : (o x : ObjectState) (os xs : Objects) → KeepsObjects (o ∷ os) (x ∷ xs) → KeepsObjects os xs
later o x os xs k = record { count = omega (arith, k.count); at = λ n. k.at (suc n) }

block_kept : (o x : ObjectState) → IsSameBut o x → is_live_block x ≡ is_live_block o
block_kept o x s = rw (s.storage, s.live)

clear_of_kept : (start room : ℕ) (o x : ObjectState) → IsSameBut o x
    → is_clear_of start room x ≡ is_clear_of start room o
clear_of_kept start room o x s = rw (s.storage, s.live, s.address, s.size)

pub block_count_kept : (old new : Objects) → KeepsObjects old new → block_count new ≡ block_count old
unfolding block_count
block_count_kept [] [] k = refl
block_count_kept [] (x ∷ xs) k = absurd (let e = k.count in omega (arith, e))
block_count_kept (o ∷ os) [] k = absurd (let e = k.count in omega (arith, e))
block_count_kept (o ∷ os) (x ∷ xs) k = rw (block_kept o x (k.at 0), block_count_kept os xs (later o x os xs k))

pub is_clear_kept : (start room : ℕ) (old new : Objects) → KeepsObjects old new
    → is_clear start room new ≡ is_clear start room old
unfolding is_clear
is_clear_kept start room [] [] k = refl
is_clear_kept start room [] (x ∷ xs) k = absurd (let e = k.count in omega (arith, e))
is_clear_kept start room (o ∷ os) [] k = absurd (let e = k.count in omega (arith, e))
is_clear_kept start room (o ∷ os) (x ∷ xs) k = rw (
  clear_of_kept start room o x
      (k.at 0),
  is_clear_kept start room os xs (later o x os xs k),
)

least_from_kept : (count start last room : ℕ) (old new : Objects) → KeepsObjects old new
    → least_from count start last room new ≡ least_from count start last room old
least_from_kept zero start last room old new k = refl
least_from_kept (suc n) start last room old new k =
    rw (is_clear_kept start room old new k, least_from_kept n (start + 16) last room old new k)

pub least_place_kept : (first last size : ℕ) (old new : Objects) → KeepsObjects old new
    → least_place first last size new ≡ least_place first last size old
unfolding least_place
least_place_kept first last size old new k = least_from_kept ((last + 1 - first) / 16) first last
    (block_room size) old new k
