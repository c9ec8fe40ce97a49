-- Objects that are made, set to zero and dead.
use Rattle.std.proofs.Common.{◌≡◌, ◌≢◌, ℕ, zero, suc, ◌/◌, ◌<◌, ◌≤◌, true, false, if◌then◌else◌, inl, inr, [], ◌∷◌}
use Rattle.std.proofs.Common.{◌++◌, length, drop, get_or, set, replicate, refl, ap, sym, ◌∙◌, subst, arith}
use Rattle.std.proofs.lemmas.List.{get_or_append_left}
use Rattle.obj_memory.specs.declared.object.Storage.{Storage}
use Rattle.obj_memory.specs.declared.object.Storage.TheVariants.{Static, Automatic, Allocated}
use Rattle.obj_memory.specs.declared.value.Tag.TheVariants.{Untagged}
use Rattle.obj_memory.specs.declared.value.Place.{Place}
use Rattle.obj_memory.specs.declared.value.Scalar.{Scalar}
use Rattle.obj_memory.specs.declared.value.Scalar.TheVariants.{Integer, Pointer}
use Rattle.obj_memory.specs.Integers.{size_of, fit}
use Rattle.obj_memory.specs.Objects.{ObjectState, Objects, no_object, object_at, new_object, with_new, with_dead}
use Rattle.obj_memory.specs.Objects.{with_zeroed}
use Rattle.obj_memory.specs.Access.{is_aligned, bytes_at, tag_at, read_value}
use Rattle.byteorder.specs.Endian.{little_number}
use Rattle.obj_memory.specs.Sound.{KeepsObjects, AreBeside, AreDisjoint, DoNotMeet}
use Rattle.obj_memory.specs.Heap.{object_room}
use Rattle.obj_memory.proofs.Listed.{at_set, at_added, every_replicate, every_take, every_drop}
use Rattle.obj_memory.proofs.Reading.{object_set, object_set_other}
use Rattle.obj_memory.proofs.Words.{fit_zero}
use Rattle.obj_memory.proofs.Bytes.{zeros_number}

-- a new object stands at the end
added_last : (objects : Objects) (x : ObjectState) → object_at (objects ++ (x ∷ [])) (length objects) ≡ x
added_last [] x = refl
added_last (o ∷ os) x = added_last os x

pub new_last : (storage : Storage) (address size : ℕ) (objects : Objects)
    → object_at (with_new storage address size objects) (length objects) ≡ new_object storage address size
unfolding with_new
new_last storage address size objects = added_last objects (new_object storage address size)

pub new_other : (storage : Storage) (address size n : ℕ) (objects : Objects) → n < length objects
    → object_at (with_new storage address size objects) n ≡ object_at objects n
unfolding with_new
new_other storage address size n objects h = get_or_append_left objects
    (new_object storage address size ∷ []) no_object n h

-- death
pub dead_is_dead : (n : ℕ) (objects : Objects) → (object_at (with_dead n objects) n).is_live ≡ false
unfolding with_dead
dead_is_dead n objects = go objects n (object_at objects n)
  where
    go : (os : Objects) (m : ℕ) (o : ObjectState) → (object_at (set os m (record o { is_live = false })) m).is_live
        ≡ false
    go [] m o = refl
    go (x ∷ xs) zero o = refl
    go (x ∷ xs) (suc m) o = go xs m o

pub dead_other : (n m : ℕ) (objects : Objects) → m ≢ n → object_at (with_dead n objects) m ≡ object_at objects m
unfolding with_dead
dead_other n m objects h = object_set_other objects n m _ h

pub zeroed_other : (n m : ℕ) (objects : Objects) → m ≢ n → object_at (with_zeroed n objects) m ≡ object_at objects m
unfolding with_zeroed
zeroed_other n m objects h = object_set_other objects n m _ h

-- the whole object
pub dead_object : (n : ℕ) (objects : Objects) → n < length objects
    → object_at (with_dead n objects) n ≡ record (object_at objects n) { is_live = false }
unfolding with_dead
dead_object n objects h = object_set objects n _ h

pub zeroed_object : (n : ℕ) (objects : Objects) → n < length objects
    → object_at (with_zeroed n objects) n ≡ record (object_at objects n) {
      bytes = replicate (object_at objects n).size 0;
      tags = replicate ((object_at objects n).size / 8) Untagged;
    }
unfolding with_zeroed
zeroed_object n objects h = object_set objects n _ h

-- zero bytes
pub record HasZeros (o : ObjectState) : Type 0 where
  pub bytes : (k : ℕ) → get_or o.bytes k 0 ≡ 0
  pub tags : (k : ℕ) → get_or o.tags k Untagged ≡ Untagged

zeros_read : (s : Scalar) (p : Place) (objects : Objects) → HasZeros (object_at objects p.object)
    → read_value s p objects ≡ record { word = 0; tag = Untagged }
unfolding read_value
zeros_read (Integer t) p objects z =
    let o = object_at objects p.object in
    let number : little_number (size_of t) (bytes_at (size_of t) p objects) ≡ 0 =
    zeros_number (size_of t) _ (every_take (λ b. b ≡ 0) 0 (size_of t) (drop p.offset o.bytes) refl
    (every_drop (λ b. b ≡ 0) 0 p.offset o.bytes z.bytes)) in
    ap (λ n. record { word = fit t n; tag = Untagged }) number
    ∙ ap (λ n. record { word = n; tag = Untagged }) (fit_zero t)
zeros_read Pointer p objects z =
    let o = object_at objects p.object in
    let number : little_number 8 (bytes_at 8 p objects) ≡ 0 =
    zeros_number 8 _ (every_take (λ b. b ≡ 0) 0 8 (drop p.offset o.bytes) refl
    (every_drop (λ b. b ≡ 0) 0 p.offset o.bytes z.bytes)) in
    let tag : tag_at p objects ≡ Untagged =
    elim (is_aligned p.offset) as (λ b. (if b then get_or o.tags (p.offset / 8) Untagged else Untagged) ≡ Untagged) [
      | true ↦ z.tags (p.offset / 8)
      | false ↦ refl
    ] in
    ap (λ n. record { word = n; tag = tag_at p objects }) number ∙ ap (λ t. record { word = 0; tag = t }) tag

replicated : (o : ObjectState) (n k : ℕ) → HasZeros (record o { bytes = replicate n 0; tags = replicate k Untagged })
replicated o n k = record {
  bytes = every_replicate (λ b. b ≡ 0) 0 n 0 refl refl;
  tags = every_replicate (λ t. t ≡ Untagged) Untagged k Untagged refl refl;
}

pub new_reads_zero : (storage : Storage) (address size : ℕ) (s : Scalar) (p : Place) (objects : Objects)
    → p.object ≡ length objects
    → read_value s p (with_new storage address size objects) ≡ record { word = 0; tag = Untagged }
unfolding new_object
new_reads_zero storage address size s p objects e =
    let o = new_object storage address size in
    let there : object_at (with_new storage address size objects) p.object ≡ o =
    ap (λ n. object_at (with_new storage address size objects) n) e ∙ new_last storage address size objects in
    zeros_read s p (with_new storage address size objects) (subst HasZeros (sym there) (replicated o size (size / 8)))

pub zeroed_reads_zero : (s : Scalar) (p : Place) (objects : Objects) → p.object < length objects
    → read_value s p (with_zeroed p.object objects) ≡ record { word = 0; tag = Untagged }
unfolding with_zeroed
zeroed_reads_zero s p objects h =
    let o = object_at objects p.object in
    zeros_read s p _ (subst HasZeros (sym (object_set objects p.object _ h)) (replicated o o.size (o.size / 8)))

-- live objects that share no address
pub disjoint_kept : (old new : Objects) → KeepsObjects old new → AreDisjoint old → AreDisjoint new
disjoint_kept old new k d = record {
  apart = λ m n other lm ln.
      let h = d.apart m n other (sym (k.at m).live ∙ lm) (sym (k.at n).live ∙ ln) in
      rw ((k.at m).address, (k.at m).size, (k.at m).storage, (k.at n).address, (k.at n).size, (k.at n).storage) h;
}

-- an object that stays where it is, and is live only if it was
record IsNoMoreLive (old new : ObjectState) : Type 0 where
  storage : new.storage ≡ old.storage
  address : new.address ≡ old.address
  size : new.size ≡ old.size
  live : new.is_live ≡ true → old.is_live ≡ true

no_more_live : (n m : ℕ) (objects : Objects) → IsNoMoreLive (object_at objects m) (object_at (with_dead n objects) m)
unfolding with_dead
no_more_live n m objects =
    at_set (λ o. IsNoMoreLive (object_at objects m) o) no_object objects n m
    (record (object_at objects n) { is_live = false })
    (λ e. record {
      storage = ap (λ k. (object_at objects k).storage) (sym e);
      address = ap (λ k. (object_at objects k).address) (sym e);
      size = ap (λ k. (object_at objects k).size) (sym e);
      live = λ h. absurd cc;
    })
    (record { storage = refl; address = refl; size = refl; live = λ h. h })

pub disjoint_dead : (n : ℕ) (objects : Objects) → AreDisjoint objects → AreDisjoint (with_dead n objects)
disjoint_dead n objects d = record {
  apart = λ m k other lm lk.
      let a = no_more_live n m objects in
      let b = no_more_live n k objects in
      let h = d.apart m k other (a.live lm) (b.live lk) in
      rw (a.storage, a.address, a.size, b.storage, b.address, b.size) h;
}

-- an object takes the bytes that it has
fits_by : (storage : Storage) (size : ℕ) → size ≤ object_room storage size
fits_by Static size = omega arith
fits_by Automatic size = omega arith
fits_by Allocated size = omega arith

beside_bytes : (o x : ObjectState) → AreBeside o x → DoNotMeet o.address o.size x.address x.size
beside_bytes o x (inl before) = inl (omega (arith, before, fits_by o.storage o.size))
beside_bytes o x (inr behind) = inr (omega (arith, behind, fits_by x.storage x.size))

pub disjoint_bytes : (objects : Objects) → AreDisjoint objects → (m n : ℕ) → m ≢ n
    → (object_at objects m).is_live ≡ true
    → (object_at objects n).is_live ≡ true
    → DoNotMeet (object_at objects m).address (object_at objects m).size (object_at objects n).address
    (object_at objects n).size
disjoint_bytes objects d m n other lm ln =
    beside_bytes (object_at objects m) (object_at objects n) (d.apart m n other lm ln)

swapped : (a s b t : ℕ) → DoNotMeet a s b t → DoNotMeet b t a s
swapped a s b t (inl before) = inr before
swapped a s b t (inr behind) = inl behind

-- two objects that share no address if they are live
Apart : (o x : ObjectState) → Type 0
Apart o x = o.is_live ≡ true → x.is_live ≡ true → AreBeside o x

apart_added : (objects : Objects) (x : ObjectState) → AreDisjoint objects
    → ((n : ℕ) → Apart x (object_at objects n)) → (m n : ℕ) → m ≢ n
    → Apart (object_at (objects ++ (x ∷ [])) m) (object_at (objects ++ (x ∷ [])) n)
unfolding Apart
apart_added objects x d clear m n other =
    at_added (λ o. Apart o (object_at (objects ++ (x ∷ [])) n)) no_object objects m x
    (λ e. at_added (λ q. Apart x q) no_object objects n x (λ f. absurd (other (e ∙ sym f))) (clear n))
    (at_added (λ q. Apart (object_at objects m) q) no_object objects n x
    (λ f lm lx. swapped x.address (object_room x.storage x.size) _ _ (clear m lx lm))
    (d.apart m n other))

pub disjoint_new : (storage : Storage) (address size : ℕ) (objects : Objects) → AreDisjoint objects
    → ((n : ℕ) → (object_at objects n).is_live ≡ true → AreBeside (new_object storage address size)
    (object_at objects n))
    → AreDisjoint (with_new storage address size objects)
unfolding with_new Apart new_object
disjoint_new storage address size objects d clear = record {
  apart = apart_added objects (new_object storage address size) d (λ n lx ln. clear n ln);
}
