-- What stands in memory at an access of a live object.
use Rattle.std.proofs.Common.{◌≡◌, ◌≢◌, ℕ, zero, suc, ◌+◌, ◌-◌, ◌*◌, ◌/◌, ◌%◌, ◌^◌, ◌<◌, ◌≤◌, List, drop, true}
use Rattle.std.proofs.Common.{if◌then◌else◌, get_or, refl, sym, ap, ◌∙◌, subst, arith}
use Rattle.std.specs.Prelude.{nat_le}
use Rattle.std.proofs.lemmas.Bool.{eq-eqb, ne_eqb, and_from, le-leb}
use Rattle.std.proofs.lemmas.List.{get_or-drop, get_or-take}
use Rattle.byteorder.specs.Endian.{little_from, little_number}
use Rattle.addr_map.specs.declared.region.Region.TheVariants.{Heap}
use Rattle.addr_map.specs.Places.{MapSizes, objects_begin, region_end}
use Rattle.rv_isa.specs.Results.{load_bytes, extended}
use Rattle.obj_memory.specs.declared.int_type.IntType.{IntType}
use Rattle.obj_memory.specs.declared.int_type.IntType.TheVariants.{Char, SignedChar, UnsignedChar, Short}
use Rattle.obj_memory.specs.declared.int_type.IntType.TheVariants.{UnsignedShort, Int, UnsignedInt, Long}
use Rattle.obj_memory.specs.declared.int_type.IntType.TheVariants.{UnsignedLong, LongLong, UnsignedLongLong}
use Rattle.obj_memory.specs.declared.value.Value.{Value}
use Rattle.obj_memory.specs.declared.value.Tag.TheVariants.{Untagged}
use Rattle.obj_memory.specs.declared.value.Place.{Place}
use Rattle.obj_memory.specs.Integers.{size_of, fit}
use Rattle.obj_memory.specs.Objects.{Objects, object_at}
use Rattle.obj_memory.specs.Access.{bytes_at, tag_of, tag_at}
use Rattle.obj_memory.specs.Sound.{IsAllowed}
use Rattle.flat_code.specs.Memory.{Bytes, load}
use Rattle.flat_code.specs.Spaces.{is_of_objects, is_allowed}
use Rattle.flat_code.specs.Routines.Metadata.{no_metadata, IsObjectWord}
use Rattle.flat_code.proofs.Routines.Regions.{IsLaidOut}
use Rattle.flat_code.specs.Routines.Objects.StandsFor.{Views, Keys, spell, StandsFor}
use Rattle.lib_wrappers.specs.AccessRoutines.Accessing.{load_op}

-- ---- numbers

-- the number that some bytes spell
pub number_loaded : (n i : ℕ) (m : Bytes) (a : ℕ) (bs : List ℕ) → ((j : ℕ) → j < n → m (a + j) ≡ get_or bs (i + j) 0)
    → load n m a ≡ little_from i n bs
unfolding load
number_loaded zero i m a bs h = refl
number_loaded (suc n) i m a bs h =
    let first : m a ≡ get_or bs i 0 =
    (let e : a + 0 ≡ a = omega arith in let f : i + 0 ≡ i = omega arith in
    subst (λ k. m k ≡ get_or bs i 0) e (subst (λ k. m (a + 0) ≡ get_or bs k 0) f (h 0 (omega arith)))) in
    let rest = number_loaded n (suc i) m (suc a) bs (λ j l.
    (let e : a + suc j ≡ suc a + j = omega arith in let f : i + suc j ≡ suc i + j = omega arith in
    subst (λ k. m k ≡ get_or bs (suc i + j) 0) e
    (subst (λ k. m (a + suc j) ≡ get_or bs k 0) f (h (suc j) (omega arith))))) in
    ap (λ z. z + 256 * load n m (suc a)) first ∙ ap (λ z. get_or bs i 0 + 256 * z) rest

-- the instruction of a type loads as many bytes as the type has
pub load_size : (t : IntType) → load_bytes (load_op t) ≡ size_of t
unfolding load_op size_of
load_size Char = refl
load_size SignedChar = refl
load_size UnsignedChar = refl
load_size Short = refl
load_size UnsignedShort = refl
load_size Int = refl
load_size UnsignedInt = refl
load_size Long = refl
load_size UnsignedLong = refl
load_size LongLong = refl
load_size UnsignedLongLong = refl

-- and fills a register as the conversion to the type does
pub load_fits : (t : IntType) (n : ℕ) → n < 256 ^ size_of t → extended (load_op t) n ≡ fit t n
unfolding load_op size_of extended fit
load_fits Char n l = omega arith
load_fits SignedChar n l = let e : n % 2 ^ 8 ≡ n = omega arith in ap
    (λ k. if nat_le (2 ^ 7) k then k + (2 ^ 64 - 2 ^ 8) else k) (sym e)
load_fits UnsignedChar n l = omega arith
load_fits Short n l = let e : n % 2 ^ 16 ≡ n = omega arith in ap
    (λ k. if nat_le (2 ^ 15) k then k + (2 ^ 64 - 2 ^ 16) else k) (sym e)
load_fits UnsignedShort n l = omega arith
load_fits Int n l = let e : n % 2 ^ 32 ≡ n = omega arith in ap
    (λ k. if nat_le (2 ^ 31) k then k + (2 ^ 64 - 2 ^ 32) else k) (sym e)
load_fits UnsignedInt n l = omega arith
load_fits Long n l = omega arith
load_fits UnsignedLong n l = omega arith
load_fits LongLong n l = omega arith
load_fits UnsignedLongLong n l = omega arith

-- ---- places

module _ (g : Views) (k : Keys) (objects : Objects) (m : Bytes) (ok : IsLaidOut g.sizes) (st : StandsFor g k objects m)
    (v : Value) (n : ℕ) (p : Place) (a : IsAllowed objects v n p) where
  -- the bytes lie in object space
  pub lies_first : objects_begin ≤ v.word
  lies_first = let at = a.address in let f = (st.placed p.object a.live).first in omega arith

  pub lies_last : v.word + n ≤ region_end g.sizes Heap
  lies_last =
      let at = a.address in let room = a.place.room in let l = (st.placed p.object a.live).last in omega arith

  pub of_objects : is_of_objects g.sizes v.word n ≡ true
  of_objects =
      and_from (nat_le objects_begin v.word) (nat_le (v.word + n) (region_end g.sizes Heap))
      (le-leb objects_begin v.word lies_first) (le-leb (v.word + n) (region_end g.sizes Heap) lies_last)

  -- each of them is in memory
  pub byte_there : (j : ℕ) → j < n → m (v.word + j) ≡ get_or (object_at objects p.object).bytes (p.offset + j) 0
  byte_there j l =
      let room = a.place.room in let at = a.address in
      let o = object_at objects p.object in
      let e : o.address + (p.offset + j) ≡ v.word + j = omega arith in
      subst (λ b. m b ≡ get_or o.bytes (p.offset + j) 0) e ((st.here p.object a.live).bytes (p.offset + j)
      (omega arith))

  -- and so is the number that they spell
  pub number_there : load n m v.word ≡ little_number n (bytes_at n p objects)
  number_there =
      let o = object_at objects p.object in
      number_loaded n 0 m v.word (bytes_at n p objects) (λ j l.
      let e : j ≡ 0 + j = omega arith in
      subst (λ i. m (v.word + j) ≡ get_or (bytes_at n p objects) i 0) e
      (byte_there j l ∙ sym (get_or-drop p.offset o.bytes j 0)
      ∙ sym (get_or-take n (drop p.offset o.bytes) j 0 (omega arith))))

  aligned_as : v.word % 8 ≡ p.offset % 8
  aligned_as = let z = (st.sound.at p.object).aligned in let at = a.address in omega arith

  -- where a word begins there, its entry is that of its tag
  pub word_there : 8 ≤ n → v.word % 8 ≡ 0 → IsObjectWord g.sizes v.word
  word_there big e = record {
    first = lies_first;
    last = let l = lies_last in omega arith;
    aligned = e;
  }

  pub entry_there : 8 ≤ n → v.word % 8 ≡ 0 → g.entry m v.word ≡ spell g k (tag_at p objects)
  entry_there big e =
      let o = object_at objects p.object in
      let off : p.offset % 8 ≡ 0 = sym aligned_as ∙ e in
      let room = a.place.room in let at = a.address in
      let w = p.offset / 8 in
      let is : o.address + 8 * w ≡ v.word = omega arith in
      let t : tag_at p objects ≡ get_or o.tags w Untagged =
      ap (λ b. if b then tag_of p.object (p.offset / 8) objects else Untagged) (eq-eqb (p.offset % 8) 0 off) in
      ap (g.entry m) (sym is) ∙ (st.here p.object a.live).tags w (omega arith) ∙ ap (spell g k) (sym t)

  -- and elsewhere there is no tag
  pub none_there : v.word % 8 ≢ 0 → no_metadata ≡ spell g k (tag_at p objects)
  none_there ne =
      let t : tag_at p objects ≡ Untagged =
      ap (λ b. if b then tag_of p.object (p.offset / 8) objects else Untagged)
      (ne_eqb (p.offset % 8) 0 (λ e. ne (aligned_as ∙ e))) in
      ap (spell g k) (sym t)

pub access_allowed : (s : MapSizes) (a n : ℕ) → is_of_objects s a n ≡ true → is_allowed s a n ≡ true
access_allowed s a n e = rw e
