-- Loads, stores, fetches and buffers in the four segments.
use Rattle.std.proofs.Common.{◌≡◌, ℕ, zero, suc, ◌+◌, ◌-◌, ◌<◌, ◌≤◌, inl, inr, ⊎_elim}
use Rattle.std.proofs.Common.{List, [], ◌∷◌, length, take, drop, Some, true, false, refl, sym, ap, ◌∙◌, subst, arith}
use Rattle.std.specs.Prelude.{slice_index, slice_get, slice_set}
use Rattle.std.proofs.lemmas.Bool.{le-leb, lt-leb, lt-ltb, le-ltb}
use Rattle.byteorder.specs.Endian.{little_number}
use Rattle.addr_map.specs.Places.{functions_begin, code_begin, objects_begin, spaces_begin}
use Rattle.flat_code.specs.Memory.{Bytes, load as load_of, store as store_of}
use Rattle.flat_code.proofs.Stored.{store_beside}
use Rattle.rv_sim.specs.Memory.{SegmentState, holds, covers, place_of, load, store, fetch, bytes_at, may_write}
use Rattle.machine_laws.specs.View.Segments.{code_segment, data_segment, segments, AreApart, Hold, IsOfData}
use Rattle.machine_laws.specs.View.Views.{bytes_from}
use Rattle.machine_laws.proofs.View.Numbers.{StandAt, number_is_load, with_number_at, length-with_number_at}
use Rattle.machine_laws.proofs.View.Numbers.{stored_stands}

-- an address in a segment, before it and behind it
pub within : (s : SegmentState) (a : ℕ) → s.address ≤ a → a < s.address + length s.bytes → holds s a ≡ true
within s a l h = rw (le-leb s.address a l, lt-ltb (a - s.address) (length s.bytes) (omega arith)) refl

before : (s : SegmentState) (a : ℕ) → a < s.address → holds s a ≡ false
before s a l = rw (lt-leb s.address a l) refl

behind : (s : SegmentState) (a : ℕ) → s.address + length s.bytes ≤ a → holds s a ≡ false
behind s a l = rw (le-leb s.address a (omega arith), le-ltb (a - s.address) (length s.bytes) (omega arith)) refl

covered : (s : SegmentState) (a n : ℕ) → s.address ≤ a → a + n ≤ s.address + length s.bytes → covers s a n ≡ true
covered s a n l h = le-leb (a - s.address + n) (length s.bytes) (omega arith)

-- the place of the first of four segments that holds an address
first : (s0 s1 s2 s3 : SegmentState) (a : ℕ) → holds s0 a ≡ true → place_of (s0 ∷ s1 ∷ s2 ∷ s3 ∷ []) a ≡ Some 0
unfolding place_of
first s0 s1 s2 s3 a e = rw e refl

second : (s0 s1 s2 s3 : SegmentState) (a : ℕ) → holds s0 a ≡ false → holds s1 a ≡ true
    → place_of (s0 ∷ s1 ∷ s2 ∷ s3 ∷ []) a ≡ Some 1
unfolding place_of
second s0 s1 s2 s3 a e f = rw (e, f) refl

third : (s0 s1 s2 s3 : SegmentState) (a : ℕ) → holds s0 a ≡ false → holds s1 a ≡ false → holds s2 a ≡ true
    → place_of (s0 ∷ s1 ∷ s2 ∷ s3 ∷ []) a ≡ Some 2
unfolding place_of
third s0 s1 s2 s3 a e f g = rw (e, f, g) refl

fourth : (s0 s1 s2 s3 : SegmentState) (a : ℕ) → holds s0 a ≡ false → holds s1 a ≡ false → holds s2 a ≡ false
    → holds s3 a ≡ true → place_of (s0 ∷ s1 ∷ s2 ∷ s3 ∷ []) a ≡ Some 3
unfolding place_of
fourth s0 s1 s2 s3 a e f g h = rw (e, f, g, h) refl

-- a data segment that is found, whose bytes stand in a memory, and an access that it covers
pub record Found (memory : List SegmentState) (place : ℕ) (s : SegmentState) (m : Bytes) (a n : ℕ) : Type 0 where
  pub place_is : place_of memory a ≡ Some place
  pub is : slice_get memory place ≡ Some s
  pub readable : s.readable ≡ true
  pub writable : s.writable ≡ true
  pub low : s.address ≤ a
  pub high : a + n ≤ s.address + length s.bytes
  pub stand : StandAt m s.address s.bytes

load_found : (memory : List SegmentState) (place : ℕ) (s : SegmentState) (m : Bytes) (a n : ℕ)
    → Found memory place s m a n → load memory a n ≡ Some (load_of n m a)
unfolding load
load_found memory place s m a n f =
    let e : s.address + (a - s.address) ≡ a = omega (arith, f.low) in
    let p = f.place_is in
    let i = f.is in
    let r = f.readable in
    let c = covered s a n f.low f.high in
    rw (p, i, r, c) (ap Some
    (number_is_load n (a - s.address) s.bytes m s.address f.stand (omega (arith, f.low, f.high))
    ∙ ap (load_of n m) e))

store_found : (memory : List SegmentState) (place : ℕ) (s : SegmentState) (m : Bytes) (a n v : ℕ)
    → Found memory place s m a n → store memory a n v
    ≡ Some (slice_set memory place (record s { bytes = with_number_at n (a - s.address) v s.bytes }))
unfolding store
store_found memory place s m a n v f =
    let p = f.place_is in
    let i = f.is in
    let w = f.writable in
    let c = covered s a n f.low f.high in
    rw (p, i, w, c) refl

stands_found : (memory : List SegmentState) (place : ℕ) (s : SegmentState) (m : Bytes) (a n v : ℕ)
    → Found memory place s m a n → StandAt (store_of n m a v) s.address (with_number_at n (a - s.address) v s.bytes)
stands_found memory place s m a n v f =
    let e : s.address + (a - s.address) ≡ a = omega (arith, f.low) in
    subst (λ b. StandAt (store_of n m b v) s.address (with_number_at n (a - s.address) v s.bytes)) e
    (stored_stands n (a - s.address) v s.bytes m s.address (omega (arith, f.low, f.high)) f.stand)

take_more : (n : ℕ) (bytes : List ℕ) (o : ℕ) → o < length bytes
    → take (suc n) (drop o bytes) ≡ slice_index bytes o ∷ take n (drop (suc o) bytes)
take_more n [] o lt = absurd (omega arith)
take_more n (x ∷ xs) zero lt = refl
take_more n (x ∷ xs) (suc o) lt = take_more n xs o (omega arith)

-- the bytes of a list that stands in a memory
taken : (n place : ℕ) (bytes : List ℕ) (m : Bytes) (address : ℕ) → StandAt m address bytes
    → place + n ≤ length bytes → take n (drop place bytes) ≡ bytes_from m (address + place) n
taken zero place bytes m address stand fit = refl
taken (suc n) place bytes m address stand fit =
    let e : address + suc place ≡ suc (address + place) = omega arith in
    take_more n bytes place (omega arith)
    ∙ ap (λ b. b ∷ take n (drop (suc place) bytes)) (sym (stand.are place (omega arith)))
    ∙ ap (λ bs. m (address + place) ∷ bs)
    (taken n (suc place) bytes m address stand (omega arith) ∙ ap (λ b. bytes_from m b n) e)

sent_found : (memory : List SegmentState) (place : ℕ) (s : SegmentState) (m : Bytes) (a n : ℕ)
    → Found memory place s m a n → bytes_at memory a n ≡ Some (bytes_from m a n)
unfolding bytes_at
sent_found memory place s m a n f =
    let e : s.address + (a - s.address) ≡ a = omega (arith, f.low) in
    let p = f.place_is in
    let i = f.is in
    let r = f.readable in
    let c = covered s a n f.low f.high in
    rw (p, i, r, c) (ap Some
    (taken n (a - s.address) s.bytes m s.address f.stand (omega (arith, f.low, f.high))
    ∙ ap (λ b. bytes_from m b n) e))

received_found : (memory : List SegmentState) (place : ℕ) (s : SegmentState) (m : Bytes) (a : ℕ)
    → Found memory place s m a 1 → may_write memory a 1 ≡ true
unfolding may_write
received_found memory place s m a f =
    let p = f.place_is in
    let i = f.is in
    let w = f.writable in
    let c = covered s a 1 f.low f.high in
    rw (p, i, w, c) refl

-- the two data segments are found
pub found_object : (table code objects spaces : List ℕ) (o s : ℕ) (m : Bytes) (a n : ℕ)
    → AreApart table code objects spaces → Hold o s m objects spaces → 0 < n → objects_begin ≤ a
    → a + n ≤ objects_begin + o → Found (segments table code objects spaces) 2 (data_segment objects_begin objects) m
    a n
found_object table code objects spaces o s m a n apart h some low high = record {
  place_is = third (code_segment functions_begin table) (code_segment code_begin code)
      (data_segment objects_begin objects) (data_segment spaces_begin spaces) a
      (behind (code_segment functions_begin table) a (omega (arith, apart.table_fits)))
      (behind (code_segment code_begin code) a (omega (arith, apart.code_fits)))
      (within (data_segment objects_begin objects) a low (omega (arith, h.objects_length)));
  is = refl;
  readable = refl;
  writable = refl;
  low = low;
  high = omega (arith, h.objects_length);
  stand = record { are = h.objects_are };
}

pub found_space : (table code objects spaces : List ℕ) (o s : ℕ) (m : Bytes) (a n : ℕ)
    → AreApart table code objects spaces → Hold o s m objects spaces → 0 < n → spaces_begin ≤ a
    → a + n ≤ spaces_begin + s → Found (segments table code objects spaces) 3 (data_segment spaces_begin spaces) m a n
found_space table code objects spaces o s m a n apart h some low high = record {
  place_is = fourth (code_segment functions_begin table) (code_segment code_begin code)
      (data_segment objects_begin objects) (data_segment spaces_begin spaces) a
      (behind (code_segment functions_begin table) a (omega (arith, apart.table_fits)))
      (behind (code_segment code_begin code) a (omega (arith, apart.code_fits)))
      (behind (data_segment objects_begin objects) a (omega (arith, apart.objects_fit)))
      (within (data_segment spaces_begin spaces) a low (omega (arith, h.spaces_length)));
  is = refl;
  readable = refl;
  writable = refl;
  low = low;
  high = omega (arith, h.spaces_length);
  stand = record { are = h.spaces_are };
}

pub load_data : (table code objects spaces : List ℕ) (o s : ℕ) (m : Bytes) (a n : ℕ)
    → AreApart table code objects spaces → Hold o s m objects spaces → 0 < n → IsOfData o s a n
    → load (segments table code objects spaces) a n ≡ Some (load_of n m a)
load_data table code objects spaces o s m a n apart h some d = ⊎_elim
    (λ q. load_found (segments table code objects spaces) 2 (data_segment objects_begin objects) m a n
    (found_object table code objects spaces o s m a n apart h some q.0 q.1))
    (λ q. load_found (segments table code objects spaces) 3 (data_segment spaces_begin spaces) m a n
    (found_space table code objects spaces o s m a n apart h some q.0 q.1))
    d

pub store_data : (table code objects spaces : List ℕ) (o s : ℕ) (m : Bytes) (a n v : ℕ)
    → AreApart table code objects spaces → Hold o s m objects spaces → 0 < n → IsOfData o s a n
    → (objects' : List ℕ) × (spaces' : List ℕ)
    × (store (segments table code objects spaces) a n v ≡ Some (segments table code objects' spaces'))
    × Hold o s (store_of n m a v) objects' spaces'
store_data table code objects spaces o s m a n v apart h some d = ⊎_elim
    (λ q. let f = found_object table code objects spaces o s m a n apart h some q.0 q.1 in
    let long = length-with_number_at n (a - objects_begin) v objects (omega (arith, q.0, f.high)) in (
      with_number_at n (a - objects_begin) v objects,
      spaces,
      store_found (segments table code objects spaces) 2 (data_segment objects_begin objects) m a n v f,
      record {
        objects_length = long ∙ h.objects_length;
        spaces_length = h.spaces_length;
        objects_are = (stands_found (segments table code objects spaces) 2 (data_segment objects_begin objects) m
            a n v f).are;
        spaces_are = λ k lt. store_beside n m a v (spaces_begin + k)
            (inr (omega (arith, h.objects_length, q.1, apart.objects_fit))) ∙ h.spaces_are k lt;
      },
    ))
    (λ q. let f = found_space table code objects spaces o s m a n apart h some q.0 q.1 in
    let long = length-with_number_at n (a - spaces_begin) v spaces (omega (arith, q.0, f.high)) in (
      objects,
      with_number_at n (a - spaces_begin) v spaces,
      store_found (segments table code objects spaces) 3 (data_segment spaces_begin spaces) m a n v f,
      record {
        objects_length = h.objects_length;
        spaces_length = long ∙ h.spaces_length;
        objects_are = λ k lt. store_beside n m a v (objects_begin + k)
            (inl (omega (arith, q.0, apart.objects_fit))) ∙ h.objects_are k lt;
        spaces_are = (stands_found (segments table code objects spaces) 3 (data_segment spaces_begin spaces) m a n
            v f).are;
      },
    ))
    d

pub sent_data : (table code objects spaces : List ℕ) (o s : ℕ) (m : Bytes) (a n : ℕ)
    → AreApart table code objects spaces → Hold o s m objects spaces → 0 < n → IsOfData o s a n
    → bytes_at (segments table code objects spaces) a n ≡ Some (bytes_from m a n)
sent_data table code objects spaces o s m a n apart h some d = ⊎_elim
    (λ q. sent_found (segments table code objects spaces) 2 (data_segment objects_begin objects) m a n
    (found_object table code objects spaces o s m a n apart h some q.0 q.1))
    (λ q. sent_found (segments table code objects spaces) 3 (data_segment spaces_begin spaces) m a n
    (found_space table code objects spaces o s m a n apart h some q.0 q.1))
    d

pub received_data : (table code objects spaces : List ℕ) (o s : ℕ) (m : Bytes) (a : ℕ)
    → AreApart table code objects spaces → Hold o s m objects spaces → IsOfData o s a 1
    → may_write (segments table code objects spaces) a 1 ≡ true
received_data table code objects spaces o s m a apart h d = ⊎_elim
    (λ q. received_found (segments table code objects spaces) 2 (data_segment objects_begin objects) m a
    (found_object table code objects spaces o s m a 1 apart h (omega arith) q.0 q.1))
    (λ q. received_found (segments table code objects spaces) 3 (data_segment spaces_begin spaces) m a
    (found_space table code objects spaces o s m a 1 apart h (omega arith) q.0 q.1))
    d

-- words of the two code segments
pub fetch_table : (table code objects spaces : List ℕ) (i : ℕ) → AreApart table code objects spaces
    → i + 4 ≤ length table → fetch (segments table code objects spaces) (functions_begin + i)
    ≡ Some (little_number 4 (drop i table))
unfolding fetch
fetch_table table code objects spaces i apart fit =
    let s = code_segment functions_begin table in
    let p = first s (code_segment code_begin code) (data_segment objects_begin objects)
    (data_segment spaces_begin spaces) (functions_begin + i)
    (within s (functions_begin + i) (omega arith) (omega arith)) in
    let c = covered s (functions_begin + i) 4 (omega arith) (omega arith) in
    let e : functions_begin + i - functions_begin ≡ i = omega arith in
    rw (p, c) (ap (λ j. Some (little_number 4 (drop j table))) e)

pub fetch_code : (table code objects spaces : List ℕ) (i : ℕ) → AreApart table code objects spaces → i + 4 ≤ length code
    → fetch (segments table code objects spaces) (code_begin + i) ≡ Some (little_number 4 (drop i code))
unfolding fetch
fetch_code table code objects spaces i apart fit =
    let s = code_segment code_begin code in
    let p = second (code_segment functions_begin table) s (data_segment objects_begin objects)
    (data_segment spaces_begin spaces) (code_begin + i)
    (behind (code_segment functions_begin table) (code_begin + i) (omega (arith, apart.table_fits)))
    (within s (code_begin + i) (omega arith) (omega arith))
    in
    let c = covered s (code_begin + i) 4 (omega arith) (omega arith) in
    let e : code_begin + i - code_begin ≡ i = omega arith in
    rw (p, c) (ap (λ j. Some (little_number 4 (drop j code))) e)
