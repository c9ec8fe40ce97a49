-- A list of bytes that stands in a memory from an address on, and the numbers in it.
use Rattle.std.proofs.Common.{◌≡◌, ℕ, zero, suc, ◌+◌, ◌-◌, ◌*◌, ◌/◌, ◌%◌, ◌^◌, ◌<◌, ◌≤◌, inl, inr, ⊎_elim}
use Rattle.std.proofs.Common.{List, ◌++◌, length, take, drop, refl, sym, ap, ◌∙◌, subst, arith, length-append}
use Rattle.std.proofs.Common.{length-drop}
use Rattle.std.specs.Prelude.{slice_index}
use Rattle.std.specs.Int.{byte_at, bytes_low_first}
use Rattle.std.proofs.lemmas.List.{length-take-le, get_or-drop, get_or-take, get_or_append_left, get_or-append_right}
use Rattle.std.proofs.lemmas.Bool.{cases_lt}
use Rattle.std.proofs.Math.Nat.{pow-suc, div-div-eq-div-mul}
use Rattle.byteorder.specs.Endian.{little_number, little_bytes, little_from}
use Rattle.byteorder.specs.Numbers.{length-bytes_low_first}
use Rattle.flat_code.specs.Memory.{Bytes, put, load, store}
use Rattle.flat_code.proofs.Stored.{put_same, store_beside}

-- the bytes of a list stand in a memory from an address on
pub record StandAt (m : Bytes) (address : ℕ) (bytes : List ℕ) : Type 0 where
  pub are : (k : ℕ) → k < length bytes → m (address + k) ≡ slice_index bytes k

-- the number in a list from a place on
pub number_from : (n i : ℕ) (bytes : List ℕ) (m : Bytes) (a : ℕ)
    → ((k : ℕ) → k < n → m (a + k) ≡ slice_index bytes (i + k))
    → little_from i n bytes ≡ load n m a
unfolding load
number_from zero i bytes m a same = refl
number_from (suc n) i bytes m a same =
    let at_a : a + 0 ≡ a = omega arith in
    let at_i : i + 0 ≡ i = omega arith in
    let here : slice_index bytes i ≡ m a =
    sym (subst (λ b. m b ≡ slice_index bytes i) at_a
    (subst (λ j. m (a + 0) ≡ slice_index bytes j) at_i (same 0 (omega arith))))
    in
    let rest : little_from (suc i) n bytes ≡ load n m (suc a) = number_from n (suc i) bytes m (suc a) (λ k lt. (
    let up_a : a + suc k ≡ suc a + k = omega arith in
    let up_i : i + suc k ≡ suc i + k = omega arith in
    subst (λ b. m b ≡ slice_index bytes (suc i + k)) up_a
    (subst (λ j. m (a + suc k) ≡ slice_index bytes j) up_i (same (suc k) (omega arith)))))
    in
    ap (λ x. x + 256 * little_from (suc i) n bytes) here ∙ ap (λ x. m a + 256 * x) rest

-- the number in a list whose bytes stand in the memory is the one that is loaded there
pub number_is_load : (n place : ℕ) (bytes : List ℕ) (m : Bytes) (address : ℕ) → StandAt m address bytes
    → place + n ≤ length bytes
    → little_number n (drop place bytes) ≡ load n m (address + place)
number_is_load n place bytes m address stand fit =
    number_from n 0 (drop place bytes) m (address + place) (λ k lt.
    let e : address + place + k ≡ address + (place + k) = omega arith in
    let z : 0 + k ≡ k = omega arith in
    ap m e ∙ stand.are (place + k) (omega arith)
    ∙ sym (ap (slice_index (drop place bytes)) z ∙ get_or-drop place bytes k 0))

byte_up : (i v : ℕ) → byte_at i (v / 256) ≡ byte_at (suc i) v
byte_up zero v = refl
byte_up (suc i) v =
    ap (λ x. x % 256) (div-div-eq-div-mul v 256 (256 ^ suc i))
    ∙ ap (λ x. v / x % 256) (let e : 256 * 256 ^ suc i ≡ 256 ^ suc (suc i) = rw pow-suc (omega arith) in e)

-- the bytes that a store puts
pub store_inside : (n : ℕ) (m : Bytes) (a v i : ℕ) → i < n → store n m a v (a + i) ≡ byte_at i v
unfolding store
store_inside zero m a v i lt = absurd (omega arith)
store_inside (suc n) m a v zero lt =
    let e : a + 0 ≡ a = omega arith in
    ap (store n (put m a (v % 256)) (suc a) (v / 256)) e
    ∙ store_beside n (put m a (v % 256)) (suc a) (v / 256) a (inl (omega arith))
    ∙ put_same m a (v % 256)
store_inside (suc n) m a v (suc i) lt =
    let e : a + suc i ≡ suc a + i = omega arith in
    ap (store n (put m a (v % 256)) (suc a) (v / 256)) e
    ∙ store_inside n (put m a (v % 256)) (suc a) (v / 256) i (omega arith)
    ∙ byte_up i v

bytes_inside : (j n v i : ℕ) → i < n → slice_index (bytes_low_first j n v) i ≡ byte_at (j + i) v
bytes_inside j zero v i lt = absurd (omega arith)
bytes_inside j (suc n) v zero lt = let e : j ≡ j + 0 = omega arith in ap (λ k. byte_at k v) e
bytes_inside j (suc n) v (suc i) lt =
    let e : suc j + i ≡ j + suc i = omega arith in
    bytes_inside (suc j) n v i (omega arith) ∙ ap (λ k. byte_at k v) e

-- a list with a number put at a place
abbrev pub with_number_at : (n place number : ℕ) → List ℕ → List ℕ
with_number_at n o v bytes = take o bytes ++ (little_bytes n v ++ drop n (drop o bytes))

pub length-with_number_at : (n o v : ℕ) (bytes : List ℕ) → o + n ≤ length bytes
    → length (with_number_at n o v bytes) ≡ length bytes
length-with_number_at n o v bytes fit =
    let t : length (take o bytes) ≡ o = length-take-le o bytes (omega arith) in
    simp (length-append, length-bytes_low_first 0 n v, length-drop, t) (omega arith)

-- it stands in the memory after the store
pub stored_stands : (n o v : ℕ) (bytes : List ℕ) (m : Bytes) (address : ℕ) → o + n ≤ length bytes
    → StandAt m address bytes
    → StandAt (store n m (address + o) v) address (with_number_at n o v bytes)
stored_stands n o v bytes m address fit stand = record
    { are = λ k lt. by k (subst (λ l. k < l) (length-with_number_at n o v bytes fit) lt) }
  where
    front : length (take o bytes) ≡ o
    front = length-take-le o bytes (omega arith)

    rest : List ℕ
    rest = little_bytes n v ++ drop n (drop o bytes)

    low : (k : ℕ) → k < length bytes → k < o
        → store n m (address + o) v (address + k) ≡ slice_index (with_number_at n o v bytes) k
    low k lt l =
        store_beside n m (address + o) v (address + k) (inl (omega arith))
        ∙ stand.are k lt
        ∙ sym (get_or-take o bytes k 0 l)
        ∙ sym (get_or_append_left (take o bytes) (little_bytes n v ++ drop n (drop o bytes)) 0 k (rw front l))

    middle : (k : ℕ) → o ≤ k → k - o < n
        → store n m (address + o) v (address + k) ≡ slice_index (with_number_at n o v bytes) k
    middle k ge l =
        let e : address + k ≡ address + o + (k - o) = omega arith in
        let z : 0 + (k - o) ≡ k - o = omega arith in
        ap (store n m (address + o) v) e
        ∙ store_inside n m (address + o) v (k - o) l
        ∙ sym (bytes_inside 0 n v (k - o) l ∙ ap (λ j. byte_at j v) z)
        ∙ sym (get_or_append_left (little_bytes n v) (drop n (drop o bytes)) 0 (k - o)
        (rw (length-bytes_low_first 0 n v) l))
        ∙ sym (get_or-append_right (take o bytes) (little_bytes n v ++ drop n (drop o bytes)) o k 0 front ge)

    high : (k : ℕ) → k < length bytes → o ≤ k → n ≤ k - o
        → store n m (address + o) v (address + k) ≡ slice_index (with_number_at n o v bytes) k
    high k lt ge h =
        let e : o + (n + (k - o - n)) ≡ k = omega arith in
        store_beside n m (address + o) v (address + k) (inr (omega arith))
        ∙ stand.are k lt
        ∙ ap (slice_index bytes) (sym e)
        ∙ sym (get_or-drop o bytes (n + (k - o - n)) 0)
        ∙ sym (get_or-drop n (drop o bytes) (k - o - n) 0)
        ∙ sym (get_or-append_right (little_bytes n v) (drop n (drop o bytes)) n (k - o) 0
        (length-bytes_low_first 0 n v) h)
        ∙ sym (get_or-append_right (take o bytes) (little_bytes n v ++ drop n (drop o bytes)) o k 0 front ge)

    by : (k : ℕ) → k < length bytes
        → store n m (address + o) v (address + k) ≡ slice_index (with_number_at n o v bytes) k
    by k lt = ⊎_elim (λ l. low k lt l) (λ ge. ⊎_elim (λ l. middle k ge l) (λ h. high k lt ge h) (cases_lt (k - o) n))
        (cases_lt k o)
