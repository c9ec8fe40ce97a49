-- Bytes with entries are memory with entries, and entries that are written one after another are read.
use Rattle.std.proofs.Common.{◌≡◌, ◌≢◌, ℕ, zero, suc, ◌+◌, ◌-◌, ◌*◌, ◌/◌, ◌%◌, ◌<◌, ◌≤◌, inl, inr, ⊎_elim}
use Rattle.std.proofs.Common.{List, [], ◌∷◌, ◌++◌, length, get_or, take, drop, replicate, refl, sym, ap, ◌∙◌, subst}
use Rattle.std.proofs.Common.{arith, length-append, length-drop}
use Rattle.std.specs.Int.{w64, to_le_bytes}
use Rattle.std.proofs.lemmas.Bool.{cases_lt}
use Rattle.std.proofs.lemmas.List.{get_or_append_left, get_or-append_right, get_or-take, get_or-drop, length-take-le}
use Rattle.addr_map.specs.Places.{MapSizes, objects_begin, spaces_begin, region_size, region_start, whole_pages}
use Rattle.flat_code.specs.Memory.{Bytes, put, store}
use Rattle.flat_code.proofs.Stored.{put_same, store_beside}
use Rattle.flat_code.specs.Routines.Registers.{IsNoneOf}
use Rattle.flat_code.specs.Routines.Metadata.{Metadata, View, no_metadata, IsObjectWord, KeepsShadow}
use Rattle.flat_code.proofs.Routines.Words.{store_four, stored_at}
use Rattle.shadow_space.specs.declared.start.StartEntry.{StartEntry}
use Rattle.shadow_space.specs.Start.{metadata_of, words_of, IsGlobalWord, IsStartEntry, AreStartEntries, BeginsWith}
use Rattle.shadow_space.specs.Start.{AreRead, IsStarted, with_word, with_entry, begun}

-- ---- bytes

-- a byte of a number, from the lowest on
abbrev byte_of : ℕ → ℕ → ℕ
byte_of zero v = v % 256
byte_of (suc i) v = byte_of i (v / 256)

stored_byte : (n : ℕ) (m : Bytes) (a v i : ℕ) → i < n → store n m a v (a + i) ≡ byte_of i v
unfolding store
stored_byte zero m a v i l = absurd (omega arith)
stored_byte (suc n) m a v zero l =
    let e : a + 0 ≡ a = omega arith in
    ap (store n (put m a (v % 256)) (suc a) (v / 256)) e
    ∙ store_beside n (put m a (v % 256)) (suc a) (v / 256) a (inl (omega arith))
    ∙ put_same m a (v % 256)
stored_byte (suc n) m a v (suc i) l =
    let e : a + suc i ≡ suc a + i = omega arith in
    ap (store n (put m a (v % 256)) (suc a) (v / 256)) e
    ∙ stored_byte n (put m a (v % 256)) (suc a) (v / 256) i (omega arith)

word_byte : (v i : ℕ) → i < 8 → get_or (to_le_bytes w64 v) i 0 ≡ byte_of i v
word_byte v zero l = refl
word_byte v (suc zero) l = omega arith
word_byte v (suc (suc zero)) l = omega arith
word_byte v (suc (suc (suc zero))) l = omega arith
word_byte v (suc (suc (suc (suc zero)))) l = omega arith
word_byte v (suc (suc (suc (suc (suc zero))))) l = omega arith
word_byte v (suc (suc (suc (suc (suc (suc zero)))))) l = omega arith
word_byte v (suc (suc (suc (suc (suc (suc (suc zero))))))) l = omega arith
word_byte v (suc (suc (suc (suc (suc (suc (suc (suc i)))))))) l = absurd (omega arith)

-- the bytes are those of a memory from the first of the shadow space on
abbrev pub Agrees : List ℕ → Bytes → Type 0
Agrees bytes m = (i : ℕ) → m (spaces_begin + i) ≡ get_or bytes i 0

pub word_agrees : (bytes : List ℕ) (m : Bytes) (o w : ℕ) → o + 8 ≤ length bytes → Agrees bytes m
    → Agrees (with_word o w bytes) (store 8 m (spaces_begin + o) w)
word_agrees bytes m o w room h i =
    let front : length (take o bytes) ≡ o = length-take-le o bytes (omega arith) in
    ⊎_elim
    (λ (l : i < o). store_beside 8 m (spaces_begin + o) w (spaces_begin + i) (inl (omega arith)) ∙ h i
    ∙ sym (get_or_append_left (take o bytes) (to_le_bytes w64 w ++ drop (o + 8) bytes) 0 i (omega (arith, front))
    ∙ get_or-take o bytes i 0 l))
    (λ ge. let after = get_or-append_right (take o bytes) (to_le_bytes w64 w ++ drop (o + 8) bytes) o i 0 front ge in
    ⊎_elim
    (λ (l : i < o + 8).
    let at : spaces_begin + o + (i - o) ≡ spaces_begin + i = omega arith in
    sym (ap (store 8 m (spaces_begin + o) w) at) ∙ stored_byte 8 m (spaces_begin + o) w (i - o) (omega arith)
    ∙ sym (after ∙ get_or_append_left (to_le_bytes w64 w) (drop (o + 8) bytes) 0 (i - o) (omega arith)
    ∙ word_byte w (i - o) (omega arith)))
    (λ far.
    let same : o + 8 + (i - o - 8) ≡ i = omega arith in
    store_beside 8 m (spaces_begin + o) w (spaces_begin + i) (inr (omega arith)) ∙ h i
    ∙ sym (after ∙ get_or-append_right (to_le_bytes w64 w) (drop (o + 8) bytes) 8 (i - o) 0 refl (omega arith)
    ∙ get_or-drop (o + 8) bytes (i - o - 8) 0 ∙ ap (λ k. get_or bytes k 0) same))
    (cases_lt i (o + 8)))
    (cases_lt i o)

pub length_word : (bytes : List ℕ) (o w : ℕ) → o + 8 ≤ length bytes → length (with_word o w bytes) ≡ length bytes
length_word bytes o w l =
    let front = length-take-le o bytes (omega arith) in
    let all = length-append (take o bytes) (to_le_bytes w64 w ++ drop (o + 8) bytes) in
    let back = length-append (to_le_bytes w64 w) (drop (o + 8) bytes) in
    let rest = length-drop (o + 8) bytes in
    omega arith

pub entry_agrees : (bytes : List ℕ) (m : Bytes) (o : ℕ) (e : Metadata) → o + 32 ≤ length bytes → Agrees bytes m
    → Agrees (with_entry o e bytes) (store_four m (spaces_begin + o) e)
entry_agrees bytes m o e room h =
    let b1 = with_word o e.base bytes in
    let b2 = with_word (o + 8) e.bound b1 in
    let b3 = with_word (o + 16) e.key b2 in
    let l1 = length_word bytes o e.base (omega arith) in
    let l2 = length_word b1 (o + 8) e.bound (omega arith) in
    let l3 = length_word b2 (o + 16) e.key (omega arith) in
    let m1 = store 8 m (spaces_begin + o) e.base in
    let m2 = store 8 m1 (spaces_begin + (o + 8)) e.bound in
    let m3 = store 8 m2 (spaces_begin + (o + 16)) e.key in
    let a1 = word_agrees bytes m o e.base (omega arith) h in
    let a2 = word_agrees b1 m1 (o + 8) e.bound (omega arith) a1 in
    let a3 = word_agrees b2 m2 (o + 16) e.key (omega arith) a2 in
    let a4 = word_agrees b3 m3 (o + 24) e.lock (omega arith) a3 in
    subst (Agrees (with_entry o e bytes))
    (stored_at m (spaces_begin + o) (spaces_begin + o) (spaces_begin + (o + 8)) (spaces_begin + (o + 16))
    (spaces_begin + (o + 24)) e refl (omega arith) (omega arith) (omega arith)) a4

pub length_entry : (bytes : List ℕ) (o : ℕ) (e : Metadata) → o + 32 ≤ length bytes
    → length (with_entry o e bytes) ≡ length bytes
length_entry bytes o e room =
    let b1 = with_word o e.base bytes in
    let b2 = with_word (o + 8) e.bound b1 in
    let b3 = with_word (o + 16) e.key b2 in
    let l1 = length_word bytes o e.base (omega arith) in
    let l2 = length_word b1 (o + 8) e.bound (omega arith) in
    let l3 = length_word b2 (o + 16) e.key (omega arith) in
    length_word b3 (o + 24) e.lock (omega arith) ∙ l3 ∙ l2 ∙ l1

-- ---- entries

pub global_word : (s : MapSizes) (a : ℕ) → IsGlobalWord s a → IsObjectWord s a
unfolding region_start
global_word s a w = record { first = w.first; last = omega (arith, w.last); aligned = w.aligned }

-- a word got its entry
pub record HasEntry (s : MapSizes) (entry : View) (IsGood : Bytes → Type 0) (e : StartEntry) (m m' : Bytes) : Type 0
  where
    pub good : IsGood m'
    pub there : entry m' e.at ≡ metadata_of e
    pub others : (a : ℕ) → IsObjectWord s a → a ≢ e.at → entry m' a ≡ entry m a

-- and so did all
pub record HaveEntries (s : MapSizes) (entry : View) (IsGood : Bytes → Type 0) (es : List StartEntry) (m m' : Bytes) :
    Type 0 where
  pub good : IsGood m'
  pub there : AreRead entry m' es
  pub others : (a : ℕ) → IsObjectWord s a → IsNoneOf a (words_of es) → entry m' a ≡ entry m a

module _ (s : MapSizes) (entry : View) (IsGood : Bytes → Type 0) (write : Bytes → StartEntry → Bytes)
    (writes : (m : Bytes) (e : StartEntry) → IsGood m → IsStartEntry s e
    → HasEntry s entry IsGood e m (write m e)) where
  pub have_entries : (es : List StartEntry) (m : Bytes) → IsGood m → AreStartEntries s es
      → HaveEntries s entry IsGood es m (begun write es m)
  have_entries [] m good h = record { good = good; there = tt; others = λ a w n. refl }
  have_entries (e ∷ es) m good h =
      let first = writes m e good h.0 in
      let rest = have_entries es (write m e) first.good h.2 in
      record {
        good = rest.good;
        there = (rest.others e.at (global_word s e.at h.0.word) h.1 ∙ first.there, rest.there);
        others = λ a w n. rest.others a w n.1 ∙ first.others a w n.0;
      }

read_kept : (s : MapSizes) (entry : View) (es : List StartEntry) (m m' : Bytes) → AreStartEntries s es
    → ((a : ℕ) → IsObjectWord s a → entry m' a ≡ entry m a) → AreRead entry m es → AreRead entry m' es
read_kept s entry [] m m' h same r = tt
read_kept s entry (e ∷ es) m m' h same r =
    (same e.at (global_word s e.at h.0.word) ∙ r.0, read_kept s entry es m m' h.2 same r.1)

-- A region that begins with bytes that agree with such a memory is started.
pub started : (s : MapSizes) (entry : View) (IsGood : Bytes → Type 0) (es : List StartEntry) (bytes : List ℕ)
    (zeros m : Bytes) → AreStartEntries s es
    → ((x y : Bytes) → KeepsShadow s x y → IsGood x
    → IsGood y × ((a : ℕ) → IsObjectWord s a → entry y a ≡ entry x a))
    → ((a : ℕ) → IsObjectWord s a → entry zeros a ≡ no_metadata) → HaveEntries s entry IsGood es zeros m
    → Agrees bytes m → (x : Bytes) → BeginsWith s bytes x → IsStarted s entry IsGood es x
started s entry IsGood es bytes zeros m h local none have agrees x begins =
    let same = local m x (λ i l. begins i l ∙ sym (agrees i)) have.good in
    record {
      good = same.0;
      read = read_kept s entry es m x h same.1 have.there;
      others = λ a w n. same.1 a w ∙ have.others a w n ∙ none a w;
    }

-- ---- the entries that are left

pub entry_at : (s : MapSizes) (es : List StartEntry) (i : ℕ) (d : StartEntry) → i < length es
    → AreStartEntries s (drop i es) → IsStartEntry s (get_or es i d)
entry_at s [] i d l h = absurd (omega arith)
entry_at s (e ∷ es) zero d l h = h.0
entry_at s (e ∷ es) (suc i) d l h = entry_at s es i d (omega arith) h

-- where the entry of a word of static objects stands, four bytes for each of theirs
pub place_of_word : (s : MapSizes) (a : ℕ) → IsGlobalWord s a
    → 4 * (a - objects_begin) + 32 ≤ 4 * whole_pages s.global_bytes
unfolding region_start region_size
place_of_word s a w = omega (arith, w.first, w.last, w.aligned)

pub place_of_entry : (s : MapSizes) (es : List StartEntry) (i : ℕ) (d : StartEntry) → i < length es
    → AreStartEntries s (drop i es) → 4 * ((get_or es i d).at - objects_begin) + 32 ≤ 4 * whole_pages s.global_bytes
place_of_entry s es i d l h = place_of_word s (get_or es i d).at (entry_at s es i d l h).word

-- none is left
pub past_end : {A : Type 0} (put : A → StartEntry → A) (es : List StartEntry) (i : ℕ) (x : A) → length es ≤ i
    → begun put (drop i es) x ≡ x
past_end put [] zero x l = refl
past_end put [] (suc i) x l = refl
past_end put (e ∷ es) zero x l = absurd (omega arith)
past_end put (e ∷ es) (suc i) x l = past_end put es i x (omega arith)

-- ---- a region of zeros

pub zeros_agree : (n : ℕ) → Agrees (replicate n 0) (λ a. 0)
zeros_agree n i = sym (zero_at n i)
  where
    zero_at : (n i : ℕ) → get_or (replicate n 0) i 0 ≡ (let z : ℕ = 0 in z)
    zero_at zero i = refl
    zero_at (suc n) zero = refl
    zero_at (suc n) (suc i) = zero_at n i
