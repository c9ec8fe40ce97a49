-- What the bodies of the loop do: a word made zero, an entry taken to an area, and one taken from there.
use Rattle.std.proofs.Common.{◌≡◌, ◌≢◌, ℕ, suc, ◌+◌, ◌-◌, ◌*◌, ◌%◌, ◌^◌, ◌<◌, ◌≤◌, inl, inr, ⊎_elim, List, [], ◌∷◌}
use Rattle.std.proofs.Common.{◌++◌}
use Rattle.std.proofs.Common.{true, refl, sym, ap, ◌∙◌, subst, arith}
use Rattle.std.proofs.lemmas.Bool.{cases_eq, cases_lt}
use Rattle.addr_map.specs.Places.{MapSizes, spaces_begin, region_size, region_end}
use Rattle.addr_map.specs.declared.region.Region.TheVariants.{Shadow, Cells}
use Rattle.rv_isa.specs.Results.{extended}
use Rattle.flat_code.specs.declared.instruction.FlatInstruction.{FlatInstruction}
use Rattle.flat_code.specs.Memory.{Bytes, put, load, store, KeepsBut}
use Rattle.flat_code.specs.State.{State}
use Rattle.flat_code.specs.Meaning.{Context}
use Rattle.flat_code.proofs.Stored.{store_beside, keeps_within, keeps_both, kept_beside}
use Rattle.flat_code.specs.declared.registers.Entry.{Entry}
use Rattle.flat_code.specs.Routines.Registers.{IsNoneOf, OthersStay}
use Rattle.flat_code.specs.Routines.Routine.{Does, Either, Never}
use Rattle.flat_code.specs.Routines.Metadata.{Metadata, View, metadata_at, metadata_in, entry_registers, IsObjectWord}
use Rattle.flat_code.specs.Routines.Metadata.{KeepsButShadow, KeepsShadow, ShowsNothing}
use Rattle.flat_code.proofs.Routines.Showing.{shows_both}
use Rattle.flat_code.proofs.Routines.Words.{IsLocal, IsOfFourWords, store_four, four_read, four_beside, metadata_kept}
use Rattle.flat_code.proofs.Routines.Words.{loaded_at, stored_at, same_metadata}
use Rattle.shadow_space.specs.Form.{HasRead, IsReadRoutine, HasWritten, IsWriteRoutine}
use Rattle.lock_space.proofs.Spaces.{allowed_at}
use Rattle.lib_wrappers.proofs.AllocatingRoutines.Zeros.{zero_stored}
use Rattle.lib_wrappers.proofs.MovingRoutines.Steps.{both_quiet, quiet_weaken, IsGlued, glued}
use Rattle.lib_wrappers.proofs.MovingRoutines.Bytes.{in_runtime}
use Rattle.lib_wrappers.specs.AreaRoutines.Loops.{IsAtWord, HasDoneWord, DoesWord, zero_body, entry_behind, store_entry}
use Rattle.lib_wrappers.specs.AreaRoutines.Loops.{load_entry}

-- the registers of the loop
abbrev loop_registers : ℕ → List ℕ
loop_registers t = t ∷ (t + 1) ∷ (t + 2) ∷ []

-- so many bytes of the runtime's spaces behind the shadow space
pub record IsSpaceRange (map : MapSizes) (address bytes : ℕ) : Type 0 where
  pub first : spaces_begin + region_size map Shadow ≤ address
  pub last : address + bytes ≤ region_end map Cells
  pub small : address + bytes < 2 ^ 63

-- ---- words made zero

pub record AreZeroed (a n : ℕ) (before : Bytes) (j : ℕ) (after : Bytes) : Type 0 where
  pub zeros : (i : ℕ) → i < 8 * j → after (a + i) ≡ 0
  pub beside : KeepsBut a (8 * n) before after

more_zeros : (a n : ℕ) (m0 m : Bytes) (j : ℕ) → j < n → AreZeroed a n m0 j m
    → AreZeroed a n m0 (suc j) (store 8 m (a + 8 * j) 0)
more_zeros a n m0 m j l h = record {
  zeros = λ i il. ⊎_elim
      (λ (lt : i < 8 * j). store_beside 8 m (a + 8 * j) 0 (a + i) (inl (omega arith)) ∙ h.zeros i lt)
      (λ (ge : 8 * j ≤ i). (let k = i - 8 * j in let e : a + 8 * j + k ≡ a + i = omega arith in
      subst (λ b. store 8 m (a + 8 * j) 0 b ≡ 0) e (zero_stored 8 m (a + 8 * j) k (omega arith))))
      (cases_lt i (8 * j));
  beside = keeps_both a (8 * n) m0 m _ h.beside
      (keeps_within (a + 8 * j) 8 a (8 * n) m _ (omega arith) (omega arith) (store_beside 8 m (a + 8 * j) 0));
}

abbrev own_zero : List FlatInstruction
own_zero = zero_body 0

module _ (map : MapSizes) (t charge weight a e n : ℕ) (lies : IsSpaceRange map a (8 * n)) (m0 : Bytes) (v : State) where
  abbrev c : Context
  c = in_runtime map charge weight

  zeroed : (j : ℕ) → j < n → (s s' : State) → IsAtWord t a e j v (AreZeroed a n m0) s
      → IsGlued c (loop_registers t) (t + 3) 1 own_zero s s' → HasDoneWord t j (AreZeroed a n m0) s s'
  unfolding put
  zeroed j l s s' p g =
      let small = lies.small in let at = p.word in
      let is : (s.values (t + 1) + 0) % 2 ^ 64 ≡ a + 8 * j = omega arith in
      let same : s'.memory ≡ store 8 s.memory (a + 8 * j) 0 =
      ap (λ z. z.memory) g.rest ∙ ap (λ x. store 8 s.memory x 0) is in
      record {
        so_far = subst (AreZeroed a n m0 (suc j)) (sym same) (more_zeros a n m0 s.memory j l p.so_far);
        shows = record {
          input = ap (λ z. z.input) g.rest;
          output = ap (λ z. z.output) g.rest;
          taken = ap (λ z. z.taken) g.rest;
          accesses = ap (λ z. z.accesses) g.rest;
          turns = ap (λ z. z.turns) g.rest;
        };
        others = g.others;
      }

  pub zero_does_word : DoesWord c t 2 a e n v (AreZeroed a n m0) (zero_body t)
  unfolding put
  zero_does_word j l =
      quiet_weaken c (zero_body t) 2 2 (IsAtWord t a e j v (AreZeroed a n m0)) (IsAtWord t a e j v (AreZeroed a n m0))
      (IsGlued c (loop_registers t) (t + 3) 1 own_zero) (HasDoneWord t j (AreZeroed a n m0)) (omega arith) (λ s p. p)
      (zeroed j l)
      (glued c (loop_registers t) (t + 3) 1 own_zero (IsAtWord t a e j v (AreZeroed a n m0))
      (omega arith, (omega arith, (omega arith, tt))) refl
      (λ s w p. (
        tt,
        (
          let small = lies.small in let first = lies.first in let last = lies.last in let at = p.word in
              allowed_at map ((s.values (t + 1) + 0) % 2 ^ 64) (a + 8 * j) 8 (omega arith) (omega arith) (omega arith),
          tt,
        ),
      )))

-- ---- entries stored and loaded

-- an entry from registers to four words of the runtime's spaces
abbrev own_entry : Entry
own_entry = record { base = 1; bound = 2; key = 3; lock = 4 }

pub record HasStored (t u q : ℕ) (s s' : State) : Type 0 where
  pub words : IsOfFourWords (metadata_in s.values (entry_behind t))
  pub memory : s'.memory ≡ store_four s.memory q (metadata_in s.values (entry_behind t))
  pub shows : ShowsNothing s s'
  pub others : OthersStay [] u s s'

-- a register below u has the address
pub stores : (map : MapSizes) (at t u charge weight q : ℕ) → at < u → t + 7 ≤ u → IsSpaceRange map q 32
    → Does (in_runtime map charge weight) (store_entry at (entry_behind t)) (λ s. s.values at ≡ q) (λ s. 4)
    (λ s. Either (HasStored t u q s) Never)
unfolding put
stores map at t u charge weight q low own lies =
    let c = in_runtime map charge weight in
    let ins = at ∷ entry_registers (entry_behind t) in
    let P : State → Type 0 = λ s. s.values at ≡ q in
    quiet_weaken c (store_entry at (entry_behind t)) 4 4 P P (IsGlued c ins u 0 (store_entry 0 own_entry))
    (HasStored t u q) (omega arith) (λ s p. p)
    (λ s s' p g.
    let small = lies.small in
    let e = metadata_in s.values (entry_behind t) in
    record {
      words = record {
        base = g.words.values (t + 3);
        bound = g.words.values (t + 4);
        key = g.words.values (t + 5);
        lock = g.words.values (t + 6);
      };
      memory = ap (λ z. z.memory) g.rest
          ∙ stored_at s.memory q ((s.values at + 0) % 2 ^ 64) ((s.values at + 8) % 2 ^ 64)
          ((s.values at + 16) % 2 ^ 64) ((s.values at + 24) % 2 ^ 64) e (omega arith) (omega arith)
          (omega arith) (omega arith);
      shows = record {
        input = ap (λ z. z.input) g.rest;
        output = ap (λ z. z.output) g.rest;
        taken = ap (λ z. z.taken) g.rest;
        accesses = ap (λ z. z.accesses) g.rest;
        turns = ap (λ z. z.turns) g.rest;
      };
      others = g.others;
    })
    (glued c ins u 0 (store_entry 0 own_entry) P
    (low, (omega arith, (omega arith, (omega arith, (omega arith, tt))))) refl
    (λ s w p.
    let small = lies.small in let first = lies.first in let last = lies.last in (
      allowed_at map ((s.values at + 0) % 2 ^ 64) q 8 (omega arith) (omega arith) (omega arith),
      (
        allowed_at map ((s.values at + 8) % 2 ^ 64) (q + 8) 8 (omega arith) (omega arith) (omega arith),
        (
          allowed_at map ((s.values at + 16) % 2 ^ 64) (q + 16) 8 (omega arith) (omega arith) (omega arith),
          (allowed_at map ((s.values at + 24) % 2 ^ 64) (q + 24) 8 (omega arith) (omega arith) (omega arith), tt),
        ),
      ),
    )))

pub record HasLoaded (t q : ℕ) (s s' : State) : Type 0 where
  pub entry : metadata_in s'.values (entry_behind t) ≡ metadata_at s.memory q
  pub memory : s'.memory ≡ s.memory
  pub shows : ShowsNothing s s'
  pub others : OthersStay [] (t + 3) s s'

pub loads : (map : MapSizes) (t charge weight q : ℕ) → IsSpaceRange map q 32
    → Does (in_runtime map charge weight) (load_entry (t + 2) (entry_behind t)) (λ s. s.values (t + 2) ≡ q) (λ s. 4)
    (λ s. Either (HasLoaded t q s) Never)
unfolding put extended
loads map t charge weight q lies =
    let c = in_runtime map charge weight in
    let own = load_entry 2 (entry_behind 0) in
    let P : State → Type 0 = λ s. s.values (t + 2) ≡ q in
    quiet_weaken c (load_entry (t + 2) (entry_behind t)) 4 4 P P (IsGlued c [] t 7 own)
    (HasLoaded t q) (omega arith) (λ s p. p)
    (λ s s' p g.
    let small = lies.small in
    record {
      entry = same_metadata (metadata_in s'.values (entry_behind t))
          (record {
            base = load 8 s.memory ((s.values (t + 2) + 0) % 2 ^ 64);
            bound = load 8 s.memory ((s.values (t + 2) + 8) % 2 ^ 64);
            key = load 8 s.memory ((s.values (t + 2) + 16) % 2 ^ 64);
            lock = load 8 s.memory ((s.values (t + 2) + 24) % 2 ^ 64);
          })
          (sym (g.values 3 (omega arith))) (sym (g.values 4 (omega arith))) (sym (g.values 5 (omega arith)))
          (sym (g.values 6 (omega arith)))
          ∙ loaded_at s.memory q ((s.values (t + 2) + 0) % 2 ^ 64) ((s.values (t + 2) + 8) % 2 ^ 64)
          ((s.values (t + 2) + 16) % 2 ^ 64) ((s.values (t + 2) + 24) % 2 ^ 64) (omega arith) (omega arith)
          (omega arith) (omega arith);
      memory = ap (λ z. z.memory) g.rest;
      shows = record {
        input = ap (λ z. z.input) g.rest;
        output = ap (λ z. z.output) g.rest;
        taken = ap (λ z. z.taken) g.rest;
        accesses = ap (λ z. z.accesses) g.rest;
        turns = ap (λ z. z.turns) g.rest;
      };
      others = λ x l none. ⊎_elim
          (λ (lt : x < t). g.others x lt tt)
          (λ (ge : t ≤ x). ⊎_elim
          (λ (e : x ≡ t). subst (λ z. s'.values z ≡ s.values z) (sym e) (sym (g.values 0 (omega arith))))
          (λ (ne : x ≢ t). ⊎_elim
          (λ (e : x ≡ t + 1). subst (λ z. s'.values z ≡ s.values z) (sym e) (sym (g.values 1 (omega arith))))
          (λ (ne' : x ≢ t + 1). (let e : x ≡ t + 2 = omega (arith, ne, ne') in
          subst (λ z. s'.values z ≡ s.values z) (sym e) (sym (g.values 2 (omega arith)))))
          (cases_eq x (t + 1)))
          (cases_eq x t))
          (cases_lt x t);
    })
    (glued c [] t 7 own P tt refl
    (λ s w p.
    let small = lies.small in let first = lies.first in let last = lies.last in (
      allowed_at map ((s.values (t + 2) + 0) % 2 ^ 64) q 8 (omega arith) (omega arith) (omega arith),
      (
        allowed_at map ((s.values (t + 2) + 8) % 2 ^ 64) (q + 8) 8 (omega arith) (omega arith) (omega arith),
        (
          allowed_at map ((s.values (t + 2) + 16) % 2 ^ 64) (q + 16) 8 (omega arith) (omega arith) (omega arith),
          (allowed_at map ((s.values (t + 2) + 24) % 2 ^ 64) (q + 24) 8 (omega arith) (omega arith) (omega arith), tt),
        ),
      ),
    )))

-- ---- entries taken to an area, and from there

no_entry : (t x : ℕ) → x < t + 3 → IsNoneOf x (entry_registers (entry_behind t))
no_entry t x l = ((λ e. omega arith), ((λ e. omega arith), ((λ e. omega arith), ((λ e. omega arith), tt))))

-- the entries of so many words from p on stand from e on
pub record AreTaken (entry : View) (p e n : ℕ) (before : Bytes) (j : ℕ) (after : Bytes) : Type 0 where
  pub entries : (i : ℕ) → i < j → metadata_at after (e + 32 * i) ≡ entry before (p + 8 * i)
  pub beside : KeepsBut e (32 * n) before after

-- those that stand from e on are those of so many words from p on
pub record ArePut (map : MapSizes) (entry : View) (IsGood : Bytes → Type 0) (p e : ℕ) (before : Bytes) (j : ℕ)
    (after : Bytes) : Type 0 where
  pub entries : (i : ℕ) → i < j → entry after (p + 8 * i) ≡ metadata_at before (e + 32 * i)
  pub others : (a : ℕ) → IsObjectWord map a → ((i : ℕ) → i < j → a ≢ p + 8 * i) → entry after a ≡ entry before a
  pub memory : KeepsButShadow map before after
  pub good : IsGood after

module _ (map : MapSizes) (entry : View) (IsGood : Bytes → Type 0) (t charge weight p e n : ℕ)
    (lies : 0 < n → IsSpaceRange map e (32 * n)) (words : (j : ℕ) → j < n → IsObjectWord map (p + 8 * j))
    (v : State) where
  abbrev cx : Context
  cx = in_runtime map charge weight

  part_lies : (j : ℕ) → j < n → IsSpaceRange map (e + 32 * j) 32
  part_lies j l =
      let all = lies (omega arith) in
      let a = all.first in let b = all.last in let s = all.small in
      record { first = omega arith; last = omega arith; small = omega arith }

  module _ (whole : IsSpaceRange map e (32 * n)) (local : IsLocal map entry IsGood) (m0 : Bytes) (good : IsGood m0)
      (read : List FlatInstruction)
      (reads : IsReadRoutine map entry IsGood (t + 1) (entry_behind t) (t + 7) read) where
    abbrev T : ℕ → Bytes → Type 0
    T = AreTaken entry p e n m0

    shadow_stays : (m : Bytes) → KeepsBut e (32 * n) m0 m → KeepsShadow map m0 m
    shadow_stays m k i l = k (spaces_begin + i) (inl (let a = whole.first in omega arith))

    more_taken : (m : Bytes) (j : ℕ) (x : Metadata) → j < n → IsOfFourWords x → x ≡ entry m0 (p + 8 * j) → T j m
        → T (suc j) (store_four m (e + 32 * j) x)
    more_taken m j x l w is h =
        let q = e + 32 * j in
        let four = four_beside m q x in
        record {
          entries = λ i il. ⊎_elim
              (λ (same : i ≡ j). subst (λ z. metadata_at (store_four m q x) (e + 32 * z) ≡ entry m0 (p + 8 * z))
              (sym same) (four_read m q x w ∙ is))
              (λ (ne : i ≢ j). metadata_kept m (store_four m q x) (e + 32 * i)
              (kept_beside q 32 (e + 32 * i) 32 m (store_four m q x) four (inl (omega (arith, ne))))
              ∙ h.entries i (omega (arith, ne)))
              (cases_eq i j);
          beside = keeps_both e (32 * n) m0 m _ h.beside
              (keeps_within q 32 e (32 * n) m _ (omega arith) (omega arith) four);
        }

    taken_word : (j : ℕ) → j < n → (s s1 s2 : State) → IsAtWord t p e j v T s
        → HasRead entry (t + 1) (entry_behind t) (t + 7) s s1 → HasStored t (t + 7) (e + 32 * j) s1 s2
        → HasDoneWord t j T s s2
    taken_word j l s s1 s2 at r w =
        let still = local m0 s.memory (shadow_stays s.memory at.so_far.beside) good in
        let is : metadata_in s1.values (entry_behind t) ≡ entry m0 (p + 8 * j) =
        r.read ∙ ap (entry s.memory) at.word ∙ still.1 (p + 8 * j) (words j l) in
        let same : s2.memory ≡ store_four s.memory (e + 32 * j) (metadata_in s1.values (entry_behind t)) =
        w.memory ∙ ap (λ m. store_four m (e + 32 * j) (metadata_in s1.values (entry_behind t))) r.memory in
        record {
          so_far = subst (T (suc j)) (sym same)
              (more_taken s.memory j (metadata_in s1.values (entry_behind t)) l w.words is at.so_far);
          shows = shows_both s s1 s2 r.shows w.shows;
          others = λ x b none. w.others x (omega arith) tt ∙ r.others x (omega arith) (no_entry t x b);
        }

    pub take_does_word : DoesWord cx t 22 p e n v T (read ++ store_entry (t + 2) (entry_behind t))
    take_does_word j l =
        both_quiet cx read (store_entry (t + 2) (entry_behind t)) 18 4 (IsAtWord t p e j v T)
        (HasRead entry (t + 1) (entry_behind t) (t + 7)) (λ s s1. s1.values (t + 2) ≡ e + 32 * j)
        (λ s. HasStored t (t + 7) (e + 32 * j)) (HasDoneWord t j T)
        (quiet_weaken cx read 18 18 (λ s. IsObjectWord map (s.values (t + 1)) × IsGood s.memory) (IsAtWord t p e j v T)
        (HasRead entry (t + 1) (entry_behind t) (t + 7)) (HasRead entry (t + 1) (entry_behind t) (t + 7)) (omega arith)
        (λ s at. (
          subst (IsObjectWord map) (sym at.word) (words j l),
          (local m0 s.memory (shadow_stays s.memory at.so_far.beside) good).0,
        ))
        (λ s s1 at h. h) (reads true charge weight))
        (λ s. stores map (t + 2) t (t + 7) charge weight (e + 32 * j) (omega arith) (omega arith) (part_lies j l))
        (λ s s1 at r. r.others (t + 2) (omega arith) (no_entry t (t + 2) (omega arith)) ∙ at.entry)
        (taken_word j l)

  module _ (m0 : Bytes) (write : List FlatInstruction)
      (writes : IsWriteRoutine map entry IsGood (t + 1) (entry_behind t) (t + 7) write) where
    abbrev U : ℕ → Bytes → Type 0
    U = ArePut map entry IsGood p e m0

    put_word : (j : ℕ) → j < n → (s s1 s2 : State) → IsAtWord t p e j v U s → HasLoaded t (e + 32 * j) s s1
        → HasWritten map entry IsGood (t + 1) (entry_behind t) (t + 7) s1 s2 → HasDoneWord t j U s s2
    put_word j l s s1 s2 at r w =
        let word : s1.values (t + 1) ≡ p + 8 * j = r.others (t + 1) (omega arith) tt ∙ at.word in
        let same : metadata_at s.memory (e + 32 * j) ≡ metadata_at m0 (e + 32 * j) =
        metadata_kept m0 s.memory (e + 32 * j) (λ i il. at.so_far.memory (e + 32 * j + i)
        (inr (let a = (part_lies j l).first in omega arith))) in
        let new : entry s2.memory (p + 8 * j) ≡ metadata_at m0 (e + 32 * j) =
        ap (entry s2.memory) (sym word) ∙ w.written ∙ r.entry ∙ same in
        let old : (a : ℕ) → IsObjectWord map a → a ≢ p + 8 * j → entry s2.memory a ≡ entry s.memory a =
        λ a is ne. w.other_words a is (λ q. ne (q ∙ word)) ∙ ap (λ m. entry m a) r.memory in
        record {
          so_far = record {
            entries = λ i il. ⊎_elim
                (λ (q : i ≡ j). subst (λ z. entry s2.memory (p + 8 * z) ≡ metadata_at m0 (e + 32 * z)) (sym q) new)
                (λ (ne : i ≢ j). old (p + 8 * i) (words i (omega (arith, ne))) (λ q. ne (omega arith))
                ∙ at.so_far.entries i (omega (arith, ne)))
                (cases_eq i j);
            others = λ a is out. old a is (out j (omega arith)) ∙ at.so_far.others a is (λ i il. out i (omega arith));
            memory = λ b out. w.memory b out ∙ ap (λ m. m b) r.memory ∙ at.so_far.memory b out;
            good = w.good;
          };
          shows = shows_both s s1 s2 r.shows w.shows;
          others = λ x b none. w.others x (omega arith) tt ∙ r.others x b tt;
        }

    pub put_does_word : DoesWord cx t 28 p e n v U (load_entry (t + 2) (entry_behind t) ++ write)
    put_does_word j l =
        both_quiet cx (load_entry (t + 2) (entry_behind t)) write 4 24 (IsAtWord t p e j v U) (HasLoaded t (e + 32 * j))
        (λ s s1. IsObjectWord map (s1.values (t + 1)) × IsGood s1.memory)
        (λ s. HasWritten map entry IsGood (t + 1) (entry_behind t) (t + 7)) (HasDoneWord t j U)
        (quiet_weaken cx (load_entry (t + 2) (entry_behind t)) 4 4 (λ s. s.values (t + 2) ≡ e + 32 * j)
        (IsAtWord t p e j v U) (HasLoaded t (e + 32 * j)) (HasLoaded t (e + 32 * j)) (omega arith) (λ s at. at.entry)
        (λ s s1 at h. h) (loads map t charge weight (e + 32 * j) (part_lies j l)))
        (λ s. writes true charge weight)
        (λ s s1 at r. (
          subst (IsObjectWord map) (sym (r.others (t + 1) (omega arith) tt ∙ at.word)) (words j l),
          subst IsGood (sym r.memory) at.so_far.good,
        ))
        (put_word j l)
