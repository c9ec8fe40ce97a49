-- The bytes with which the two levels begin.
use Rattle.std.proofs.Common.{◌≡◌, ◌≢◌, ℕ, zero, suc, ◌+◌, ◌*◌, ◌<◌, ◌≤◌, inl, inr, ⊎_elim, List}
use Rattle.std.proofs.Common.{[], ◌∷◌, drop, get_or, length, replicate, refl, sym, ap, ◌∙◌, subst, arith}
use Rattle.std.proofs.lemmas.Bool.{cases_lt}
use Rattle.std.proofs.lemmas.List.{length-replicate}
use Rattle.addr_map.specs.Places.{MapSizes, AreMapped, spaces_begin, region_size, region_start}
use Rattle.flat_code.specs.Memory.{Bytes, store}
use Rattle.flat_code.proofs.Stored.{load_stored, load_beside, store_beside, load_kept}
use Rattle.flat_code.specs.Routines.Metadata.{no_metadata, IsObjectWord, KeepsShadow}
use Rattle.flat_code.proofs.Routines.Words.{store_four, zero_loaded}
use Rattle.shadow_space.specs.declared.start.StartEntry.{StartEntry}
use Rattle.shadow_space.specs.Start.{metadata_of, with_word, IsGlobalWord, IsStartEntry, AreStartEntries, StartsShadow}
use Rattle.shadow_space.specs.Start.{begun}
use Rattle.shadow_space.proofs.Starting.{Agrees, word_agrees, length_word, entry_agrees, length_entry, global_word}
use Rattle.shadow_space.proofs.Starting.{HasEntry, have_entries, started, entry_at, past_end, zeros_agree}
use Rattle.shadow_space.specs.TwoLevel.Tables.{pages, page_of, entry_offset, taken_cell, page_cell, first_table}
use Rattle.shadow_space.specs.TwoLevel.Tables.{table_of}
use Rattle.shadow_space.specs.TwoLevel.Tables.{taken_bytes, two_level_entry, AreTablesGood}
use Rattle.shadow_space.specs.TwoLevel.Start.{global_pages, start_size, with_tables, empty_tables, table_put}
use Rattle.shadow_space.specs.TwoLevel.Start.{counted_bytes}
use Rattle.shadow_space.specs.TwoLevel.Start.{two_level_start}
use Rattle.shadow_space.proofs.TwoLevel.Levels.{AreLevelsLaidOut, levels_laid_out, no_table, with_table}
use Rattle.shadow_space.proofs.TwoLevel.Levels.{offset_below, cell_kept, levels_local}
use Rattle.shadow_space.proofs.TwoLevel.Taking.{zero_entry}
use Rattle.shadow_space.proofs.TwoLevel.Writing.{written_there}

-- static objects take no more pages than all objects
pub few_pages : (s : MapSizes) → global_pages s ≤ pages s
few_pages s = omega arith

-- the page of a word of theirs has a table at the start
pub global_page : (s : MapSizes) (a : ℕ) → IsGlobalWord s a → page_of a < global_pages s
unfolding region_start region_size
global_page s a w = omega (arith, w.first, w.last)

-- where its entry stands in the bytes
pub place_of_entry : (s : MapSizes) (a : ℕ) → IsGlobalWord s a
    → 8 + 8 * pages s + 16384 * page_of a + entry_offset a + 32 ≤ start_size s
place_of_entry s a w =
    let p = global_page s a w in let o = offset_below s a (global_word s a w) in omega arith

-- the cell and zeros, as they are made
pub counted_are : (s : MapSizes) (count size : ℕ) (zeros bytes : List ℕ) → count ≡ 16384 * global_pages s
    → size ≡ start_size s → zeros ≡ replicate size 0 → bytes ≡ with_word 0 count zeros → bytes ≡ counted_bytes s
unfolding counted_bytes
counted_are s count size zeros bytes a b c d =
    d ∙ ap (λ n. with_word 0 n zeros) a ∙ ap (with_word 0 (16384 * global_pages s)) (c ∙ ap (λ n. replicate n 0) b)

pub place_of_next : (s : MapSizes) (es : List StartEntry) (i : ℕ) (d : StartEntry) → i < length es
    → AreStartEntries s (drop i es)
    → 8 + 8 * pages s + 16384 * page_of (get_or es i d).at + entry_offset (get_or es i d).at + 32 ≤ start_size s
place_of_next s es i d l h = place_of_entry s (get_or es i d).at (entry_at s es i d l h).word

-- ---- a memory with these tables

abbrev tabled : MapSizes → (count : ℕ) → Bytes → Bytes
tabled s zero m = m
tabled s (suc q) m = store 8 (tabled s q m) (page_cell q) (first_table s + 16384 * q)

abbrev counted : MapSizes → Bytes
counted s = store 8 (λ a. 0) taken_cell (16384 * global_pages s)

abbrev empty : MapSizes → Bytes
empty s = tabled s (global_pages s) (counted s)

module _ (s : MapSizes) (lie : AreLevelsLaidOut s) (m : Bytes) where
  own_table : (n q : ℕ) → n ≤ pages s → q < n → table_of (tabled s n m) q ≡ first_table s + 16384 * q
  own_table zero q h l = absurd (omega arith)
  own_table (suc n) q h l =
      let few = lie.few in
      ⊎_elim
      (λ (less : q < n). load_beside 8 8 (tabled s n m) (page_cell n) (page_cell q) (first_table s + 16384 * n)
      (inl (omega arith)) ∙ own_table n q (omega arith) less)
      (λ ge.
      let e : q ≡ n = omega arith in
      ap (table_of (tabled s (suc n) m)) e
      ∙ load_stored 8 (tabled s n m) (page_cell n) (first_table s + 16384 * n) (omega arith)
      ∙ ap (λ k. first_table s + 16384 * k) (sym e))
      (cases_lt q n)

  no_other : (n q : ℕ) → n ≤ q → table_of (tabled s n m) q ≡ table_of m q
  no_other zero q h = refl
  no_other (suc n) q h =
      load_beside 8 8 (tabled s n m) (page_cell n) (page_cell q) (first_table s + 16384 * n) (inr (omega arith))
      ∙ no_other n q (omega arith)

  same_count : (n : ℕ) → taken_bytes (tabled s n m) ≡ taken_bytes m
  same_count zero = refl
  same_count (suc n) =
      load_beside 8 8 (tabled s n m) (page_cell n) taken_cell (first_table s + 16384 * n) (inl (omega arith))
      ∙ same_count n

  behind : (n a : ℕ) → n ≤ pages s → first_table s ≤ a → tabled s n m a ≡ m a
  behind zero a h l = refl
  behind (suc n) a h l =
      store_beside 8 (tabled s n m) (page_cell n) (first_table s + 16384 * n) a (inr (omega arith))
      ∙ behind n a (omega arith) l

-- what holds of the tables, and each page of static objects has the one of its number
record IsBegun (s : MapSizes) (m : Bytes) : Type 0 where
  good : AreTablesGood s m
  own : (q : ℕ) → q < global_pages s → table_of m q ≡ first_table s + 16384 * q

module _ (s : MapSizes) (lie : AreLevelsLaidOut s) where
  few : global_pages s ≤ pages s
  few = few_pages s

  no_page : (q : ℕ) → global_pages s ≤ q → table_of (empty s) q ≡ 0
  no_page q h =
      no_other s lie (counted s) (global_pages s) q h
      ∙ load_beside 8 8 (λ a. 0) taken_cell (page_cell q) (16384 * global_pages s) (inr (omega arith))
      ∙ zero_loaded (page_cell q)

  zero_behind : (a : ℕ) → first_table s ≤ a → empty s a ≡ 0
  zero_behind a l =
      behind s lie (counted s) (global_pages s) a few l
      ∙ store_beside 8 (λ b. 0) taken_cell (16384 * global_pages s) a (inr (omega arith))

  own_page : (q : ℕ) → q < global_pages s → table_of (empty s) q ≡ first_table s + 16384 * q
  own_page q l = own_table s lie (counted s) (global_pages s) q few l

  has_page : (q : ℕ) → table_of (empty s) q ≢ 0 → q < global_pages s
  has_page q ne = ⊎_elim (λ l. l) (λ ge. absurd (ne (no_page q ge))) (cases_lt q (global_pages s))

  empty_begun : IsBegun s (empty s)
  empty_begun = record {
    good = record {
      taken = global_pages s;
      within = few;
      counted = same_count s lie (counted s) (global_pages s)
          ∙ (let l = lie.few in let f = few in
          load_stored 8 (λ a. 0) taken_cell (16384 * global_pages s) (omega arith));
      table = λ q l ne. (let h = has_page q ne in (q, h, own_page q h));
      owner = λ i l. (i, (let f = few in omega arith), own_page i l);
      once = λ p q pl ql ne same.
          (let hp = has_page p ne in let hq = has_page q (λ z. ne (same ∙ z)) in
          let a = own_page p hp in let b = own_page q hq in omega arith);
      reserve = λ a lo hi. zero_behind a (omega arith);
    };
    own = own_page;
  }

  empty_none : (a : ℕ) → IsObjectWord s a → two_level_entry (empty s) a ≡ no_metadata
  empty_none a w = ⊎_elim
      (λ l.
      let t = own_page (page_of a) l in
      with_table (empty s) (table_of (empty s) (page_of a)) (entry_offset a) (λ z. omega arith)
      ∙ zero_entry (empty s) (table_of (empty s) (page_of a) + entry_offset a) (λ i k. zero_behind _ (omega arith)))
      (λ ge. no_table (empty s) (table_of (empty s) (page_of a)) (entry_offset a) (no_page (page_of a) ge))
      (cases_lt (page_of a) (global_pages s))

  -- ---- entries

  abbrev place : StartEntry → ℕ
  place e = first_table s + 16384 * page_of e.at + entry_offset e.at

  abbrev written : Bytes → StartEntry → Bytes
  written m e = store_four m (place e) (metadata_of e)

  has_entry : (m : Bytes) (e : StartEntry) → IsBegun s m → IsStartEntry s e
      → HasEntry s two_level_entry (IsBegun s) e m (written m e)
  has_entry m e b h =
      let w = global_word s e.at h.word in
      let t = b.own (page_of e.at) (global_page s e.at h.word) in
      let some : table_of m (page_of e.at) ≢ 0 = λ z. omega arith in
      let is : table_of m (page_of e.at) + entry_offset e.at ≡ place e = ap (λ k. k + entry_offset e.at) t in
      let r = written_there s lie m b.good e.at w (metadata_of e) some (record {
        base = h.base;
        bound = h.bound;
        key = h.key;
        lock = h.lock;
      }) in
      subst (λ p. HasEntry s two_level_entry (IsBegun s) e m (store_four m p (metadata_of e))) is (record {
        good = record {
          good = r.good;
          own = λ q l. cell_kept s lie m b.good e.at w some (metadata_of e) q (let f = few in omega arith) ∙ b.own q l;
        };
        there = r.written;
        others = λ a wa ne. r.others a wa ne;
      })

  -- ---- bytes

  tables_agree : (n : ℕ) (bytes : List ℕ) (m : Bytes) → 8 + 8 * n ≤ length bytes → Agrees bytes m
      → Agrees (with_tables s n bytes) (tabled s n m) × (length (with_tables s n bytes) ≡ length bytes)
  tables_agree zero bytes m l a = (a, refl)
  tables_agree (suc n) bytes m l a =
      let before = tables_agree n bytes m (omega arith) a in
      let room = before.1 in
      let at : spaces_begin + (8 + 8 * n) ≡ page_cell n = omega arith in (
        subst (λ p. Agrees (with_tables s (suc n) bytes) (store 8 (tabled s n m) p (first_table s + 16384 * n))) at
            (word_agrees (with_tables s n bytes) (tabled s n m) (8 + 8 * n) (first_table s + 16384 * n) (omega arith)
            before.0),
        length_word (with_tables s n bytes) (8 + 8 * n) (first_table s + 16384 * n) (omega arith) ∙ room,
      )

  empty_agrees : Agrees (empty_tables s) (empty s) × (length (empty_tables s) ≡ start_size s)
  unfolding counted_bytes
  empty_agrees =
      let f = few in
      let zeros : List ℕ = replicate (start_size s) 0 in
      let all : length zeros ≡ start_size s = length-replicate (start_size s) 0 in
      let one : length (with_word 0 (16384 * global_pages s) zeros)
      ≡ length zeros = length_word zeros 0 (16384 * global_pages s) (omega arith) in
      let first = word_agrees zeros (λ a. 0) 0 (16384 * global_pages s) (omega arith) (zeros_agree (start_size s)) in
      let r = tables_agree (global_pages s) (counted_bytes s) (counted s) (omega arith)
      first in
      (r.0, r.1 ∙ one ∙ all)

  all_agree : (es : List StartEntry) (bytes : List ℕ) (m : Bytes) → AreStartEntries s es
      → length bytes ≡ start_size s → Agrees bytes m → Agrees (begun (table_put s) es bytes) (begun written es m)
  all_agree [] bytes m h l a = a
  all_agree (e ∷ es) bytes m h l a =
      let room = place_of_entry s e.at h.0.word in
      let o = 8 + 8 * pages s + 16384 * page_of e.at + entry_offset e.at in
      let at : spaces_begin + o ≡ place e = omega arith in
      all_agree es (table_put s bytes e) (written m e) h.2
      (length_entry bytes o (metadata_of e) (omega arith) ∙ l)
      (subst (λ p. Agrees (table_put s bytes e) (store_four m p (metadata_of e))) at
      (entry_agrees bytes m o (metadata_of e) (omega arith) a))

  begun_local : (x y : Bytes) → KeepsShadow s x y → IsBegun s x
      → IsBegun s y × ((a : ℕ) → IsObjectWord s a → two_level_entry y a ≡ two_level_entry x a)
  begun_local x y keep b =
      let r = levels_local s x y lie keep b.good in (
        record {
          good = r.0;
          own = λ q l. load_kept 8 x y (page_cell q) (λ i k. (let f = few in let room = lie.room in
              let e : spaces_begin + (8 + 8 * q + i) ≡ page_cell q + i = omega arith in
              subst (λ z. y z ≡ x z) e (keep (8 + 8 * q + i) (omega arith))))
              ∙ b.own q l;
        },
        r.1,
      )

  pub all_started : (es : List StartEntry) → AreStartEntries s es
      → StartsShadow s two_level_entry (AreTablesGood s) es (two_level_start s es)
  all_started es h x begins =
      let r = started s two_level_entry (IsBegun s) es (two_level_start s es) (empty s) (begun written es (empty s)) h
      begun_local empty_none
      (have_entries s two_level_entry (IsBegun s) written has_entry es (empty s) empty_begun h)
      (all_agree es (empty_tables s) (empty s) h empty_agrees.1 empty_agrees.0) x begins in
      record { good = r.good.good; read = r.read; others = r.others }

-- bytes into which all entries were put
pub bytes_started : (s : MapSizes) (es : List StartEntry) (i : ℕ) (bytes : List ℕ) → AreMapped s
    → AreStartEntries s es → length es ≤ i → begun (table_put s) (drop i es) bytes ≡ two_level_start s es
    → StartsShadow s two_level_entry (AreTablesGood s) es bytes
bytes_started s es i bytes mapped h l e =
    subst (StartsShadow s two_level_entry (AreTablesGood s) es) (sym (sym (past_end (table_put s) es i bytes l) ∙ e))
    (all_started s (levels_laid_out s mapped) es h)
