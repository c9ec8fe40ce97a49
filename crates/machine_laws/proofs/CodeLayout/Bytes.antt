-- The words of functions in the bytes of the two segments of code.
use Rattle.std.proofs.Common.{◌≡◌, ℕ, zero, suc, ◌+◌, ◌*◌, ◌%◌, ◌^◌, ◌<◌, ◌≤◌, List, [], ◌∷◌, ◌++◌, length, drop}
use Rattle.std.proofs.Common.{Some, sym, ap, ◌∙◌, arith, length-append, append_assoc}
use Rattle.std.specs.Prelude.{slice_get}
use Rattle.std.proofs.Math.Seq.{drop-append-add}
use Rattle.std.proofs.lemmas.Option.{slice_get_within}
use Rattle.byteorder.specs.Endian.{little_number, little_bytes}
use Rattle.byteorder.specs.Numbers.{little_number-reads_back}
use Rattle.addr_map.specs.Places.{functions_begin, code_begin, code_size}
use Rattle.rv_sim.specs.Memory.{fetch}
use Rattle.machine_laws.specs.View.Segments.{segments}
use Rattle.machine_laws.specs.View.Views.{Layout}
use Rattle.machine_laws.proofs.View.Places.{fetch_table, fetch_code}
use Rattle.machine_laws.specs.Layout.Lists.{bytes_of, AreWords32, HasBytes, HasWordsAt}

word_at : (ws post : List ℕ) (k w : ℕ) → slice_get ws k ≡ Some w → w < 2 ^ 32
    → little_number 4 (drop (4 * k) (bytes_of ws ++ post)) ≡ w
word_at [] post k w h small = cc
word_at (x ∷ xs) post zero w h small =
    let e : x ≡ w = cc in
    ap (λ y. little_number 4 (bytes_of (y ∷ xs) ++ post)) e
    ∙ ap (little_number 4) (append_assoc (little_bytes 4 w) (bytes_of xs) post)
    ∙ little_number-reads_back 4 w (bytes_of xs ++ post) small
word_at (x ∷ xs) post (suc k) w h small =
    let e : 4 * suc k ≡ suc (suc (suc (suc (4 * k)))) = omega arith in
    ap (λ n. little_number 4 (drop n (bytes_of (x ∷ xs) ++ post))) e ∙ word_at xs post k w h small

-- four bytes for each word
pub bytes_length : (ws : List ℕ) → length (bytes_of ws) ≡ 4 * length ws
bytes_length [] = omega arith
bytes_length (x ∷ xs) = let r = bytes_length xs in omega arith

-- a word of a segment
word_in : (segment : List ℕ) (at : ℕ) (ws : List ℕ) → HasBytes segment at ws → AreWords32 ws → (k w : ℕ)
    → slice_get ws k ≡ Some w
    → (little_number 4 (drop (at + 4 * k) segment) ≡ w) × (at + 4 * k + 4 ≤ length segment)
word_in segment at ws h small k w e =
    let all = bytes_of ws ++ h.behind in
    let len = length-append h.before all in
    let len2 = length-append (bytes_of ws) h.behind in
    let bytes = bytes_length ws in
    let inside = slice_get_within ws k w e in
    let at_is = h.at_is in
    let whole : length segment ≡ length (h.before ++ all) = ap length h.is in (
      ap (λ n. little_number 4 (drop (n + 4 * k) segment)) (sym h.at_is)
          ∙ ap (λ z. little_number 4 (drop (length h.before + 4 * k) z)) h.is
          ∙ ap (little_number 4) (drop-append-add h.before all (4 * k))
          ∙ word_at ws h.behind k w e (small k w e),
      omega arith,
    )

pub stand_in_code : (l : Layout) (at : ℕ) (ws : List ℕ) → HasBytes l.code at ws → AreWords32 ws → at % 4 ≡ 0
    → length l.code ≤ code_size → HasWordsAt l (code_begin + at) ws
stand_in_code l at ws h small whole fits = record {
  fetched = λ k w e objects spaces apart.
      let q = word_in l.code at ws h small k w e in
      let place : code_begin + at + 4 * k ≡ code_begin + (at + 4 * k) = omega arith in
      ap (fetch (segments l.table l.code objects spaces)) place
      ∙ fetch_code l.table l.code objects spaces (at + 4 * k) apart q.1 ∙ ap (λ z. Some z) q.0;
  whole = omega arith;
  end =
      let all = bytes_of ws ++ h.behind in
      let len = length-append h.before all in
      let len2 = length-append (bytes_of ws) h.behind in
      let bytes = bytes_length ws in
      let at_is = h.at_is in
      let total : length l.code ≡ length (h.before ++ all) = ap length h.is in omega arith;
}

pub stand_in_table : (l : Layout) (at : ℕ) (ws : List ℕ) → HasBytes l.table at ws → AreWords32 ws → at % 4 ≡ 0
    → functions_begin + length l.table ≤ code_begin → HasWordsAt l (functions_begin + at) ws
stand_in_table l at ws h small whole fits = record {
  fetched = λ k w e objects spaces apart.
      let q = word_in l.table at ws h small k w e in
      let place : functions_begin + at + 4 * k ≡ functions_begin + (at + 4 * k) = omega arith in
      ap (fetch (segments l.table l.code objects spaces)) place
      ∙ fetch_table l.table l.code objects spaces (at + 4 * k) apart q.1 ∙ ap (λ z. Some z) q.0;
  whole = omega arith;
  end =
      let all = bytes_of ws ++ h.behind in
      let len = length-append h.before all in
      let len2 = length-append (bytes_of ws) h.behind in
      let bytes = bytes_length ws in
      let at_is = h.at_is in
      let total : length l.table ≡ length (h.before ++ all) = ap length h.is in omega arith;
}
