-- A block is placed.
use Rattle.std.proofs.Common.{◌≡◌, ℕ, suc, ◌+◌, ◌-◌, ◌*◌, ◌/◌, ◌%◌, ◌^◌, ◌<◌, ◌≤◌, ◌⊎◌, inl, inr, ⊎_elim}
use Rattle.std.proofs.Common.{◌∷◌, ◌++◌, None, if◌then◌else◌, refl, sym, ap, ◌∙◌}
use Rattle.std.proofs.Common.{subst, arith}
use Rattle.std.specs.Prelude.{nat_lt}
use Rattle.std.proofs.lemmas.Bool.{cases_lt, cond-true, cond-false, lt-ltb, le-ltb}
use Rattle.addr_map.specs.declared.region.Region.TheVariants.{Heap, Blocks}
use Rattle.addr_map.specs.Places.{MapSizes, region_size, region_start, region_end}
use Rattle.obj_memory.specs.Heap.{block_room}
use Rattle.flat_code.specs.Memory.{Bytes, load, store}
use Rattle.flat_code.proofs.Stored.{load_stored, store_beside, kept_beside, keeps_within, keeps_both}
use Rattle.flat_code.specs.Routines.Metadata.{Metadata, metadata_at}
use Rattle.flat_code.proofs.Routines.Words.{store_four, IsOfFourWords, four_read, four_beside, metadata_kept}
use Rattle.flat_code.specs.Routines.Objects.StandsFor.{BlockRow}
use Rattle.heap_space.specs.Rows.{row_end, AreInOrder, with_row, first_gap}
use Rattle.heap_space.specs.Table.{total_cell, row_cell, block_total, row_at, rows_from, block_rows, IsTableGood}
use Rattle.heap_space.specs.Table.{KeepsButTable}
use Rattle.heap_space.specs.Routines.{IsPlacedIn, place_of}
use Rattle.heap_space.proofs.Regions.{IsTableLaidOut}
use Rattle.heap_space.proofs.Lists.{order_with, has_place, rows_length, rows_same, rows_append, end_same}
use Rattle.heap_space.proofs.Inserting.{AreMovedUp}

-- ---- the room

rounded_with : (bit size : ℕ) → size < 2 ^ 31 → ((bit ≡ 1) × (size < 1)) ⊎ ((bit ≡ 0) × (1 ≤ size))
    → (((bit + size) % 2 ^ 64 + 15) % 2 ^ 64 / 16 * 16) % 2 ^ 64 ≡ block_room size
rounded_with bit size small h = ⊎_elim
    (λ p. (let b = p.0 in let l = p.1 in omega arith))
    (λ p. (let b = p.0 in let l = p.1 in omega arith))
    h

pub room_rounded : (size : ℕ) → size < 2 ^ 31
    → ((((if nat_lt size 1 then 1 else 0) + size) % 2 ^ 64 + 15) % 2 ^ 64 / 16 * 16) % 2 ^ 64 ≡ block_room size
room_rounded size small = rounded_with (if nat_lt size 1 then 1 else 0) size small (⊎_elim
    (λ l. inl (cond-true (nat_lt size 1) 1 0 (lt-ltb size 1 l), l))
    (λ l. inr (cond-false (nat_lt size 1) 1 0 (le-ltb size 1 l), l))
    (cases_lt size 1))

-- ---- what is left

pub record Result (s : MapSizes) (m : Bytes) (size key address : ℕ) (m' : Bytes) : Type 0 where
  pub placed : IsPlacedIn s (place_of s size (block_rows s m)) size key address m m'
  pub good : IsTableGood s m'
  pub keeps : KeepsButTable s m m'

pub nothing_placed : (s : MapSizes) (m : Bytes) (size key address : ℕ) (m' : Bytes) → IsTableGood s m
    → place_of s size (block_rows s m) ≡ None → address ≡ 0 → m' ≡ m → Result s m size key address m'
nothing_placed s m size key address m' g none null same = record {
  placed = subst (λ o. IsPlacedIn s o size key address m m') (sym none) (null, same);
  good = subst (IsTableGood s) (sym same) g;
  keeps = λ b out. ap (λ z. z b) same;
}

-- ---- a row is written where there is room for it

-- the new row
abbrev new_row : (place size key : ℕ) → BlockRow
new_row p size key = record { start = p; size = size; key = key }

abbrev pub new_words : (place size key : ℕ) → Metadata
new_words p size key = record { base = p; bound = size; key = key; lock = p + block_room size }

abbrev pub written : MapSizes → Bytes → (i total : ℕ) → Metadata → Bytes
written s m1 i total e = store 8 (store_four m1 (row_cell s i) e) (total_cell s) (suc total)

module _ (s : MapSizes) (lie : IsTableLaidOut s) (m m1 : Bytes) (g : IsTableGood s m) (size key i k : ℕ)
    (count : i + k ≡ block_total s m) (less : block_total s m < s.budgets.blocks)
    (h : AreMovedUp s i (block_total s m) m m1)
    (words : IsOfFourWords (new_words (first_gap (region_start s Heap) (block_room size) (block_rows s m)) size key))
    (inserted : (x : BlockRow)
    → x.start ≡ first_gap (region_start s Heap) (block_room size) (block_rows s m)
    → with_row x (block_rows s m) ≡ rows_from m (row_cell s 0) i ++ (x ∷ rows_from m (row_cell s i) k))
    (room : first_gap (region_start s Heap) (block_room size) (block_rows s m) + block_room size
    ≤ region_end s Heap) where
  abbrev place : ℕ
  place = first_gap (region_start s Heap) (block_room size) (block_rows s m)

  abbrev total : ℕ
  total = block_total s m

  abbrev e : Metadata
  e = new_words place size key

  abbrev m2 : Bytes
  m2 = store_four m1 (row_cell s i) e

  abbrev m' : Bytes
  m' = written s m1 i total e

  -- the rows of the table
  cell_beside : (j : ℕ) → metadata_at m' (row_cell s j) ≡ metadata_at m2 (row_cell s j)
  cell_beside j = metadata_kept m2 m' (row_cell s j)
      (kept_beside (total_cell s) 8 (row_cell s j) 32 m2 m' (store_beside 8 m2 (total_cell s) (suc total))
      (inr (omega arith)))

  row_before : (j : ℕ) → j < i → metadata_at m' (row_cell s j) ≡ metadata_at m (row_cell s j)
  row_before j l =
      cell_beside j
      ∙ metadata_kept m1 m2 (row_cell s j)
      (kept_beside (row_cell s i) 32 (row_cell s j) 32 m1 m2 (four_beside m1 (row_cell s i) e) (inl (omega arith)))
      ∙ metadata_kept m m1 (row_cell s j)
      (kept_beside (row_cell s (suc i)) (32 * (total - i)) (row_cell s j) 32 m m1 h.keeps (inl (omega arith)))

  row_here : metadata_at m' (row_cell s i) ≡ e
  row_here = cell_beside i ∙ four_read m1 (row_cell s i) e words

  row_after : (j : ℕ) → i ≤ j → j < total → metadata_at m' (row_cell s (suc j)) ≡ metadata_at m (row_cell s j)
  row_after j l b =
      cell_beside (suc j)
      ∙ metadata_kept m1 m2 (row_cell s (suc j))
      (kept_beside (row_cell s i) 32 (row_cell s (suc j)) 32 m1 m2 (four_beside m1 (row_cell s i) e)
      (inr (omega arith)))
      ∙ h.moved j l b

  written_total : block_total s m' ≡ suc total
  written_total = let f = lie.few in load_stored 8 m2 (total_cell s) (suc total) (omega arith)

  written_rows : block_rows s m' ≡ with_row (new_row place size key) (block_rows s m)
  written_rows =
      let all : suc total ≡ i + suc k = omega arith in
      let at : row_cell s 0 + 32 * i ≡ row_cell s i = omega arith in
      let after : row_cell s i + 32 ≡ row_cell s (suc i) = omega arith in
      ap (rows_from m' (row_cell s 0)) (written_total ∙ all)
      ∙ rows_append m' (row_cell s 0) i (suc k)
      ∙ ap (λ a. rows_from m' (row_cell s 0) i ++ rows_from m' a (suc k)) at
      ∙ ap (λ xs. xs ++ rows_from m' (row_cell s i) (suc k))
      (rows_same m m' (row_cell s 0) (row_cell s 0) i (λ j l.
      let c : row_cell s 0 + 32 * j ≡ row_cell s j = omega arith in
      subst (λ a. metadata_at m' a ≡ metadata_at m a) (sym c) (row_before j l)))
      ∙ ap (λ r. rows_from m (row_cell s 0) i ++ (r ∷ rows_from m' (row_cell s i + 32) k))
      (ap (λ z. record { start = z.base; size = z.bound; key = z.key }) row_here)
      ∙ ap (λ xs. rows_from m (row_cell s 0) i ++ (new_row place size key ∷ xs))
      (rows_same m m' (row_cell s i) (row_cell s i + 32) k (λ j l.
      let c : row_cell s i + 32 + 32 * j ≡ row_cell s (suc (i + j)) = omega arith in
      let d : row_cell s i + 32 * j ≡ row_cell s (i + j) = omega arith in
      ap (metadata_at m') c ∙ row_after (i + j) (omega arith) (omega arith) ∙ ap (metadata_at m) (sym d)))
      ∙ sym (inserted (new_row place size key) refl)

  written_ends : (j : ℕ) → j < block_total s m'
      → load 8 m' (row_cell s j + 24) ≡ row_end (row_at m' (row_cell s j))
  written_ends j l =
      let n = written_total in
      ⊎_elim
      (λ before. end_same m m' (row_cell s j) (row_cell s j) (row_before j before) (g.ends j (omega arith)))
      (λ from. ⊎_elim
      (λ here. (let at : j ≡ i = omega arith in
      subst (λ x. load 8 m' (row_cell s x + 24) ≡ row_end (row_at m' (row_cell s x))) (sym at)
      (ap (λ z. z.lock) row_here
      ∙ sym (ap (λ z. row_end (record { start = z.base; size = z.bound; key = z.key })) row_here))))
      (λ behind. (let at : suc (j - 1) ≡ j = omega arith in
      subst (λ x. load 8 m' (row_cell s x + 24) ≡ row_end (row_at m' (row_cell s x))) at
      (end_same m m' (row_cell s (j - 1)) (row_cell s (suc (j - 1))) (row_after (j - 1) (omega arith) (omega arith))
      (g.ends (j - 1) (omega arith)))))
      (cases_lt j (suc i)))
      (cases_lt j i)

  pub row_written : Result s m size key place m'
  row_written =
      let some : 0 < block_room size = omega arith in
      let f = lie.ends in let t = written_total in
      record {
        placed = subst (λ o. IsPlacedIn s o size key place m m')
            (sym (has_place (region_start s Heap) (region_end s Heap) s.budgets.blocks size (block_rows s m)
            (let n = rows_length m (row_cell s 0) total in omega arith) room))
            (refl, written_rows);
        good = record {
          few = omega arith;
          in_order = subst (AreInOrder (region_start s Heap) (region_end s Heap)) (sym written_rows)
              (order_with (region_start s Heap) (region_end s Heap) (block_room size) (new_row place size key)
              (block_rows s m) g.in_order some lie.heap_aligned refl refl room);
          ends = written_ends;
        };
        keeps = keeps_both (region_start s Blocks) (region_size s Blocks) m m1 m'
            (keeps_within (row_cell s (suc i)) (32 * (total - i)) (region_start s Blocks) (region_size s Blocks) m m1
            (omega arith) (omega arith) h.keeps)
            (keeps_both (region_start s Blocks) (region_size s Blocks) m1 m2 m'
            (keeps_within (row_cell s i) 32 (region_start s Blocks) (region_size s Blocks) m1 m2 (omega arith)
            (omega arith) (four_beside m1 (row_cell s i) e))
            (keeps_within (total_cell s) 8 (region_start s Blocks) (region_size s Blocks) m2 m' (omega arith)
            (omega arith) (store_beside 8 m2 (total_cell s) (suc total))));
      }
