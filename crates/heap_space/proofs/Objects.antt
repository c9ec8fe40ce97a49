-- The place of a block by the rows is that by the objects.
use Rattle.std.proofs.Common.{◌≡◌, ℕ, zero, suc, ◌+◌, ◌-◌, ◌*◌, ◌/◌, ◌%◌, ◌<◌, ◌≤◌, ◌⊎◌, inl, inr, ⊎_elim, List, []}
use Rattle.std.proofs.Common.{◌∷◌, Bool, true, false, Option, Some, None, if◌then◌else◌, length, get_or, refl, sym, ap}
use Rattle.std.proofs.Common.{◌∙◌, subst, arith}
use Rattle.std.specs.Prelude.{nat_lt}
use Rattle.std.proofs.lemmas.Bool.{cases_lt, lt-ltb, le-ltb}
use Rattle.obj_memory.specs.Objects.{Objects, object_at}
use Rattle.obj_memory.specs.Heap.{is_live_block, block_count, block_room, has_room, least_place}
use Rattle.obj_memory.specs.Sound.{IsClearOf, AreDisjoint}
use Rattle.obj_memory.proofs.Placing.{least_place_found, least_place_by, has_room_tells}
use Rattle.flat_code.specs.Routines.Objects.StandsFor.{BlockRow, Keys, no_row, IsTable}
use Rattle.heap_space.specs.Rows.{row_end, AreInOrder, first_gap, row_place}
use Rattle.heap_space.proofs.Lists.{gap_here, gap_behind, gap_most, gap_aligned, too_many, too_high, has_place}
use Rattle.heap_space.proofs.Counting.{live_block, block_parts, rows_counted}

-- rows in order start behind their first address
pub starts_above : (low high : ℕ) (rows : List BlockRow) → AreInOrder low high rows → (i : ℕ) → i < length rows
    → low ≤ (get_or rows i no_row).start
starts_above low high [] h i l = absurd (omega arith)
starts_above low high (r ∷ rs) h zero l = h.0
starts_above low high (r ∷ rs) h (suc i) l =
    let a = starts_above (row_end r) high rs h.2 i (omega arith) in let b = h.0 in omega arith

-- the gap meets no row
gap_clear : (low high n : ℕ) (rows : List BlockRow) → AreInOrder low high rows → (i : ℕ) → i < length rows
    → (first_gap low n rows + n ≤ (get_or rows i no_row).start)
    ⊎ (row_end (get_or rows i no_row) ≤ first_gap low n rows)
gap_clear low high n [] h i l = absurd (omega arith)
gap_clear low high n (r ∷ rs) h i l = ⊎_elim
    (λ b. (let g = gap_behind low n r rs b in
    let m = gap_most (row_end r) high n rs h.2 in
    subst (λ p. (p + n ≤ (get_or (r ∷ rs) i no_row).start) ⊎ (row_end (get_or (r ∷ rs) i no_row) ≤ p)) (sym g)
    (behind (λ j b'. gap_clear (row_end r) high n rs h.2 j b') i l m)))
    (λ b. (let g = gap_here low n r rs b in inl (let a = above i l in omega arith)))
    (cases_lt r.start (low + n))
  where
    behind : ((j : ℕ) → j < length rs → (first_gap (row_end r) n rs + n ≤ (get_or rs j no_row).start)
        ⊎ (row_end (get_or rs j no_row) ≤ first_gap (row_end r) n rs))
        → (i : ℕ) → i < length (r ∷ rs) → row_end r ≤ first_gap (row_end r) n rs
        → (first_gap (row_end r) n rs + n ≤ (get_or (r ∷ rs) i no_row).start)
        ⊎ (row_end (get_or (r ∷ rs) i no_row) ≤ first_gap (row_end r) n rs)
    behind again zero l m = inr m
    behind again (suc i) l m = again i (omega arith)

    above : (i : ℕ) → i < length (r ∷ rs) → r.start ≤ (get_or (r ∷ rs) i no_row).start
    above zero l = omega arith
    above (suc i) l = let a = starts_above (row_end r) high rs h.2 i (omega arith) in omega arith

-- each address below it meets one
gap_least : (low n : ℕ) (rows : List BlockRow) (q : ℕ) → low ≤ q → q < first_gap low n rows
    → (i : ℕ) × (i < length rows) × (q < row_end (get_or rows i no_row)) × ((get_or rows i no_row).start < q + n)
gap_least low n [] q lo hi = absurd (omega arith)
gap_least low n (r ∷ rs) q lo hi = ⊎_elim
    (λ b. ⊎_elim
    (λ before. (0, omega arith, before, omega arith))
    (λ from. (let g = gap_behind low n r rs b in
    let x = gap_least (row_end r) n rs q from (omega arith) in
    (suc x.0, (let l = x.1 in omega arith), x.2, x.3)))
    (cases_lt q (row_end r)))
    (λ b. absurd (let g = gap_here low n r rs b in omega arith))
    (cases_lt r.start (low + n))

module _ (k : Keys) (objects : Objects) (rows : List BlockRow) (first last size : ℕ) (t : IsTable k objects rows)
    (order : AreInOrder first (last + 1) rows) (aligned : first % 16 ≡ 0) where
  abbrev n : ℕ
  n = block_room size

  abbrev gap : ℕ
  gap = first_gap first n rows

  -- no live block is met there
  clear : (j : ℕ) → is_live_block (object_at objects j) ≡ true → IsClearOf gap n (object_at objects j)
  clear j live =
      let p = block_parts (object_at objects j) live in
      let row = t.row_of j p.1 p.0 in
      let start = row.2.start in let size' = row.2.size in
      let end : row_end (get_or rows row.0 no_row) ≡ (object_at objects j).address + block_room
      (object_at objects j).size =
      ap (λ a. a + block_room (get_or rows row.0 no_row).size) start
      ∙ ap (λ z. (object_at objects j).address + block_room z) size' in
      ⊎_elim (λ l. inl (omega arith)) (λ l. inr (omega arith)) (gap_clear first (last + 1) n rows order row.0 row.1)

  -- a live block is met at each address below
  meets : (q : ℕ) → first ≤ q → q < gap
      → ((j : ℕ) → is_live_block (object_at objects j) ≡ true → IsClearOf q n (object_at objects j)) → ⊥
  meets q lo hi none =
      let x = gap_least first n rows q lo hi in
      let b = t.block_of x.0 x.1 in
      let start = b.1.start in let size' = b.1.size in
      let before = x.2 in let below = x.3 in
      let end : row_end (get_or rows x.0 no_row)
      ≡ (object_at objects b.0).address + block_room (object_at objects b.0).size =
      ap (λ a. a + block_room (get_or rows x.0 no_row).size) start
      ∙ ap (λ z. (object_at objects b.0).address + block_room z) size' in
      ⊎_elim (λ l. omega arith) (λ l. omega arith)
      (none b.0 (live_block (object_at objects b.0) b.1.block b.1.live))

  no_room_below : (q : ℕ) → first ≤ q → q < gap → (b : Bool) → has_room last n objects q ≡ b
      → has_room last n objects q ≡ false
  no_room_below q lo hi true e = absurd (meets q lo hi (has_room_tells last n objects q e).clear)
  no_room_below q lo hi false e = e

  fits : gap + n ≤ last + 1 → least_place first last size objects ≡ Some gap
  fits room =
      let most = gap_most first (last + 1) n rows order in
      let whole = gap_aligned first (last + 1) n rows order aligned in
      let step : gap ≡ first + 16 * ((gap - first) / 16) = omega arith in
      least_place_by first last size objects gap (record {
        step = (gap - first) / 16;
        is_step = step;
        in_heap = room;
        clear = clear;
        least = λ i l. no_room_below (first + 16 * i) (omega arith) (omega arith)
            (has_room last n objects (first + 16 * i)) refl;
      })

  none_fits : last + 1 < gap + n → least_place first last size objects ≡ None
  none_fits high = by (least_place first last size objects) refl
    where
      by : (o : Option ℕ) → least_place first last size objects ≡ o → least_place first last size objects ≡ None
      by None e = e
      by (Some q) e =
          let p = least_place_found first last size objects q e in
          let at = p.is_step in let inside = p.in_heap in
          ⊎_elim (λ below. absurd (meets q (omega arith) below p.clear)) (λ from. absurd (omega arith)) (cases_lt q gap)

pub place_by_rows : (k : Keys) (objects : Objects) (rows : List BlockRow) (first last blocks size : ℕ)
    → IsTable k objects rows → AreDisjoint objects → AreInOrder first (last + 1) rows → first % 16 ≡ 0
    → row_place first (last + 1) blocks size rows
    ≡ (if nat_lt (block_count objects) blocks then least_place first last size objects else None)
place_by_rows k objects rows first last blocks size t d order aligned =
    let count = rows_counted k objects rows t d in
    ⊎_elim
    (λ few. ⊎_elim
    (λ high. too_high first (last + 1) blocks size rows high
    ∙ sym (none_fits k objects rows first last size t order aligned high)
    ∙ sym (under (block_count objects) (omega arith)))
    (λ room. has_place first (last + 1) blocks size rows few room
    ∙ sym (fits k objects rows first last size t order aligned room)
    ∙ sym (under (block_count objects) (omega arith)))
    (cases_lt (last + 1) (first_gap first (block_room size) rows + block_room size)))
    (λ many. too_many first (last + 1) blocks size rows many ∙ sym (over (block_count objects) (omega arith)))
    (cases_lt (length rows) blocks)
  where
    under : (c : ℕ) → c < blocks → (if nat_lt c blocks then least_place first last size objects else None)
        ≡ least_place first last size objects
    under c l = ap (λ b. if b then least_place first last size objects else None) (lt-ltb c blocks l)

    over : (c : ℕ) → blocks ≤ c → (if nat_lt c blocks then least_place first last size objects else None) ≡ None
    over c l = ap (λ b. if b then least_place first last size objects else None) (le-ltb c blocks l)
