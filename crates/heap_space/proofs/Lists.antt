-- Rows as lists: gaps, insertion, and rows in memory.
use Rattle.std.proofs.Common.{◌≡◌, ℕ, zero, suc, ◌+◌, ◌*◌, ◌%◌, ◌<◌, ◌≤◌, ⊎_elim, List, [], ◌∷◌}
use Rattle.std.proofs.Common.{◌++◌, ◌&&◌, Some, None, if◌then◌else◌, length, refl, sym, ap}
use Rattle.std.proofs.Common.{◌∙◌, subst, arith, append_assoc}
use Rattle.std.specs.Prelude.{nat_lt, nat_le}
use Rattle.std.proofs.lemmas.Bool.{cases_lt, cond-true, cond-false, lt-ltb, le-ltb, le-leb, lt-leb}
use Rattle.std.proofs.Math.Bool.{and-false}
use Rattle.obj_memory.specs.Heap.{block_room}
use Rattle.flat_code.specs.Memory.{Bytes, load}
use Rattle.flat_code.specs.Routines.Metadata.{Metadata, metadata_at}
use Rattle.flat_code.specs.Routines.Objects.StandsFor.{BlockRow}
use Rattle.heap_space.specs.Rows.{row_end, AreInOrder, with_row, first_gap, row_place}
use Rattle.heap_space.specs.Table.{row_at, rows_from}

-- ---- gaps

pub gap_here : (low n : ℕ) (r : BlockRow) (rs : List BlockRow) → low + n ≤ r.start → first_gap low n (r ∷ rs) ≡ low
gap_here low n r rs l = cond-true _ low (first_gap (row_end r) n rs) (le-leb (low + n) r.start l)

pub gap_behind : (low n : ℕ) (r : BlockRow) (rs : List BlockRow) → r.start < low + n
    → first_gap low n (r ∷ rs) ≡ first_gap (row_end r) n rs
gap_behind low n r rs l = cond-false _ low (first_gap (row_end r) n rs) (lt-leb (low + n) r.start l)

pub gap_most : (low high n : ℕ) (rows : List BlockRow) → AreInOrder low high rows → low ≤ first_gap low n rows
gap_most low high n [] h = omega arith
gap_most low high n (r ∷ rs) h = ⊎_elim
    (λ l. let e = gap_behind low n r rs l in let m = gap_most (row_end r) high n rs h.2 in let b = h.0 in omega arith)
    (λ l. let e = gap_here low n r rs l in omega arith)
    (cases_lt r.start (low + n))

pub gap_aligned : (low high n : ℕ) (rows : List BlockRow) → AreInOrder low high rows → low % 16 ≡ 0
    → first_gap low n rows % 16 ≡ 0
gap_aligned low high n [] h a = a
gap_aligned low high n (r ∷ rs) h a = ⊎_elim
    (λ l. (let e = gap_behind low n r rs l in let s = h.1 in
    let m = gap_aligned (row_end r) high n rs h.2 (omega arith) in omega arith))
    (λ l. (let e = gap_here low n r rs l in omega arith))
    (cases_lt r.start (low + n))

-- ---- insertion

pub row_first : (x r : BlockRow) (rs : List BlockRow) → x.start < r.start → with_row x (r ∷ rs) ≡ x ∷ r ∷ rs
row_first x r rs l = cond-true _ (x ∷ r ∷ rs) (r ∷ with_row x rs) (lt-ltb x.start r.start l)

pub row_behind : (x r : BlockRow) (rs : List BlockRow) → r.start ≤ x.start → with_row x (r ∷ rs) ≡ r ∷ with_row x rs
row_behind x r rs l = cond-false _ (x ∷ r ∷ rs) (r ∷ with_row x rs) (le-ltb x.start r.start l)

-- a row in the first gap keeps the order
pub order_with : (low high n : ℕ) (x : BlockRow) (rows : List BlockRow) → AreInOrder low high rows → 0 < n
    → low % 16 ≡ 0 → x.start ≡ first_gap low n rows → row_end x ≡ x.start + n → x.start + n ≤ high
    → AreInOrder low high (with_row x rows)
order_with low high n x [] h some a e d l =
    (omega arith, omega arith, subst (λ z. z ≤ high) (sym d) l)
order_with low high n x (r ∷ rs) h some a e d l = ⊎_elim
    (λ b.
    let g = gap_behind low n r rs b in
    let m = gap_most (row_end r) high n rs h.2 in
    let s = h.1 in
    subst (AreInOrder low high) (sym (row_behind x r rs (omega arith)))
    (h.0, h.1, order_with (row_end r) high n x rs h.2 some (omega arith) (e ∙ g) d l))
    (λ b.
    let g = gap_here low n r rs b in
    subst (AreInOrder low high) (sym (row_first x r rs (omega arith)))
    (omega arith, omega arith, (subst (λ z. z ≤ r.start) (sym d) (omega arith), h.1, h.2)))
    (cases_lt r.start (low + n))

-- ---- where no place is found

pub too_many : (low high blocks size : ℕ) (rows : List BlockRow) → blocks ≤ length rows
    → row_place low high blocks size rows ≡ None
too_many low high blocks size rows l =
    ap (λ b. if b && nat_le (first_gap low (block_room size) rows + block_room size) high
    then Some (first_gap low (block_room size) rows) else None) (le-ltb (length rows) blocks l)

pub too_high : (low high blocks size : ℕ) (rows : List BlockRow)
    → high < first_gap low (block_room size) rows + block_room size → row_place low high blocks size rows ≡ None
too_high low high blocks size rows l =
    ap (λ b. if nat_lt (length rows) blocks && b then Some (first_gap low (block_room size) rows) else None)
    (lt-leb (first_gap low (block_room size) rows + block_room size) high l)
    ∙ ap (λ b. if b then Some (first_gap low (block_room size) rows) else None)
    (and-false (nat_lt (length rows) blocks))

pub has_place : (low high blocks size : ℕ) (rows : List BlockRow) → length rows < blocks
    → first_gap low (block_room size) rows + block_room size ≤ high
    → row_place low high blocks size rows ≡ Some (first_gap low (block_room size) rows)
has_place low high blocks size rows few l =
    ap (λ b. if b && nat_le (first_gap low (block_room size) rows + block_room size) high
    then Some (first_gap low (block_room size) rows) else None) (lt-ltb (length rows) blocks few)
    ∙ ap (λ b. if b then Some (first_gap low (block_room size) rows) else None)
    (le-leb (first_gap low (block_room size) rows + block_room size) high l)

-- ---- rows in memory

-- a row is the first three of its four words
abbrev row_of : Metadata → BlockRow
row_of e = record { start = e.base; size = e.bound; key = e.key }

pub rows_length : (m : Bytes) (a n : ℕ) → length (rows_from m a n) ≡ n
rows_length m a zero = refl
rows_length m a (suc n) = ap suc (rows_length m (a + 32) n)

pub rows_same : (m m' : Bytes) (a a' n : ℕ)
    → ((j : ℕ) → j < n → metadata_at m' (a' + 32 * j) ≡ metadata_at m (a + 32 * j))
    → rows_from m' a' n ≡ rows_from m a n
rows_same m m' a a' zero h = refl
rows_same m m' a a' (suc n) h =
    let z : a + 32 * 0 ≡ a = omega arith in
    let z' : a' + 32 * 0 ≡ a' = omega arith in
    let first : row_at m' a' ≡ row_at m a =
    ap row_of (ap (metadata_at m') (sym z') ∙ h 0 (omega arith) ∙ ap (metadata_at m) z) in
    let rest = rows_same m m' (a + 32) (a' + 32) n (λ j l.
    let e : a + 32 * suc j ≡ a + 32 + 32 * j = omega arith in
    let e' : a' + 32 * suc j ≡ a' + 32 + 32 * j = omega arith in
    ap (metadata_at m') (sym e') ∙ h (suc j) (omega arith) ∙ ap (metadata_at m) e) in
    ap (λ x. x ∷ rows_from m' (a' + 32) n) first ∙ ap (λ xs. row_at m a ∷ xs) rest

pub rows_append : (m : Bytes) (a i k : ℕ) → rows_from m a (i + k) ≡ rows_from m a i ++ rows_from m (a + 32 * i) k
rows_append m a zero k =
    let e : 0 + k ≡ k = omega arith in
    let z : a ≡ a + 32 * 0 = omega arith in
    ap (rows_from m a) e ∙ ap (λ b. rows_from m b k) z
rows_append m a (suc i) k =
    let e : suc i + k ≡ suc (i + k) = omega arith in
    let z : a + 32 + 32 * i ≡ a + 32 * suc i = omega arith in
    ap (rows_from m a) e ∙ ap (λ xs. row_at m a ∷ xs) (rows_append m (a + 32) i k)
    ∙ ap (λ b. row_at m a ∷ (rows_from m (a + 32) i ++ rows_from m b k)) z

-- one more row before the others
pub rows_onward : (m : Bytes) (a i : ℕ) (xs : List BlockRow)
    → rows_from m a i ++ (row_at m (a + 32 * i) ∷ xs) ≡ rows_from m a (suc i) ++ xs
rows_onward m a i xs =
    let one : i + 1 ≡ suc i = omega arith in
    sym (append_assoc (rows_from m a i) (row_at m (a + 32 * i) ∷ []) xs)
    ∙ ap (λ ys. ys ++ xs) (sym (rows_append m a i 1) ∙ ap (rows_from m a) one)

pub gap_in_heap : (low high n : ℕ) (rows : List BlockRow) → AreInOrder low high rows → first_gap low n rows ≤ high
gap_in_heap low high n [] h = h
gap_in_heap low high n (r ∷ rs) h = ⊎_elim
    (λ l. (let e = gap_behind low n r rs l in let m = gap_in_heap (row_end r) high n rs h.2 in omega arith))
    (λ l. (let e = gap_here low n r rs l in let a = h.0 in
    let m = gap_in_heap (row_end r) high n rs h.2 in
    let k = gap_most (row_end r) high n rs h.2 in omega arith))
    (cases_lt r.start (low + n))

-- two rows of equal words
pub row_same : (m m' : Bytes) (a b : ℕ) → metadata_at m' b ≡ metadata_at m a → row_at m' b ≡ row_at m a
row_same m m' a b e = ap row_of e

pub end_same : (m m' : Bytes) (a b : ℕ) → metadata_at m' b ≡ metadata_at m a
    → load 8 m (a + 24) ≡ row_end (row_at m a) → load 8 m' (b + 24) ≡ row_end (row_at m' b)
end_same m m' a b e h = ap (λ z. z.lock) e ∙ h ∙ ap row_end (sym (row_same m m' a b e))
