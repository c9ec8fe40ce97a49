-- The table of live blocks with one row more, and without one.
use Rattle.std.proofs.Common.{◌≡◌, ◌≢◌, ℕ, zero, suc, ◌<◌, ◌⊎◌, inl, inr, ⊎_elim, List, [], ◌∷◌, true, length}
use Rattle.std.proofs.Common.{get_or, refl, sym, ◌∙◌, subst, arith}
use Rattle.std.proofs.lemmas.Bool.{cases_eq, cases_lt}
use Rattle.obj_memory.specs.declared.object.Storage.TheVariants.{Allocated}
use Rattle.obj_memory.specs.Objects.{Objects, object_at}
use Rattle.flat_code.specs.Routines.Objects.StandsFor.{BlockRow, Keys, no_row, IsRowOf, IsTable}
use Rattle.heap_space.specs.Rows.{row_end, AreInOrder, with_row, without_row, HasStart}
use Rattle.heap_space.proofs.Lists.{row_first, row_behind}
use Rattle.heap_space.proofs.Objects.{starts_above}
use Rattle.heap_space.proofs.Removing.{removed_here, removed_behind}

-- ---- rows in order

pub starts_rise : (low high : ℕ) (rows : List BlockRow) → AreInOrder low high rows → (i j : ℕ) → i < j
    → j < length rows → (get_or rows i no_row).start < (get_or rows j no_row).start
starts_rise low high [] h i j l k = absurd (omega arith)
starts_rise low high (r ∷ rs) h i zero l k = absurd (omega arith)
starts_rise low high (r ∷ rs) h zero (suc j) l k =
    let a = starts_above (row_end r) high rs h.2 j (omega arith) in omega arith
starts_rise low high (r ∷ rs) h (suc i) (suc j) l k = starts_rise (row_end r) high rs h.2 i j (omega arith)
    (omega arith)

-- ---- one more

-- where a row stands among others
abbrev Stands : (row : BlockRow) → List BlockRow → Type 0
Stands row rows = (i : ℕ) × (i < length rows) × (get_or rows i no_row ≡ row)

behind_first : (row r : BlockRow) (rs : List BlockRow) → Stands row rs → Stands row (r ∷ rs)
behind_first row r rs s = (suc s.0, (let l = s.1 in omega arith), s.2)

new_stands : (x : BlockRow) (rows : List BlockRow) → Stands x (with_row x rows)
new_stands x [] = (0, omega arith, refl)
new_stands x (r ∷ rs) = ⊎_elim
    (λ l. subst (Stands x) (sym (row_first x r rs l)) (0, omega arith, refl))
    (λ l. subst (Stands x) (sym (row_behind x r rs l)) (behind_first x r (with_row x rs) (new_stands x rs)))
    (cases_lt x.start r.start)

old_stands : (x : BlockRow) (rows : List BlockRow) (j : ℕ) → j < length rows
    → Stands (get_or rows j no_row) (with_row x rows)
old_stands x [] j l = absurd (omega arith)
old_stands x (r ∷ rs) j l = ⊎_elim
    (λ b. subst (Stands (get_or (r ∷ rs) j no_row)) (sym (row_first x r rs b)) (suc j, omega arith, refl))
    (λ b. subst (Stands (get_or (r ∷ rs) j no_row)) (sym (row_behind x r rs b)) (by (λ i h. old_stands x rs i h) j l))
    (cases_lt x.start r.start)
  where
    by : ((i : ℕ) → i < length rs → Stands (get_or rs i no_row) (with_row x rs)) → (j : ℕ) → j < length (r ∷ rs)
        → Stands (get_or (r ∷ rs) j no_row) (r ∷ with_row x rs)
    by again zero l = (0, omega arith, refl)
    by again (suc j) l = behind_first (get_or rs j no_row) r (with_row x rs) (again j (omega arith))

-- each is the new one or an old one
abbrev IsNewOrOld : (x row : BlockRow) → List BlockRow → Type 0
IsNewOrOld x row rows = (row ≡ x) ⊎ ((j : ℕ) × (j < length rows) × (row ≡ get_or rows j no_row))

new_or_old : (x : BlockRow) (rows : List BlockRow) (i : ℕ) → i < length (with_row x rows)
    → IsNewOrOld x (get_or (with_row x rows) i no_row) rows
new_or_old x [] zero l = inl refl
new_or_old x [] (suc i) l = absurd (omega arith)
new_or_old x (r ∷ rs) i l = ⊎_elim
    (λ b. (let e = row_first x r rs b in
    subst (λ ys. IsNewOrOld x (get_or ys i no_row) (r ∷ rs)) (sym e)
    (first i (subst (λ ys. i < length ys) e l))))
    (λ b. (let e = row_behind x r rs b in
    subst (λ ys. IsNewOrOld x (get_or ys i no_row) (r ∷ rs)) (sym e)
    (later (λ j h. new_or_old x rs j h) i (subst (λ ys. i < length ys) e l))))
    (cases_lt x.start r.start)
  where
    first : (i : ℕ) → i < length (x ∷ r ∷ rs) → IsNewOrOld x (get_or (x ∷ r ∷ rs) i no_row) (r ∷ rs)
    first zero l = inl refl
    first (suc i) l = inr (i, omega arith, refl)

    later : ((j : ℕ) → j < length (with_row x rs) → IsNewOrOld x (get_or (with_row x rs) j no_row) rs) → (i : ℕ)
        → i < length (r ∷ with_row x rs) → IsNewOrOld x (get_or (r ∷ with_row x rs) i no_row) (r ∷ rs)
    later again zero l = inr (0, omega arith, refl)
    later again (suc i) l = ⊎_elim (λ e. inl e) (λ q. inr (suc q.0, (let k = q.1 in omega arith), q.2))
        (again i (omega arith))

module _ (k k' : Keys) (old new : Objects) (rows : List BlockRow) (x : BlockRow) (made low high : ℕ)
    (t : IsTable k old rows) (order : AreInOrder low high (with_row x rows))
    (stays : (row : BlockRow) (n : ℕ) → IsRowOf k old row n → IsRowOf k' new row n) (born : IsRowOf k' new x made)
    (was : (n : ℕ) → n ≢ made → (object_at new n).is_live ≡ true → (object_at new n).storage ≡ Allocated
    → ((object_at old n).is_live ≡ true) × ((object_at old n).storage ≡ Allocated)) where
  pub table_with : IsTable k' new (with_row x rows)
  table_with = record {
    by_address = λ i j l h. starts_rise low high (with_row x rows) order i j l h;
    block_of = λ i l. ⊎_elim
        (λ e. (made, subst (λ r. IsRowOf k' new r made) (sym e) born))
        (λ q. (let b = t.block_of q.0 q.1 in
        (b.0, subst (λ r. IsRowOf k' new r b.0) (sym q.2) (stays (get_or rows q.0 no_row) b.0 b.1))))
        (new_or_old x rows i l);
    row_of = λ n live block. ⊎_elim
        (λ e. (let s = new_stands x rows in
        (s.0, s.1, subst (λ r. IsRowOf k' new r n) (sym s.2) (subst (IsRowOf k' new x) (sym e) born))))
        (λ ne. (let o = was n ne live block in let r = t.row_of n o.0 o.1 in
        let s = old_stands x rows r.0 r.1 in
        (s.0, s.1, subst (λ y. IsRowOf k' new y n) (sym s.2) (stays (get_or rows r.0 no_row) n r.2))))
        (cases_eq n made);
  }

-- ---- one less

-- each is an old one that starts elsewhere
abbrev IsOldBut : (a : ℕ) → (row : BlockRow) → List BlockRow → Type 0
IsOldBut a row rows = (j : ℕ) × (j < length rows) × (row ≡ get_or rows j no_row) × (row.start ≢ a)

old_but : (low high a : ℕ) (rows : List BlockRow) → AreInOrder low high rows → (i : ℕ)
    → i < length (without_row a rows) → IsOldBut a (get_or (without_row a rows) i no_row) rows
old_but low high a [] h i l = absurd (omega arith)
old_but low high a (r ∷ rs) h i l = ⊎_elim
    (λ b. (let e = removed_here a r rs b in
    subst (λ ys. IsOldBut a (get_or ys i no_row) (r ∷ rs)) (sym e)
    (let k : i < length rs = subst (λ ys. i < length ys) e l in
    let above = starts_above (row_end r) high rs h.2 i k in
    (suc i, omega arith, refl, λ q. omega arith))))
    (λ b. (let e = removed_behind a r rs b in
    subst (λ ys. IsOldBut a (get_or ys i no_row) (r ∷ rs)) (sym e)
    (later (λ j k. old_but (row_end r) high a rs h.2 j k) b i (subst (λ ys. i < length ys) e l))))
    (cases_eq r.start a)
  where
    later : ((j : ℕ) → j < length (without_row a rs) → IsOldBut a (get_or (without_row a rs) j no_row) rs)
        → r.start ≢ a → (i : ℕ) → i < length (r ∷ without_row a rs)
        → IsOldBut a (get_or (r ∷ without_row a rs) i no_row) (r ∷ rs)
    later again b zero l = (0, omega arith, refl, b)
    later again b (suc i) l =
        let q = again i (omega arith) in
        (suc q.0, (let k = q.1 in omega arith), q.2, q.3)

still_stands : (a : ℕ) (rows : List BlockRow) (j : ℕ) → j < length rows → (get_or rows j no_row).start ≢ a
    → Stands (get_or rows j no_row) (without_row a rows)
still_stands a [] j l ne = absurd (omega arith)
still_stands a (r ∷ rs) j l ne = ⊎_elim
    (λ b. subst (Stands (get_or (r ∷ rs) j no_row)) (sym (removed_here a r rs b)) (here b j l ne))
    (λ b. subst (Stands (get_or (r ∷ rs) j no_row)) (sym (removed_behind a r rs b))
    (later (λ i h d. still_stands a rs i h d) j l ne))
    (cases_eq r.start a)
  where
    here : r.start ≡ a → (j : ℕ) → j < length (r ∷ rs) → (get_or (r ∷ rs) j no_row).start ≢ a
        → Stands (get_or (r ∷ rs) j no_row) rs
    here b zero l ne = absurd (ne b)
    here b (suc j) l ne = (j, omega arith, refl)

    later : ((i : ℕ) → i < length rs → (get_or rs i no_row).start ≢ a → Stands (get_or rs i no_row) (without_row a rs))
        → (j : ℕ) → j < length (r ∷ rs) → (get_or (r ∷ rs) j no_row).start ≢ a
        → Stands (get_or (r ∷ rs) j no_row) (r ∷ without_row a rs)
    later again zero l ne = (0, omega arith, refl)
    later again (suc j) l ne = behind_first (get_or rs j no_row) r (without_row a rs) (again j (omega arith) ne)

pub has_start : (a : ℕ) (rows : List BlockRow) (j : ℕ) → j < length rows → (get_or rows j no_row).start ≡ a
    → HasStart a rows
has_start a [] j l e = absurd (omega arith)
has_start a (r ∷ rs) zero l e = inl e
has_start a (r ∷ rs) (suc j) l e = inr (has_start a rs j (omega arith) e)

module _ (k : Keys) (old new : Objects) (rows : List BlockRow) (a low high low' high' : ℕ) (t : IsTable k old rows)
    (order : AreInOrder low high rows) (after : AreInOrder low' high' (without_row a rows))
    (stays : (row : BlockRow) (n : ℕ) → row.start ≢ a → IsRowOf k old row n → IsRowOf k new row n)
    (was : (n : ℕ) → (object_at new n).is_live ≡ true → (object_at new n).storage ≡ Allocated
    → ((object_at old n).is_live ≡ true) × ((object_at old n).storage ≡ Allocated)
    × ((object_at old n).address ≢ a)) where
  pub table_without : IsTable k new (without_row a rows)
  table_without = record {
    by_address = λ i j l h. starts_rise low' high' (without_row a rows) after i j l h;
    block_of = λ i l. (let q = old_but low high a rows order i l in let b = t.block_of q.0 q.1 in
        (b.0, stays (get_or (without_row a rows) i no_row) b.0 q.3 (subst (λ r. IsRowOf k old r b.0) (sym q.2) b.1)));
    row_of = λ n live block. (let o = was n live block in let r = t.row_of n o.0 o.1 in
        let ne : (get_or rows r.0 no_row).start ≢ a = λ e. o.2 (sym r.2.start ∙ e) in
        let s = still_stands a rows r.0 r.1 ne in
        (s.0, s.1, subst (λ y. IsRowOf k new y n) (sym s.2) (stays (get_or rows r.0 no_row) n ne r.2)));
  }
