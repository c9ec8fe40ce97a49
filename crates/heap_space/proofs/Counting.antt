-- The rows of the live blocks are as many as the live blocks.
use Rattle.std.proofs.Common.{◌≡◌, ℕ, zero, suc, ◌+◌, ◌<◌, ◌≤◌, ⊎_elim, List, [], ◌∷◌, Bool}
use Rattle.std.proofs.Common.{true, false, ◌&&◌, if◌then◌else◌, length, get_or, refl, sym, ap, ◌∙◌, subst, arith}
use Rattle.std.proofs.lemmas.Bool.{cases_eq, cases_lt}
use Rattle.obj_memory.specs.declared.object.Storage.{Storage}
use Rattle.obj_memory.specs.declared.object.Storage.TheVariants.{Static, Automatic, Allocated}
use Rattle.obj_memory.specs.Objects.{ObjectState, Objects, object_at}
use Rattle.obj_memory.specs.Heap.{is_allocated, is_live_block, block_count, object_room}
use Rattle.obj_memory.specs.Sound.{AreDisjoint, AreBeside}
use Rattle.flat_code.specs.Routines.Objects.StandsFor.{BlockRow, Keys, no_row, IsRowOf, IsTable}
use Rattle.flat_code.proofs.Routines.Spaces.Few.{at_most_of}

-- ---- live blocks

pub live_block : (o : ObjectState) → o.storage ≡ Allocated → o.is_live ≡ true → is_live_block o ≡ true
live_block o e l = ap (λ s. is_allocated s && o.is_live) e ∙ l

pub block_parts : (o : ObjectState) → is_live_block o ≡ true → (o.storage ≡ Allocated) × (o.is_live ≡ true)
block_parts o h = parts o.storage o.is_live h
  where
    parts : (s : Storage) (b : Bool) → (is_allocated s && b) ≡ true → (s ≡ Allocated) × (b ≡ true)
    parts Static b e = absurd cc
    parts Automatic b e = absurd cc
    parts Allocated b e = (refl, e)

one_more : (b : Bool) (n : ℕ) → b ≡ true → (if b then 1 else 0) + n ≡ suc n
one_more true n e = omega arith
one_more false n e = absurd cc

no_more : (b : Bool) (n : ℕ) → b ≡ false → (if b then 1 else 0) + n ≡ n
no_more true n e = absurd cc
no_more false n e = omega arith

-- how many live blocks stand before an object in the list
abbrev rank : Objects → (n : ℕ) → ℕ
rank [] n = 0
rank (o ∷ os) zero = 0
rank (o ∷ os) (suc n) = (if is_live_block o then 1 else 0) + rank os n

-- it is below the count of live blocks
rank_below : (os : Objects) (n : ℕ) → is_live_block (object_at os n) ≡ true → rank os n < block_count os
unfolding block_count
rank_below [] n l = absurd cc
rank_below (o ∷ os) zero l = let e = one_more (is_live_block o) (block_count os) l in omega arith
rank_below (o ∷ os) (suc n) l = let r = rank_below os n l in omega arith

-- two live blocks have two
rank_once : (os : Objects) (n j : ℕ) → is_live_block (object_at os n) ≡ true → is_live_block (object_at os j) ≡ true
    → rank os n ≡ rank os j → n ≡ j
rank_once [] n j l k e = absurd cc
rank_once (o ∷ os) zero zero l k e = refl
rank_once (o ∷ os) zero (suc j) l k e =
    let m = one_more (is_live_block o) (rank os j) l in absurd (omega arith)
rank_once (o ∷ os) (suc n) zero l k e =
    let m = one_more (is_live_block o) (rank os n) k in absurd (omega arith)
rank_once (o ∷ os) (suc n) (suc j) l k e = ap suc (rank_once os n j l k (omega arith))

-- each number below the count is that of a live block
ranked : (os : Objects) (r : ℕ) → r < block_count os
    → (n : ℕ) × (is_live_block (object_at os n) ≡ true) × (rank os n ≡ r)
unfolding block_count
ranked [] r l = absurd (omega arith)
ranked (o ∷ os) r l = by (λ x h. ranked os x h) (is_live_block o) refl r l
  where
    by : ((x : ℕ) → x < block_count os → (n : ℕ) × (is_live_block (object_at os n) ≡ true) × (rank os n ≡ x))
        → (b : Bool) → is_live_block o ≡ b → (r : ℕ) → r < (if is_live_block o then 1 else 0) + block_count os
        → (n : ℕ) × (is_live_block (object_at (o ∷ os) n) ≡ true) × (rank (o ∷ os) n ≡ r)
    by again true e zero l = (0, e, refl)
    by again true e (suc r) l =
        let m = one_more (is_live_block o) (block_count os) e in
        let x = again r (omega arith) in
        (suc x.0, x.1, one_more (is_live_block o) (rank os x.0) e ∙ ap suc x.2)
    by again false e r l =
        let m = no_more (is_live_block o) (block_count os) e in
        let x = again r (omega arith) in
        (suc x.0, x.1, no_more (is_live_block o) (rank os x.0) e ∙ x.2)

module _ (k : Keys) (objects : Objects) (rows : List BlockRow) (t : IsTable k objects rows)
    (d : AreDisjoint objects) where
  -- two live blocks that start together are one
  same_start : (n j : ℕ) → is_live_block (object_at objects n) ≡ true → is_live_block (object_at objects j) ≡ true
      → (object_at objects n).address ≡ (object_at objects j).address → n ≡ j
  same_start n j l h e = ⊎_elim
      (λ same. same)
      (λ ne.
      let p = block_parts (object_at objects n) l in
      let q = block_parts (object_at objects j) h in
      let beside : AreBeside (object_at objects n) (object_at objects j) = d.apart n j ne p.1 q.1 in
      let some : 16 ≤ object_room (object_at objects n).storage (object_at objects n).size =
      subst (λ s. 16 ≤ object_room s (object_at objects n).size) (sym p.0) (omega arith) in
      let more : 16 ≤ object_room (object_at objects j).storage (object_at objects j).size =
      subst (λ s. 16 ≤ object_room s (object_at objects j).size) (sym q.0) (omega arith) in
      ⊎_elim (λ x. absurd (omega arith)) (λ x. absurd (omega arith)) beside)
      (cases_eq n j)

  -- two rows that start together are one
  same_row : (i j : ℕ) → i < length rows → j < length rows
      → (get_or rows i no_row).start ≡ (get_or rows j no_row).start → i ≡ j
  same_row i j l h e = ⊎_elim
      (λ less. absurd (let o = t.by_address i j less h in omega arith))
      (λ from. ⊎_elim (λ less. absurd (let o = t.by_address j i less l in omega arith)) (λ to. omega arith)
      (cases_lt j i))
      (cases_lt i j)

  rows_below : length rows ≤ block_count objects
  rows_below = at_most_of (length rows) (block_count objects) (λ i l. rank objects (t.block_of i l).0)
      (λ i l. (let b = (t.block_of i l).1 in
      rank_below objects (t.block_of i l).0 (live_block (object_at objects (t.block_of i l).0) b.block b.live)))
      (λ i j l h e.
      let a = t.block_of i l in let b = t.block_of j h in
      let same : a.0 ≡ b.0 = rank_once objects a.0 b.0
      (live_block (object_at objects a.0) a.1.block a.1.live)
      (live_block (object_at objects b.0) b.1.block b.1.live) e in
      same_row i j l h (a.1.start ∙ ap (λ n. (object_at objects n).address) same ∙ sym b.1.start))

  blocks_below : block_count objects ≤ length rows
  blocks_below = at_most_of (block_count objects) (length rows) (λ r l. (row_of r l).0) (λ r l. (row_of r l).1)
      (λ r s l h e.
      let x = ranked objects r l in let y = ranked objects s h in
      let a = row_of r l in let b = row_of s h in
      let same : x.0 ≡ y.0 = same_start x.0 y.0 x.1 y.1
      (sym a.2.start ∙ ap (λ i. (get_or rows i no_row).start) e ∙ b.2.start) in
      sym x.2 ∙ ap (rank objects) same ∙ y.2)
    where
      row_of : (r : ℕ) → (l : r < block_count objects)
          → (i : ℕ) × (i < length rows) × IsRowOf k objects (get_or rows i no_row) (ranked objects r l).0
      row_of r l =
          let x = ranked objects r l in let p = block_parts (object_at objects x.0) x.1 in
          t.row_of x.0 p.1 p.0

  pub rows_counted : length rows ≡ block_count objects
  rows_counted = let a = rows_below in let b = blocks_below in omega arith
