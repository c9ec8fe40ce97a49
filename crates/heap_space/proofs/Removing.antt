-- A row is removed: it is sought, and those behind it are moved down by one.
use Rattle.std.proofs.Common.{◌≡◌, ◌≢◌, ℕ, zero, suc, ◌+◌, ◌-◌, ◌*◌, ◌%◌, ◌^◌, ◌<◌, ◌≤◌, inl, inr, ⊎_elim, List, []}
use Rattle.std.proofs.Common.{◌∷◌, ◌++◌, refl, sym, ap, ◌∙◌, subst, arith}
use Rattle.std.proofs.lemmas.Bool.{cases_lt, cases_eq, eq-eqb, ne_eqb, cond-true, cond-false}
use Rattle.addr_map.specs.declared.region.Region.TheVariants.{Heap, Blocks}
use Rattle.addr_map.specs.Places.{MapSizes, AreMapped, region_size, region_start, region_end}
use Rattle.rv_isa.specs.declared.instruction.BranchOp.TheVariants.{Beq}
use Rattle.rv_isa.specs.declared.instruction.RegOp.TheVariants.{Sub}
use Rattle.rv_isa.specs.declared.instruction.LoadOp.TheVariants.{Ld}
use Rattle.rv_isa.specs.declared.instruction.StoreOp.TheVariants.{Sd}
use Rattle.rv_isa.specs.Results.{reg_result, extended}
use Rattle.flat_code.specs.declared.instruction.RightOperand.TheVariants.{Register, Number}
use Rattle.flat_code.specs.declared.instruction.FlatInstruction.{FlatInstruction}
use Rattle.flat_code.specs.declared.instruction.FlatInstruction.TheVariants.{Constant, Operate, Load, Store}
use Rattle.flat_code.specs.declared.instruction.FlatInstruction.TheVariants.{JumpBack}
use Rattle.flat_code.specs.Memory.{Bytes, AreBytes, put, load, store, KeepsBut}
use Rattle.flat_code.specs.State.{Values, State}
use Rattle.flat_code.specs.Words.{IsOfWords}
use Rattle.flat_code.specs.Meaning.{Context}
use Rattle.flat_code.proofs.Stored.{load_stored, store_beside, load_kept, kept_beside, keeps_within, keeps_both}
use Rattle.flat_code.specs.Routines.Registers.{AreBelow}
use Rattle.flat_code.specs.Routines.Routine.{HasAt, until_code}
use Rattle.flat_code.specs.Routines.Effects.{worked, effects}
use Rattle.flat_code.specs.Routines.Metadata.{metadata_at, ShowsNothing}
use Rattle.flat_code.specs.Routines.Renaming.{through}
use Rattle.flat_code.proofs.Routines.Steps.{has_front, has_back, has_self}
use Rattle.flat_code.proofs.Routines.Distinct.{AreRegisters, register_of, registers_rename, others_stay}
use Rattle.flat_code.proofs.Routines.Regions.{IsLaidOut, laid_out}
use Rattle.flat_code.proofs.Routines.Words.{store_four, four_read, four_beside, metadata_kept}
use Rattle.flat_code.proofs.Routines.Wrapped.{routine}
use Rattle.flat_code.proofs.Routines.Branches.{are_equal, are_not_equal}
use Rattle.flat_code.specs.Routines.Objects.StandsFor.{BlockRow}
use Rattle.shadow_space.proofs.Entries.{context_of, agrees_shows, agrees_memory}
use Rattle.flat_code.specs.Routines.Spaces.Quiet.{AreQuiet}
use Rattle.flat_code.proofs.Routines.Spaces.Quiet.{in_spaces, shows_itself}
use Rattle.flat_code.proofs.Routines.Spaces.Rules.{Quietly, ReachesQuietly, QuietTurn, quiet_end, quiet_next}
use Rattle.flat_code.proofs.Routines.Spaces.Rules.{quiet_loop}
use Rattle.flat_code.proofs.Routines.Spaces.Rules.{quiet_weaken}
use Rattle.heap_space.specs.Rows.{row_end, AreInOrder, without_row, HasStart}
use Rattle.heap_space.specs.Table.{total_cell, row_cell, block_total, row_at, rows_from, block_rows, IsTableGood}
use Rattle.heap_space.specs.Table.{KeepsButTable}
use Rattle.heap_space.specs.Routines.{HasRemoved, HasBlocks, IsReleaseRoutine, begin_rows, seek_start, move_down}
use Rattle.heap_space.specs.Routines.{release_code}
use Rattle.heap_space.proofs.Regions.{IsTableLaidOut, table_laid_out}
use Rattle.heap_space.proofs.Lists.{rows_same, rows_append, rows_onward, end_same}
use Rattle.heap_space.proofs.Inserting.{same_four, words_at}

-- ---- rows without one

pub removed_here : (a : ℕ) (r : BlockRow) (rs : List BlockRow) → r.start ≡ a → without_row a (r ∷ rs) ≡ rs
removed_here a r rs e = cond-true _ rs (r ∷ without_row a rs) (eq-eqb r.start a e)

pub removed_behind : (a : ℕ) (r : BlockRow) (rs : List BlockRow) → r.start ≢ a
    → without_row a (r ∷ rs) ≡ r ∷ without_row a rs
removed_behind a r rs ne = cond-false _ rs (r ∷ without_row a rs) (ne_eqb r.start a ne)

order_from : (low low' high : ℕ) (rows : List BlockRow) → low' ≤ low → AreInOrder low high rows
    → AreInOrder low' high rows
order_from low low' high [] l h = omega arith
order_from low low' high (r ∷ rs) l h = (let a = h.0 in omega arith, h.1, h.2)

order_without : (low high a : ℕ) (rows : List BlockRow) → AreInOrder low high rows
    → AreInOrder low high (without_row a rows)
order_without low high a [] h = h
order_without low high a (r ∷ rs) h = ⊎_elim
    (λ e. subst (AreInOrder low high) (sym (removed_here a r rs e))
    (order_from (row_end r) low high rs (let b = h.0 in omega arith) h.2))
    (λ ne. subst (AreInOrder low high) (sym (removed_behind a r rs ne))
    (h.0, h.1, order_without (row_end r) high a rs h.2))
    (cases_eq r.start a)

-- ---- the routine alone: 0 the start, 1 the cursor, 2 the last row, 3 a word

abbrev alone : MapSizes → List FlatInstruction
alone map = release_code map 0 1 2 3

abbrev head : MapSizes → List FlatInstruction
head map = begin_rows map 1 2 ++ Operate Sub 2 2 (Number 32) ∷ Load Ld 3 1 0 ∷ []

abbrev seek_body : List FlatInstruction
seek_body = seek_start 0 1 3

abbrev seek_loop : List FlatInstruction
seek_loop = until_code Beq 3 (Register 0) seek_body

abbrev move_body : List FlatInstruction
move_body = move_down 1 3

abbrev move_loop : List FlatInstruction
move_loop = until_code Beq 1 (Register 2) move_body

abbrev tail : MapSizes → List FlatInstruction
tail map = Constant 1 (region_start map Blocks) ∷ Load Ld 2 1 0 ∷ Operate Sub 2 2 (Number 1) ∷ Store Sd 1 0 2 ∷ []

has_0 : (map : MapSizes) → HasAt (alone map) 0 (head map)
has_0 map = has_front (alone map) 0 (head map) (seek_loop ++ (move_loop ++ tail map)) (has_self (alone map))

has_7 : (map : MapSizes) → HasAt (alone map) 7 (seek_loop ++ (move_loop ++ tail map))
has_7 map = has_back (alone map) 0 (head map) (seek_loop ++ (move_loop ++ tail map)) (has_self (alone map))

has_11 : (map : MapSizes) → HasAt (alone map) 11 (move_loop ++ tail map)
has_11 map = has_back (alone map) 7 seek_loop (move_loop ++ tail map) (has_7 map)

has_22 : (map : MapSizes) → HasAt (alone map) 22 (tail map)
has_22 map = has_back (alone map) 11 move_loop (tail map) (has_11 map)

-- ---- the row is sought

-- k rows are left, among them the one
record Seeking (c : Context) (m : Bytes) (a k : ℕ) (values : Values) (m' : Bytes) : Type 0 where
  seen : ℕ
  count : seen + k ≡ block_total c.sizes m
  start_is : values 0 ≡ a
  cursor : values 1 ≡ row_cell c.sizes seen
  last : values 2 + 32 ≡ row_cell c.sizes (block_total c.sizes m)
  word : values 3 ≡ load 8 m (row_cell c.sizes seen)
  same : m' ≡ m
  has : HasStart a (rows_from m (row_cell c.sizes seen) k)
  removed : without_row a (block_rows c.sizes m)
      ≡ rows_from m (row_cell c.sizes 0) seen ++ without_row a (rows_from m (row_cell c.sizes seen) k)

record FoundRow (c : Context) (m : Bytes) (a : ℕ) (values : Values) (m' : Bytes) : Type 0 where
  index : ℕ
  left : ℕ
  count : index + suc left ≡ block_total c.sizes m
  cursor : values 1 ≡ row_cell c.sizes index
  last : values 2 + 32 ≡ row_cell c.sizes (block_total c.sizes m)
  same : m' ≡ m
  removed : without_row a (block_rows c.sizes m)
      ≡ rows_from m (row_cell c.sizes 0) index ++ rows_from m (row_cell c.sizes (suc index)) left

module _ (c : Context) (ok : IsLaidOut c.sizes) (lie : IsTableLaidOut c.sizes) (start : State) (m : Bytes)
    (few : block_total c.sizes m ≤ c.sizes.budgets.blocks) (a : ℕ) where
  -- the one that the cursor is at
  found_row : (k : ℕ) (values : Values) (m' : Bytes) → Seeking c m a (suc k) values m' → values 3 ≡ values 0
      → FoundRow c m a values m'
  found_row k values m' h e =
      let next : row_cell c.sizes h.seen + 32 ≡ row_cell c.sizes (suc h.seen) = omega arith in
      record {
        index = h.seen;
        left = k;
        count = h.count;
        cursor = h.cursor;
        last = h.last;
        same = h.same;
        removed = h.removed
            ∙ ap (λ xs. rows_from m (row_cell c.sizes 0) h.seen ++ xs)
            (removed_here a (row_at m (row_cell c.sizes h.seen)) (rows_from m (row_cell c.sizes h.seen + 32) k)
            (sym h.word ∙ e ∙ h.start_is))
            ∙ ap (λ x. rows_from m (row_cell c.sizes 0) h.seen ++ rows_from m x k) next;
      }

  -- it is another
  goes_on : (k : ℕ) (values : Values) (m' : Bytes) → (h : Seeking c m a (suc k) values m') → values 3 ≢ values 0
      → HasStart a (rows_from m (row_cell c.sizes (suc h.seen)) k)
      × (without_row a (block_rows c.sizes m) ≡ rows_from m (row_cell c.sizes 0) (suc h.seen)
      ++ without_row a (rows_from m (row_cell c.sizes (suc h.seen)) k))
  goes_on k values m' h ne =
      let p = row_cell c.sizes h.seen in
      let next : p + 32 ≡ row_cell c.sizes (suc h.seen) = omega arith in
      let from : row_cell c.sizes 0 + 32 * h.seen ≡ p = omega arith in
      let other : load 8 m p ≢ a = λ e. ne (h.word ∙ e ∙ sym h.start_is) in (
        subst (λ x. HasStart a (rows_from m x k)) next (⊎_elim (λ e. absurd (other e)) (λ r. r) h.has),
        h.removed
            ∙ ap (λ xs. rows_from m (row_cell c.sizes 0) h.seen ++ xs)
            (removed_behind a (row_at m p) (rows_from m (p + 32) k) other)
            ∙ ap (λ x. rows_from m (row_cell c.sizes 0) h.seen ++ (row_at m x ∷ without_row a (rows_from m (p + 32) k)))
            (sym from)
            ∙ rows_onward m (row_cell c.sizes 0) h.seen (without_row a (rows_from m (p + 32) k))
            ∙ ap (λ x. rows_from m (row_cell c.sizes 0) (suc h.seen) ++ without_row a (rows_from m x k)) next,
      )

  some_left : (k p : ℕ) → HasStart a (rows_from m p k) → 0 < k
  some_left zero p h = absurd h
  some_left (suc k) p h = omega arith

  seek_turn : (k : ℕ) (v : State) → ShowsNothing start v → (h : Seeking c m a (suc k) v.values v.memory)
      → v.values 3 ≢ v.values 0 → HasAt (alone c.sizes) 8 seek_body
      → ReachesQuietly c (alone c.sizes) 2 8 start v 10
      (λ values m'. (i : ℕ) × (i ≤ k) × Seeking c m a i values m')
  unfolding put reg_result extended
  seek_turn k v shown h ne has =
      let f = lie.first in let e = lie.ends in let s = lie.small in let n = lie.inside in let l = lie.few in
      let cursor = h.cursor in let count = h.count in
      let p = row_cell c.sizes (suc h.seen) in
      let on = goes_on k v.values v.memory h ne in
      let some = some_left k p on.0 in
      let at : (v.values 1 + 32) % 2 ^ 64 ≡ p = omega arith in
      let at0 : ((v.values 1 + 32) % 2 ^ 64 + 0) % 2 ^ 64 ≡ p = omega arith in
      quiet_end c ok (alone c.sizes) start seek_body 8 v (λ values m'. (i : ℕ) × (i ≤ k) × Seeking c m a i values m')
      shown (tt, (in_spaces c _ p 8 at0 (omega arith) (omega arith), tt)) has (
        k,
        omega arith,
        record {
          seen = suc h.seen;
          count = omega arith;
          start_is = h.start_is;
          cursor = at;
          last = h.last;
          word = ap (λ z. load 8 z (((v.values 1 + 32) % 2 ^ 64 + 0) % 2 ^ 64)) h.same ∙ ap (load 8 m) at0;
          same = h.same;
          has = on.0;
          removed = on.1;
        },
      )

  seek_each : (k : ℕ) (v : State) → ShowsNothing start v → Seeking c m a k v.values v.memory
      → HasAt (alone c.sizes) 8 seek_body → (has : HasAt (alone c.sizes) 7 seek_loop)
      → QuietTurn c ok (alone c.sizes) start 7 Beq 3 (Register 0) seek_body 2 (Seeking c m a) (FoundRow c m a) has k v
  seek_each zero v shown h has whole = absurd h.has
  seek_each (suc k) v shown h has whole = ⊎_elim
      (λ e. inr (are_equal (v.values 3) (v.values 0) e, found_row k v.values v.memory h e))
      (λ ne. inl (
        are_not_equal (v.values 3) (v.values 0) ne,
        k,
        refl,
        λ s1. seek_turn k (worked c v) s1 h ne has,
      ))
      (cases_eq (v.values 3) (v.values 0))

-- ---- the rows behind it are moved

-- so many rows from place i on are those that stood one place further, and all else is as it was
record AreMovedDown (s : MapSizes) (i done : ℕ) (m m' : Bytes) : Type 0 where
  moved : (j : ℕ) → i ≤ j → j < i + done → metadata_at m' (row_cell s j) ≡ metadata_at m (row_cell s (suc j))
  keeps : KeepsBut (row_cell s i) (32 * done) m m'

one_down : (s : MapSizes) (i done : ℕ) (m m1 : Bytes) → AreBytes m1 → AreMovedDown s i done m m1
    → AreMovedDown s i (suc done) m
    (store_four m1 (row_cell s (i + done)) (metadata_at m1 (row_cell s (suc (i + done)))))
one_down s i done m m1 bytes h =
    let q = row_cell s (i + done) in
    let e = metadata_at m1 (row_cell s (suc (i + done))) in
    let beside = four_beside m1 q e in
    record {
      moved = λ j l b. ⊎_elim
          (λ before. metadata_kept m1 (store_four m1 q e) (row_cell s j)
          (kept_beside q 32 (row_cell s j) 32 m1 (store_four m1 q e) beside (inl (omega arith)))
          ∙ h.moved j l before)
          (λ behind.
          (let at : j ≡ i + done = omega arith in
          subst (λ x. metadata_at (store_four m1 q e) (row_cell s x) ≡ metadata_at m (row_cell s (suc x))) (sym at)
          (four_read m1 q e (words_at m1 (row_cell s (suc (i + done))) bytes)
          ∙ metadata_kept m m1 (row_cell s (suc (i + done)))
          (kept_beside (row_cell s i) (32 * done) (row_cell s (suc (i + done))) 32 m m1 h.keeps (inr (omega arith))))))
          (cases_lt j (i + done));
      keeps = keeps_both (row_cell s i) (32 * suc done) m m1 (store_four m1 q e)
          (keeps_within (row_cell s i) (32 * done) (row_cell s i) (32 * suc done) m m1 (omega arith) (omega arith)
          h.keeps)
          (keeps_within q 32 (row_cell s i) (32 * suc done) m1 (store_four m1 q e) (omega arith) (omega arith) beside);
    }

record Moving (c : Context) (m : Bytes) (i left k : ℕ) (values : Values) (m' : Bytes) : Type 0 where
  done : ℕ
  count : done + k ≡ left
  cursor : values 1 ≡ row_cell c.sizes (i + done)
  last : values 2 ≡ row_cell c.sizes (i + left)
  so_far : AreMovedDown c.sizes i done m m'

abbrev HasMoved : Context → Bytes → (i left : ℕ) → Values → Bytes → Type 0
HasMoved c m i left values m' = AreMovedDown c.sizes i left m m'

module _ (c : Context) (ok : IsLaidOut c.sizes) (lie : IsTableLaidOut c.sizes) (start : State) (m : Bytes) (i left : ℕ)
    (few : i + suc left ≤ c.sizes.budgets.blocks) where
  down_quiet : (k : ℕ) (v : State) → Moving c m i left (suc k) v.values v.memory → AreQuiet c move_body v
  unfolding put reg_result
  down_quiet k v h =
      let f = lie.first in let e = lie.ends in let s = lie.small in let n = lie.inside in let l = lie.few in
      let cursor = h.cursor in let count = h.count in
      let p = row_cell c.sizes (i + h.done) in
      let at : (offset : ℕ) → offset ≤ 56 → (v.values 1 + offset) % 2 ^ 64 ≡ p + offset = λ offset l. omega arith in (
        in_spaces c _ (p + 32) 8 (at 32 (omega arith)) (omega arith) (omega arith),
        (
          in_spaces c _ (p + 0) 8 (at 0 (omega arith)) (omega arith) (omega arith),
          (
            in_spaces c _ (p + 40) 8 (at 40 (omega arith)) (omega arith) (omega arith),
            (
              in_spaces c _ (p + 8) 8 (at 8 (omega arith)) (omega arith) (omega arith),
              (
                in_spaces c _ (p + 48) 8 (at 48 (omega arith)) (omega arith) (omega arith),
                (
                  in_spaces c _ (p + 16) 8 (at 16 (omega arith)) (omega arith) (omega arith),
                  (
                    in_spaces c _ (p + 56) 8 (at 56 (omega arith)) (omega arith) (omega arith),
                    (in_spaces c _ (p + 24) 8 (at 24 (omega arith)) (omega arith) (omega arith), (tt, tt)),
                  ),
                ),
              ),
            ),
          ),
        ),
      )

  down_one : (k : ℕ) (v : State) → IsOfWords v → (h : Moving c m i left (suc k) v.values v.memory)
      → Moving c m i left k (effects c move_body v).values (effects c move_body v).memory
  unfolding put reg_result extended
  down_one k v w h =
      let f = lie.first in let e = lie.ends in let s = lie.small in let n = lie.inside in let l = lie.few in
      let cursor = h.cursor in let count = h.count in
      let q = row_cell c.sizes (i + h.done) in
      let p = row_cell c.sizes (suc (i + h.done)) in
      let t = v.values 1 in
      let same = same_four v.memory p q ((t + 32) % 2 ^ 64) ((t + 40) % 2 ^ 64) ((t + 48) % 2 ^ 64) ((t + 56) % 2 ^ 64)
      ((t + 0) % 2 ^ 64) ((t + 8) % 2 ^ 64) ((t + 16) % 2 ^ 64) ((t + 24) % 2 ^ 64) (omega arith) (omega arith)
      (omega arith) (omega arith) (omega arith) (omega arith) (omega arith) (omega arith) (inr (omega arith)) in
      record {
        done = suc h.done;
        count = omega arith;
        cursor = omega arith;
        last = h.last;
        so_far = subst (AreMovedDown c.sizes i (suc h.done) m) (sym same)
            (one_down c.sizes i h.done m v.memory w.memory h.so_far);
      }

  down_each : (k : ℕ) (v : State) → IsOfWords v → ShowsNothing start v → Moving c m i left k v.values v.memory
      → HasAt (alone c.sizes) 12 move_body → (has : HasAt (alone c.sizes) 11 move_loop)
      → QuietTurn c ok (alone c.sizes) start 11 Beq 1 (Register 2) move_body 9 (Moving c m i left)
      (HasMoved c m i left) has k v
  down_each zero v w shown h has whole =
      let cursor = h.cursor in let last = h.last in let count = h.count in
      let all : h.done ≡ left = omega arith in
      inr (
        are_equal (v.values 1) (v.values 2) (omega arith),
        subst (λ d. AreMovedDown c.sizes i d m v.memory) all h.so_far,
      )
  down_each (suc k) v w shown h has whole =
      let cursor = h.cursor in let last = h.last in let count = h.count in
      inl (
        are_not_equal (v.values 1) (v.values 2) (λ e. omega arith),
        k,
        refl,
        λ s1. quiet_end c ok (alone c.sizes) start move_body 12 (worked c v)
            (λ values m'. (j : ℕ) × (j ≤ k) × Moving c m i left j values m') s1 (down_quiet k (worked c v) h) has
            (k, omega arith, down_one k (worked c v) (record { values = w.values; memory = w.memory }) h),
      )

-- ---- the memory with one row less

abbrev removed_memory : MapSizes → Bytes → (total : ℕ) → Bytes
removed_memory s m1 total = store 8 m1 (total_cell s) total

module _ (s : MapSizes) (lie : IsTableLaidOut s) (m m1 : Bytes) (g : IsTableGood s m) (a i left : ℕ)
    (count : i + suc left ≡ block_total s m) (h : AreMovedDown s i left m m1)
    (removed : without_row a (block_rows s m)
    ≡ rows_from m (row_cell s 0) i ++ rows_from m (row_cell s (suc i)) left) where
  abbrev rest : ℕ
  rest = i + left

  abbrev m' : Bytes
  m' = removed_memory s m1 rest

  cell_beside : (j : ℕ) → metadata_at m' (row_cell s j) ≡ metadata_at m1 (row_cell s j)
  cell_beside j = metadata_kept m1 m' (row_cell s j)
      (kept_beside (total_cell s) 8 (row_cell s j) 32 m1 m' (store_beside 8 m1 (total_cell s) rest)
      (inr (omega arith)))

  row_before : (j : ℕ) → j < i → metadata_at m' (row_cell s j) ≡ metadata_at m (row_cell s j)
  row_before j l =
      cell_beside j
      ∙ metadata_kept m m1 (row_cell s j)
      (kept_beside (row_cell s i) (32 * left) (row_cell s j) 32 m m1 h.keeps (inl (omega arith)))

  row_moved : (j : ℕ) → i ≤ j → j < rest → metadata_at m' (row_cell s j) ≡ metadata_at m (row_cell s (suc j))
  row_moved j l b = cell_beside j ∙ h.moved j l b

  total_is : block_total s m' ≡ rest
  total_is = let f = g.few in let few = lie.few in load_stored 8 m1 (total_cell s) rest (omega arith)

  rows_are : block_rows s m' ≡ without_row a (block_rows s m)
  rows_are =
      let at : row_cell s 0 + 32 * i ≡ row_cell s i = omega arith in
      ap (rows_from m' (row_cell s 0)) total_is
      ∙ rows_append m' (row_cell s 0) i left
      ∙ ap (λ x. rows_from m' (row_cell s 0) i ++ rows_from m' x left) at
      ∙ ap (λ xs. xs ++ rows_from m' (row_cell s i) left)
      (rows_same m m' (row_cell s 0) (row_cell s 0) i (λ j l.
      let c : row_cell s 0 + 32 * j ≡ row_cell s j = omega arith in
      subst (λ x. metadata_at m' x ≡ metadata_at m x) (sym c) (row_before j l)))
      ∙ ap (λ xs. rows_from m (row_cell s 0) i ++ xs)
      (rows_same m m' (row_cell s (suc i)) (row_cell s i) left (λ j l.
      let c : row_cell s i + 32 * j ≡ row_cell s (i + j) = omega arith in
      let d : row_cell s (suc i) + 32 * j ≡ row_cell s (suc (i + j)) = omega arith in
      ap (metadata_at m') c ∙ row_moved (i + j) (omega arith) (omega arith) ∙ ap (metadata_at m) (sym d)))
      ∙ sym removed

  ends_are : (j : ℕ) → j < block_total s m' → load 8 m' (row_cell s j + 24) ≡ row_end (row_at m' (row_cell s j))
  ends_are j l =
      let n = total_is in
      ⊎_elim
      (λ before. end_same m m' (row_cell s j) (row_cell s j) (row_before j before) (g.ends j (omega arith)))
      (λ from. end_same m m' (row_cell s (suc j)) (row_cell s j) (row_moved j from (omega arith))
      (g.ends (suc j) (omega arith)))
      (cases_lt j i)

  good_removed : IsTableGood s m'
  good_removed =
      let n = total_is in let f = g.few in
      record {
        few = omega arith;
        in_order = subst (AreInOrder (region_start s Heap) (region_end s Heap)) (sym rows_are)
            (order_without (region_start s Heap) (region_end s Heap) a (block_rows s m) g.in_order);
        ends = ends_are;
      }

  keeps_removed : KeepsButTable s m m'
  keeps_removed =
      let f = g.few in let e = lie.ends in
      keeps_both (region_start s Blocks) (region_size s Blocks) m m1 m'
      (keeps_within (row_cell s i) (32 * left) (region_start s Blocks) (region_size s Blocks) m m1 (omega arith)
      (omega arith) h.keeps)
      (keeps_within (total_cell s) 8 (region_start s Blocks) (region_size s Blocks) m1 m' (omega arith) (omega arith)
      (store_beside 8 m1 (total_cell s) rest))

-- ---- the routine

record Result (s : MapSizes) (m : Bytes) (a : ℕ) (m' : Bytes) : Type 0 where
  rows : block_rows s m' ≡ without_row a (block_rows s m)
  good : IsTableGood s m'
  keeps : KeepsButTable s m m'

module _ (c : Context) (lie : IsTableLaidOut c.sizes) (v : State) (total : ℕ)
    (counted : load 8 v.memory (total_cell c.sizes) ≡ suc total) (small : total < 2 ^ 32) where
  tail_quiet : AreQuiet c (tail c.sizes) v
  unfolding put reg_result
  tail_quiet =
      let f = lie.first in let e = lie.ends in let s = lie.small in let n = lie.inside in
      let cell : (region_start c.sizes Blocks % 2 ^ 64 + 0) % 2 ^ 64 ≡ total_cell c.sizes = omega arith in (
        tt,
        (
          in_spaces c _ (total_cell c.sizes) 8 cell (omega arith) (omega arith),
          (tt, (in_spaces c _ (total_cell c.sizes) 8 cell (omega arith) (omega arith), tt)),
        ),
      )

  tail_does : (effects c (tail c.sizes) v).memory ≡ removed_memory c.sizes v.memory total
  unfolding put reg_result extended
  tail_does =
      let f = lie.first in let e = lie.ends in let s = lie.small in let n = lie.inside in
      let cell : (region_start c.sizes Blocks % 2 ^ 64 + 0) % 2 ^ 64 ≡ total_cell c.sizes = omega arith in
      let got : load 8 v.memory ((region_start c.sizes Blocks % 2 ^ 64 + 0) % 2 ^ 64) ≡ suc total =
      ap (load 8 v.memory) cell ∙ counted in
      let less : (load 8 v.memory ((region_start c.sizes Blocks % 2 ^ 64 + 0) % 2 ^ 64) + (2 ^ 64 - 1)) % 2 ^ 64
      ≡ total = omega arith in
      ap (λ x. store 8 v.memory x
      ((load 8 v.memory ((region_start c.sizes Blocks % 2 ^ 64 + 0) % 2 ^ 64) + (2 ^ 64 - 1)) % 2 ^ 64)) cell
      ∙ ap (store 8 v.memory (total_cell c.sizes)) less

module _ (c : Context) (ok : IsLaidOut c.sizes) (lie : IsTableLaidOut c.sizes) (v : State) (w : IsOfWords v)
    (g : IsTableGood c.sizes v.memory) (has : HasStart (v.values 0) (block_rows c.sizes v.memory)) where
  abbrev total : ℕ
  total = block_total c.sizes v.memory

  abbrev J : Values → Bytes → Type 0
  J values m' = Result c.sizes v.memory (v.values 0) m'

  -- the rows behind the one that was found are moved, and one less is counted
  removes : (s : State) → IsOfWords s → ShowsNothing v s → FoundRow c v.memory (v.values 0) s.values s.memory
      → ReachesQuietly c (alone c.sizes) (11 * total + 5) 11 v s 26 J
  removes s ws shown f =
      let i = f.index in let k = f.left in let count = f.count in let few = g.few in let least = lie.few in
      let last = f.last in
      quiet_weaken c ok (alone c.sizes) v (k * (9 + 2) + 1 + 4) (11 * total + 5) 11 s 26 J J (omega arith) (λ x y z. z)
      (quiet_next c ok (alone c.sizes) v (k * (9 + 2) + 1) 4 11 22 26 s (HasMoved c v.memory i k) J ws
      (quiet_loop c ok (alone c.sizes) v 11 Beq 1 (Register 2) move_body 9 (Moving c v.memory i k)
      (HasMoved c v.memory i k) (has_front (alone c.sizes) 11 move_loop (tail c.sizes) (has_11 c.sizes))
      (λ j s' ws' sh h. down_each c ok lie v v.memory i k (omega arith) j s' ws' sh h
      (has_front (alone c.sizes) 12 move_body (JumpBack 10 ∷ [])
      (has_front (alone c.sizes) 11 move_loop (tail c.sizes) (has_11 c.sizes)).1)
      (has_front (alone c.sizes) 11 move_loop (tail c.sizes) (has_11 c.sizes)))
      k s ws shown
      (record {
        done = 0;
        count = omega arith;
        cursor = (let cu = f.cursor in omega arith);
        last = omega arith;
        so_far = record {
          moved = λ j l b. absurd (omega arith);
          keeps = λ b out. ap (λ z. z b) f.same;
        };
      }))
      (λ s' ws' sh h.
      let counted : load 8 s'.memory (total_cell c.sizes) ≡ suc (i + k) =
      load_kept 8 v.memory s'.memory (total_cell c.sizes)
      (kept_beside (row_cell c.sizes i) (32 * k) (total_cell c.sizes) 8 v.memory s'.memory h.keeps (inl (omega arith)))
      ∙ sym count ∙ omega arith in
      quiet_end c ok (alone c.sizes) v (tail c.sizes) 22 s' J sh
      (tail_quiet c lie s' (i + k) counted (omega arith)) (has_22 c.sizes)
      (subst (Result c.sizes v.memory (v.values 0)) (sym (tail_does c lie s' (i + k) counted (omega arith)))
      (record {
        rows = rows_are c.sizes lie v.memory s'.memory g (v.values 0) i k count h f.removed;
        good = good_removed c.sizes lie v.memory s'.memory g (v.values 0) i k count h f.removed;
        keeps = keeps_removed c.sizes lie v.memory s'.memory g (v.values 0) i k count h f.removed;
      }))))

  head_quiet : AreQuiet c (head c.sizes) v
  unfolding put reg_result
  head_quiet =
      let f = lie.first in let e = lie.ends in let s = lie.small in let n = lie.inside in
      let some = lie.some_block in
      let at : (region_start c.sizes Blocks % 2 ^ 64 + 0) % 2 ^ 64 ≡ total_cell c.sizes = omega arith in
      let first : ((region_start c.sizes Blocks % 2 ^ 64 + 8) % 2 ^ 64 + 0) % 2 ^ 64
      ≡ row_cell c.sizes 0 = omega arith in (
        tt,
        (
          in_spaces c _ (total_cell c.sizes) 8 at (omega arith) (omega arith),
          (
            tt,
            (
              tt,
              (
                tt,
                (
                  tt,
                  (in_spaces c _ (row_cell c.sizes 0) 8 first (omega arith) (omega arith), tt),
                ),
              ),
            ),
          ),
        ),
      )

  begins : Seeking c v.memory (v.values 0) total (effects c (head c.sizes) v).values
      (effects c (head c.sizes) v).memory
  unfolding put reg_result extended
  begins =
      let f = lie.first in let e = lie.ends in let s = lie.small in let n = lie.inside in
      let few = g.few in let least = lie.few in
      let some = some_left c ok lie v v.memory few (v.values 0) total (row_cell c.sizes 0) has in
      let at : (region_start c.sizes Blocks % 2 ^ 64 + 0) % 2 ^ 64 ≡ total_cell c.sizes = omega arith in
      let got : load 8 v.memory ((region_start c.sizes Blocks % 2 ^ 64 + 0) % 2 ^ 64)
      ≡ total = ap (load 8 v.memory) at in
      let first : ((region_start c.sizes Blocks % 2 ^ 64 + 8) % 2 ^ 64 + 0) % 2 ^ 64
      ≡ row_cell c.sizes 0 = omega arith in
      record {
        seen = 0;
        count = omega arith;
        start_is = refl;
        cursor = omega arith;
        last = omega arith;
        word = ap (load 8 v.memory) first;
        same = refl;
        has = has;
        removed = refl;
      }

  releases_alone : ReachesQuietly c (alone c.sizes) (16 + 16 * total) 0 v v 26 J
  releases_alone =
      let loop_has = has_front (alone c.sizes) 7 seek_loop (move_loop ++ tail c.sizes) (has_7 c.sizes) in
      quiet_weaken c ok (alone c.sizes) v (7 + (total * (2 + 2) + 1 + (11 * total + 5))) (16 + 16 * total) 0 v 26 J J
      (omega arith) (λ x y z. z)
      (quiet_next c ok (alone c.sizes) v 7 (total * (2 + 2) + 1 + (11 * total + 5)) 0 7 26 v
      (Seeking c v.memory (v.values 0) total) J w
      (quiet_end c ok (alone c.sizes) v (head c.sizes) 0 v (Seeking c v.memory (v.values 0) total) (shows_itself v)
      head_quiet (has_0 c.sizes) begins)
      (λ s ws sh h. quiet_next c ok (alone c.sizes) v (total * (2 + 2) + 1) (11 * total + 5) 7 11 26 s
      (FoundRow c v.memory (v.values 0)) J ws
      (quiet_loop c ok (alone c.sizes) v 7 Beq 3 (Register 0) seek_body 2 (Seeking c v.memory (v.values 0))
      (FoundRow c v.memory (v.values 0)) loop_has
      (λ k s' ws' sh' h'. seek_each c ok lie v v.memory g.few (v.values 0) k s' sh' h'
      (has_front (alone c.sizes) 8 seek_body (JumpBack 3 ∷ []) loop_has.1) loop_has)
      total s ws sh h)
      (λ s' ws' sh' f. removes s' ws' sh' f)))

abbrev release_registers : (start scratch : ℕ) → ℕ → ℕ
release_registers a t = register_of (a ∷ []) [] (t ∷ (t + 1) ∷ (t + 2) ∷ [])

pub release_does : (map : MapSizes) (a t : ℕ) → AreMapped map → AreBelow t (a ∷ [])
    → IsReleaseRoutine map a t (release_code map a t (t + 1) (t + 2))
release_does map a t mapped below count runtime charge weight =
    let c = context_of map runtime charge weight in
    let ok = laid_out map mapped in
    let lie = table_laid_out map mapped in
    let r : AreRegisters (a ∷ []) [] (t ∷ (t + 1) ∷ (t + 2) ∷ []) t =
    record {
      none = (tt, tt);
      distinct = tt;
      ins_below = below;
      res_below = tt;
      from = (omega arith, (omega arith, (omega arith, tt)));
      own_distinct = ((omega arith, (omega arith, tt)), ((omega arith, tt), (tt, tt)));
    } in
    let f = release_registers a t in
    routine c 4 1 f (alone map)
    (λ s. HasBlocks map count s.memory × HasStart (s.values a) (block_rows map s.memory))
    (registers_rename (a ∷ []) [] (t ∷ (t + 1) ∷ (t + 2) ∷ []) t r) refl (λ s. 16 + 16 * count)
    (λ s. Quietly (through f s) (λ values m'. Result map s.memory (s.values a) m')) (HasRemoved map a t)
    (λ s w seen p. quiet_weaken c ok (alone map) (through f s) (16 + 16 * block_total map s.memory) (16 + 16 * count) 0
    (through f s) 26 _ _ (let e = p.0.1 in omega arith) (λ x y z. z)
    (releases_alone c ok lie (through f s) seen p.0.0 p.1))
    (λ s s' v w p h agrees only.
    let same : s'.memory ≡ v.memory = agrees_memory 4 f v s' agrees in
    let rest = subst (Result map s.memory (s.values a)) (sym same) h.1 in
    record {
      rows = rest.rows;
      good = rest.good;
      memory = rest.keeps;
      shows = agrees_shows 4 f v s s' agrees (let z = h.0 in record {
        input = z.input;
        output = z.output;
        taken = z.taken;
        accesses = z.accesses;
        turns = z.turns;
      });
      others = others_stay (a ∷ []) [] (t ∷ (t + 1) ∷ (t + 2) ∷ []) t r s s' only;
    })
