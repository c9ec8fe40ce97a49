-- The first gap is sought.
use Rattle.std.proofs.Common.{◌≡◌, ℕ, zero, suc, ◌+◌, ◌*◌, ◌%◌, ◌^◌, ◌<◌, ◌≤◌, ◌⊎◌, inl, inr, List, [], ◌∷◌}
use Rattle.std.proofs.Common.{◌++◌, refl, sym, ap, ◌∙◌, subst, arith}
use Rattle.addr_map.specs.declared.region.Region.TheVariants.{Heap}
use Rattle.addr_map.specs.Places.{MapSizes, region_last, region_end}
use Rattle.rv_isa.specs.declared.instruction.BranchOp.TheVariants.{Bgeu}
use Rattle.rv_isa.specs.declared.instruction.RegOp.TheVariants.{Add}
use Rattle.rv_isa.specs.declared.instruction.LoadOp.TheVariants.{Ld}
use Rattle.rv_isa.specs.Results.{reg_result, extended}
use Rattle.flat_code.specs.declared.instruction.RightOperand.TheVariants.{Register, Number}
use Rattle.flat_code.specs.declared.instruction.FlatInstruction.{FlatInstruction}
use Rattle.flat_code.specs.declared.instruction.FlatInstruction.TheVariants.{Move, Operate, Load, JumpBack}
use Rattle.flat_code.specs.Memory.{Bytes, put, load}
use Rattle.flat_code.specs.State.{Values, State}
use Rattle.flat_code.specs.Words.{IsOfWords}
use Rattle.flat_code.specs.Meaning.{Context}
use Rattle.flat_code.specs.Routines.Routine.{HasAt, until_code}
use Rattle.flat_code.specs.Routines.Effects.{worked, effects}
use Rattle.flat_code.specs.Routines.Metadata.{ShowsNothing}
use Rattle.flat_code.proofs.Routines.Steps.{has_front}
use Rattle.flat_code.proofs.Routines.Regions.{IsLaidOut}
use Rattle.flat_code.proofs.Routines.Branches.{not_below, is_below, if_not_below, if_below}
use Rattle.flat_code.specs.Routines.Objects.StandsFor.{BlockRow}
use Rattle.flat_code.proofs.Routines.Spaces.Quiet.{in_spaces}
use Rattle.flat_code.proofs.Routines.Spaces.Rules.{ReachesQuietly, QuietTurn, quiet_line, quiet_end, quiet_branch}
use Rattle.flat_code.proofs.Routines.Spaces.Rules.{quiet_jump}
use Rattle.flat_code.proofs.Routines.Spaces.Rules.{quiet_loop, quiet_weaken, quiet_arrived}
use Rattle.heap_space.specs.Rows.{row_end, AreInOrder, with_row, first_gap}
use Rattle.heap_space.specs.Table.{row_cell, block_total, row_at, rows_from, block_rows, IsTableGood}
use Rattle.heap_space.specs.Routines.{seek_one, place_code}
use Rattle.heap_space.proofs.Regions.{IsTableLaidOut}
use Rattle.heap_space.proofs.Lists.{gap_here, gap_behind, gap_most, row_first, row_behind, rows_onward}

-- the routine alone: 0 the size, 1 the key, 2 the result, 3 the last address of the heap, 4 the room, 5 the place, 6
-- the cursor, 7 the end of the rows, 8 where the search stops, 9 a word, 10 the end of the room
abbrev pub alone : MapSizes → List FlatInstruction
alone map = place_code map 0 1 2 3 4 5 6 7 8 9 10

abbrev pub seek_body : List FlatInstruction
seek_body = seek_one 4 5 6 8 9 10

-- what the search leaves as it is
pub record Holds (c : Context) (m : Bytes) (size key n : ℕ) (values : Values) (m' : Bytes) : Type 0 where
  pub size_is : values 0 ≡ size
  pub key_is : values 1 ≡ key
  pub null : values 2 ≡ 0
  pub last : values 3 ≡ region_last c.sizes Heap
  pub room : values 4 ≡ n
  pub end : values 7 ≡ row_cell c.sizes (block_total c.sizes m)
  pub same : m' ≡ m

module _ (c : Context) (m : Bytes) (size key n gap : ℕ) where
  abbrev pub rows : List BlockRow
  rows = block_rows c.sizes m

  -- k rows are left
  pub record Seeking (k : ℕ) (values : Values) (m' : Bytes) : Type 0 where
    pub holds : Holds c m size key n values m'
    pub seen : ℕ
    pub count : seen + k ≡ block_total c.sizes m
    pub cursor : values 6 ≡ row_cell c.sizes seen
    pub stop : values 8 ≡ row_cell c.sizes (block_total c.sizes m)
    pub rest : first_gap (values 5) n (rows_from m (row_cell c.sizes seen) k) ≡ gap
    pub order : AreInOrder (values 5) (region_end c.sizes Heap) (rows_from m (row_cell c.sizes seen) k)
    pub inserted : (x : BlockRow) → x.start ≡ gap → with_row x rows
        ≡ rows_from m (row_cell c.sizes 0) seen ++ with_row x (rows_from m (row_cell c.sizes seen) k)

  -- the place is the gap, behind so many rows
  pub record Found (values : Values) (m' : Bytes) : Type 0 where
    pub holds : Holds c m size key n values m'
    pub index : ℕ
    pub left : ℕ
    pub count : index + left ≡ block_total c.sizes m
    pub cursor : values 6 ≡ row_cell c.sizes index
    pub place : values 5 ≡ gap
    pub inserted : (x : BlockRow) → x.start ≡ gap → with_row x rows
        ≡ rows_from m (row_cell c.sizes 0) index ++ (x ∷ rows_from m (row_cell c.sizes index) left)

  record Stopped (values : Values) (m' : Bytes) : Type 0 where
    found : Found values m'
    past : values 8 ≤ values 6

  abbrev Inv : ℕ → Values → Bytes → Type 0
  Inv k values m' = Seeking k values m' ⊎ Stopped values m'

module _ (c : Context) (ok : IsLaidOut c.sizes) (lie : IsTableLaidOut c.sizes) (start : State) (m : Bytes)
    (g : IsTableGood c.sizes m) (size key n gap : ℕ) (some : 0 < n) (word : n < 2 ^ 32) where
  -- a row that does not leave room is passed
  passed : (k seen place : ℕ) → first_gap place n (rows_from m (row_cell c.sizes seen) (suc k)) ≡ gap
      → AreInOrder place (region_end c.sizes Heap) (rows_from m (row_cell c.sizes seen) (suc k))
      → (row_at m (row_cell c.sizes seen)).start < place + n
      → ((x : BlockRow) → x.start ≡ gap → with_row x (block_rows c.sizes m)
      ≡ rows_from m (row_cell c.sizes 0) seen ++ with_row x (rows_from m (row_cell c.sizes seen) (suc k)))
      → (first_gap (row_end (row_at m (row_cell c.sizes seen))) n (rows_from m (row_cell c.sizes (suc seen)) k) ≡ gap)
      × AreInOrder (row_end (row_at m (row_cell c.sizes seen))) (region_end c.sizes Heap)
      (rows_from m (row_cell c.sizes (suc seen)) k)
      × ((x : BlockRow) → x.start ≡ gap → with_row x (block_rows c.sizes m)
      ≡ rows_from m (row_cell c.sizes 0) (suc seen) ++ with_row x (rows_from m (row_cell c.sizes (suc seen)) k))
  passed k seen place rest order below inserted =
      let r = row_at m (row_cell c.sizes seen) in
      let rs = rows_from m (row_cell c.sizes seen + 32) k in
      let to : row_cell c.sizes seen + 32 ≡ row_cell c.sizes (suc seen) = omega arith in
      let from : row_cell c.sizes 0 + 32 * seen ≡ row_cell c.sizes seen = omega arith in
      let gap' : first_gap (row_end r) n rs ≡ gap = sym (gap_behind place n r rs below) ∙ rest in
      let most = gap_most (row_end r) (region_end c.sizes Heap) n rs order.2 in (
        ap (λ a. first_gap (row_end r) n (rows_from m a k)) (sym to) ∙ gap',
        subst (λ a. AreInOrder (row_end r) (region_end c.sizes Heap) (rows_from m a k)) to order.2,
        λ x e. inserted x e
            ∙ ap (λ ys. rows_from m (row_cell c.sizes 0) seen ++ ys) (row_behind x r rs (omega arith))
            ∙ ap (λ a. rows_from m (row_cell c.sizes 0) seen ++ (row_at m a ∷ with_row x rs)) (sym from)
            ∙ rows_onward m (row_cell c.sizes 0) seen (with_row x rs)
            ∙ ap (λ a. rows_from m (row_cell c.sizes 0) (suc seen) ++ with_row x (rows_from m a k)) to,
      )

  -- before a row that leaves room, and behind the last
  found_before : (k seen place : ℕ) → first_gap place n (rows_from m (row_cell c.sizes seen) (suc k)) ≡ gap
      → place + n ≤ (row_at m (row_cell c.sizes seen)).start → (x : BlockRow) → x.start ≡ gap
      → (place ≡ gap) × (with_row x (rows_from m (row_cell c.sizes seen) (suc k))
      ≡ x ∷ rows_from m (row_cell c.sizes seen) (suc k))
  found_before k seen place rest room x e =
      let r = row_at m (row_cell c.sizes seen) in
      let rs = rows_from m (row_cell c.sizes seen + 32) k in
      let at : place ≡ gap = sym (gap_here place n r rs room) ∙ rest in
      (at, row_first x r rs (omega arith))

  -- rows in order end below their bound
  order_high : (low high : ℕ) (rows : List BlockRow) → AreInOrder low high rows → low ≤ high
  order_high low high [] h = h
  order_high low high (r ∷ rs) h = let l = order_high (row_end r) high rs h.2 in let a = h.0 in omega arith

  turn : (k : ℕ) (v : State) → ShowsNothing start v → Seeking c m size key n gap (suc k) v.values v.memory
      → HasAt (alone c.sizes) 17 seek_body
      → ReachesQuietly c (alone c.sizes) 7 17 start v 24
      (λ values m'. (i : ℕ) × (i ≤ k) × Inv c m size key n gap i values m')
  unfolding put reg_result extended
  turn k v shown h has =
      let J = λ (values : Values) (m' : Bytes). (i : ℕ) × (i ≤ k) × Inv c m size key n gap i values m' in
      let f = lie.first in let e = lie.ends in let i = lie.inside in let s = lie.small in let heap = lie.heap_small in
      let few = g.few in let least = lie.few in let q = h.holds in
      let p = row_cell c.sizes h.seen in
      let r = row_at m p in
      let count = h.count in let cursor = h.cursor in let room = q.room in
      let place = v.values 5 in
      let at0 : (v.values 6 + 0) % 2 ^ 64 ≡ p = omega arith in
      let at24 : (v.values 6 + 24) % 2 ^ 64 ≡ p + 24 = omega arith in
      let is_start : load 8 v.memory ((v.values 6 + 0) % 2 ^ 64) ≡ r.start =
      ap (λ z. load 8 z ((v.values 6 + 0) % 2 ^ 64)) q.same ∙ ap (load 8 m) at0 in
      let is_end : load 8 v.memory ((v.values 6 + 24) % 2 ^ 64) ≡ row_end r =
      ap (λ z. load 8 z ((v.values 6 + 24) % 2 ^ 64)) q.same ∙ ap (load 8 m) at24 ∙ g.ends h.seen (omega arith) in
      let low : place ≤ r.start = h.order.0 in
      let high : r.start ≤ region_end c.sizes Heap =
      (let rest = order_high (row_end r) (region_end c.sizes Heap) (rows_from m (p + 32) k) h.order.2 in omega arith) in
      let sum : (v.values 5 + v.values 4) % 2 ^ 64 ≡ place + n = omega arith in
      let v1 = effects c (Load Ld 9 6 0 ∷ Operate Add 10 5 (Register 4) ∷ []) v in
      quiet_line c ok (alone c.sizes) start (Load Ld 9 6 0 ∷ Operate Add 10 5 (Register 4) ∷ []) 5 17 v 24 J shown
      (in_spaces c _ p 8 at0 (omega arith) (omega arith), (tt, tt)) (has.0, (has.1.0, tt))
      (λ s1. quiet_branch c ok (alone c.sizes) start 4 19 v1 Bgeu 9 (Register 10) 3 24 J has.1.1.0 s1
      (λ t s2. quiet_weaken c ok (alone c.sizes) start 1 4 23 (worked c v1) 24 J J (omega arith) (λ x y z. z)
      (quiet_end c ok (alone c.sizes) start (Move 8 6 ∷ []) 23 (worked c v1) J s2 (tt, tt) (has.1.1.1.1.1.1.0, tt) (
        0,
        omega arith,
        inr (
            let wide = if_not_below _ _ t in
            let room' : place + n ≤ r.start = omega arith in
            record {
              found = record {
                holds = record {
                  size_is = q.size_is;
                  key_is = q.key_is;
                  null = q.null;
                  last = q.last;
                  room = q.room;
                  end = q.end;
                  same = q.same;
                };
                index = h.seen;
                left = suc k;
                count = h.count;
                cursor = h.cursor;
                place = (found_before k h.seen place h.rest room' (record { start = gap; size = 0; key = 0 }) refl).0;
                inserted = λ x z. h.inserted x z
                    ∙ ap (λ ys. rows_from m (row_cell c.sizes 0) h.seen ++ ys)
                    (found_before k h.seen place h.rest room' x z).1;
              };
              past = omega arith;
            }),
      )))
      (λ t s2. quiet_line c ok (alone c.sizes) start (Load Ld 5 6 24 ∷ Operate Add 6 6 (Number 32) ∷ []) 2 20
      (worked c v1) 24 J s2 (in_spaces c _ (p + 24) 8 at24 (omega arith) (omega arith), (tt, tt))
      (has.1.1.1.0, (has.1.1.1.1.0, tt))
      (λ s3. quiet_jump c ok (alone c.sizes) start 1 22 1
      (effects c (Load Ld 5 6 24 ∷ Operate Add 6 6 (Number 32) ∷ []) (worked c v1)) 24 J has.1.1.1.1.1.0 s3
      (λ s4. quiet_arrived c ok (alone c.sizes) start 1 24 24
      (worked c (effects c (Load Ld 5 6 24 ∷ Operate Add 6 6 (Number 32) ∷ []) (worked c v1))) J refl (
        s4,
        (
          k,
          omega arith,
          inl (
              let narrow = if_below _ _ t in
              let below : r.start < place + n = omega arith in
              let next = passed k h.seen place h.rest h.order below h.inserted in
              record {
                holds = record {
                  size_is = q.size_is;
                  key_is = q.key_is;
                  null = q.null;
                  last = q.last;
                  room = q.room;
                  end = q.end;
                  same = q.same;
                };
                seen = suc h.seen;
                count = omega arith;
                cursor = omega arith;
                stop = h.stop;
                rest = ap (λ z. first_gap z n (rows_from m (row_cell c.sizes (suc h.seen)) k)) is_end ∙ next.0;
                order = subst (λ z. AreInOrder z (region_end c.sizes Heap)
                    (rows_from m (row_cell c.sizes (suc h.seen)) k))
                    (sym is_end) next.1;
                inserted = next.2;
              }),
        ),
      )))))

  -- at the end of the rows
  behind_all : (v : State) → Seeking c m size key n gap 0 v.values v.memory → Found c m size key n gap v.values v.memory
  behind_all v h =
      let q = h.holds in
      record {
        holds = q;
        index = h.seen;
        left = 0;
        count = h.count;
        cursor = h.cursor;
        place = h.rest;
        inserted = h.inserted;
      }

  each : (k : ℕ) (v : State) → ShowsNothing start v → Inv c m size key n gap k v.values v.memory
      → HasAt (alone c.sizes) 17 seek_body → (has : HasAt (alone c.sizes) 16 (until_code Bgeu 6 (Register 8) seek_body))
      → QuietTurn c ok (alone c.sizes) start 16 Bgeu 6 (Register 8) seek_body 7 (Inv c m size key n gap)
      (Found c m size key n gap) has k v
  each k v shown (inr st) has whole = inr (not_below (v.values 6) (v.values 8) st.past, st.found)
  each zero v shown (inl h) has whole =
      let d = h.stop in let e = h.cursor in let z = h.count in
      inr (not_below (v.values 6) (v.values 8) (omega arith), behind_all v h)
  each (suc k) v shown (inl h) has whole =
      let d = h.stop in let e = h.cursor in let z = h.count in
      inl (is_below (v.values 6) (v.values 8) (omega arith), k, refl, λ s1. turn k (worked c v) s1 h has)

  pub seeks : (v : State) → IsOfWords v → ShowsNothing start v
      → Seeking c m size key n gap (block_total c.sizes m) v.values v.memory
      → (has : HasAt (alone c.sizes) 16 (until_code Bgeu 6 (Register 8) seek_body))
      → ReachesQuietly c (alone c.sizes) (block_total c.sizes m * (7 + 2) + 1) 16 start v 25
      (Found c m size key n gap)
  seeks v w shown h has =
      quiet_loop c ok (alone c.sizes) start 16 Bgeu 6 (Register 8) seek_body 7 (Inv c m size key n gap)
      (Found c m size key n gap) has
      (λ k s ws sh i. each k s sh i (has_front (alone c.sizes) 17 seek_body (JumpBack 8 ∷ []) has.1) has)
      (block_total c.sizes m) v w shown (inl h)
