-- The whole routine that places a block.
use Rattle.std.proofs.Common.{◌≡◌, ℕ, suc, ◌+◌, ◌-◌, ◌*◌, ◌%◌, ◌^◌, ◌<◌, ◌≤◌, inl, List, [], ◌∷◌, ◌++◌}
use Rattle.std.proofs.Common.{length, refl, sym, ap, ◌∙◌, subst, arith}
use Rattle.addr_map.specs.declared.region.Region.TheVariants.{Heap, Blocks}
use Rattle.addr_map.specs.Places.{MapSizes, AreMapped, region_start, region_last, region_end}
use Rattle.rv_isa.specs.declared.instruction.BranchOp.TheVariants.{Beq, Bltu, Bgeu}
use Rattle.rv_isa.specs.declared.instruction.RegOp.TheVariants.{Add, Sub, Sll}
use Rattle.rv_isa.specs.declared.instruction.LoadOp.TheVariants.{Ld}
use Rattle.rv_isa.specs.Results.{reg_result, extended}
use Rattle.obj_memory.specs.Heap.{block_room}
use Rattle.flat_code.specs.declared.instruction.RightOperand.TheVariants.{Register, Number}
use Rattle.flat_code.specs.declared.instruction.FlatInstruction.{FlatInstruction}
use Rattle.flat_code.specs.declared.instruction.FlatInstruction.TheVariants.{Constant, Move, Operate, Load}
use Rattle.flat_code.specs.Memory.{Bytes, put, load, store}
use Rattle.flat_code.specs.State.{Values, State}
use Rattle.flat_code.specs.Words.{IsOfWords}
use Rattle.flat_code.specs.Meaning.{Context}
use Rattle.flat_code.proofs.Stored.{load_kept, kept_beside}
use Rattle.flat_code.specs.Routines.Registers.{AreDistinct, AreBelow, AreNoneOf}
use Rattle.flat_code.specs.Routines.Routine.{HasAt, unless_code, until_code}
use Rattle.flat_code.specs.Routines.Effects.{worked, effects}
use Rattle.flat_code.specs.Routines.Metadata.{ShowsNothing, Metadata}
use Rattle.flat_code.specs.Routines.Renaming.{through}
use Rattle.flat_code.proofs.Routines.Steps.{has_front, has_back, has_self}
use Rattle.flat_code.proofs.Routines.Distinct.{AreFrom, AreRegisters, register_of, registers_rename, others_stay}
use Rattle.flat_code.proofs.Routines.Regions.{IsLaidOut, laid_out}
use Rattle.flat_code.proofs.Routines.Words.{store_four, IsOfFourWords, same_metadata, stored_at, four_beside}
use Rattle.flat_code.proofs.Routines.Wrapped.{routine}
use Rattle.flat_code.proofs.Routines.Branches.{if_not_below, if_below, if_less, if_not_less}
use Rattle.shadow_space.proofs.Entries.{context_of, agrees_shows, agrees_memory}
use Rattle.flat_code.specs.Routines.Spaces.Quiet.{AreQuiet}
use Rattle.flat_code.proofs.Routines.Spaces.Quiet.{in_spaces, shows_itself, quiet_words, worked_words}
use Rattle.flat_code.proofs.Routines.Spaces.Rules.{Quietly, ReachesQuietly, quiet_line, quiet_end, quiet_next}
use Rattle.flat_code.proofs.Routines.Spaces.Rules.{quiet_branch}
use Rattle.flat_code.proofs.Routines.Spaces.Rules.{quiet_weaken, quiet_arrived}
use Rattle.heap_space.specs.Rows.{AreInOrder, first_gap}
use Rattle.heap_space.specs.Table.{total_cell, row_cell, block_total, block_rows, IsTableGood}
use Rattle.heap_space.specs.Routines.{HasPlaced, HasBlocks, IsPlaceRoutine, round_size}
use Rattle.heap_space.specs.Routines.{write_row, insert_code, seek_code, count_code, place_code}
use Rattle.heap_space.proofs.Regions.{IsTableLaidOut, table_laid_out, last_of_heap}
use Rattle.heap_space.proofs.Lists.{gap_most, gap_in_heap, too_many, too_high, rows_length}
use Rattle.heap_space.proofs.Seeking.{alone, seek_body, Found, seeks}
use Rattle.heap_space.proofs.Inserting.{move_body, Carries, HasMoved, moves}
use Rattle.heap_space.proofs.Placing.{room_rounded, Result, nothing_placed, new_words, written, row_written}

-- ---- the row is written and counted

abbrev tail : MapSizes → List FlatInstruction
tail map = write_row map 0 1 2 5 6 7 10

module _ (c : Context) (lie : IsTableLaidOut c.sizes) (v : State) (size key place i end total : ℕ)
    (carries : Carries c size key place i end v.values) (few : total < c.sizes.budgets.blocks) (within : i ≤ total)
    (counted : load 8 v.memory (total_cell c.sizes) ≡ total) where
  tail_quiet : AreQuiet c (tail c.sizes) v
  unfolding put reg_result
  tail_quiet =
      let f = lie.first in let e = lie.ends in let s = lie.small in let n = lie.inside in let l = lie.few in
      let cursor = carries.cursor in
      let p = row_cell c.sizes i in
      let at : (offset : ℕ) → offset ≤ 24 → (v.values 6 + offset) % 2 ^ 64 ≡ p + offset = λ offset l. omega arith in
      let cell : (region_start c.sizes Blocks % 2 ^ 64 + 0) % 2 ^ 64 ≡ total_cell c.sizes = omega arith in (
        in_spaces c _ (p + 0) 8 (at 0 (omega arith)) (omega arith) (omega arith),
        (
          in_spaces c _ (p + 8) 8 (at 8 (omega arith)) (omega arith) (omega arith),
          (
            in_spaces c _ (p + 16) 8 (at 16 (omega arith)) (omega arith) (omega arith),
            (
              in_spaces c _ (p + 24) 8 (at 24 (omega arith)) (omega arith) (omega arith),
              (
                tt,
                (
                  in_spaces c _ (total_cell c.sizes) 8 cell (omega arith) (omega arith),
                  (tt, (in_spaces c _ (total_cell c.sizes) 8 cell (omega arith) (omega arith), (tt, tt))),
                ),
              ),
            ),
          ),
        ),
      )

  pub tail_does : ((effects c (tail c.sizes) v).values 2 ≡ place)
      × ((effects c (tail c.sizes) v).memory
      ≡ written c.sizes v.memory i total (record { base = place; bound = size; key = key; lock = end }))
  unfolding put reg_result extended
  tail_does =
      let f = lie.first in let e = lie.ends in let s = lie.small in let n = lie.inside in let l = lie.few in
      let cursor = carries.cursor in
      let p = row_cell c.sizes i in
      let x : Metadata = record { base = place; bound = size; key = key; lock = end } in
      let raw = store 8 (store 8 (store 8 (store 8 v.memory ((v.values 6 + 0) % 2 ^ 64) (v.values 5))
      ((v.values 6 + 8) % 2 ^ 64) (v.values 0)) ((v.values 6 + 16) % 2 ^ 64) (v.values 1)) ((v.values 6 + 24) % 2 ^ 64)
      (v.values 10) in
      let y : Metadata = record { base = v.values 5; bound = v.values 0; key = v.values 1; lock = v.values 10 } in
      let words : y ≡ x = same_metadata y x carries.place_is carries.size_is carries.key_is carries.room_end in
      let first : raw ≡ store_four v.memory p x =
      stored_at v.memory p ((v.values 6 + 0) % 2 ^ 64) ((v.values 6 + 8) % 2 ^ 64) ((v.values 6 + 16) % 2 ^ 64)
      ((v.values 6 + 24) % 2 ^ 64) y (omega arith) (omega arith) (omega arith) (omega arith)
      ∙ ap (store_four v.memory p) words in
      let cell : (region_start c.sizes Blocks % 2 ^ 64 + 0) % 2 ^ 64 ≡ total_cell c.sizes = omega arith in
      let got : load 8 raw ((region_start c.sizes Blocks % 2 ^ 64 + 0) % 2 ^ 64) ≡ total =
      ap (load 8 raw) cell ∙ ap (λ m. load 8 m (total_cell c.sizes)) first
      ∙ load_kept 8 v.memory (store_four v.memory p x) (total_cell c.sizes)
      (kept_beside p 32 (total_cell c.sizes) 8 v.memory (store_four v.memory p x) (four_beside v.memory p x)
      (inl (omega arith)))
      ∙ counted in
      let more : (load 8 raw ((region_start c.sizes Blocks % 2 ^ 64 + 0) % 2 ^ 64) + 1) % 2 ^ 64 ≡ suc total =
      omega arith in (
        carries.place_is,
        same_store raw (store_four v.memory p x) _ _ _ _ first cell more,
      )
    where
      same_store : (m m' : Bytes) (a a' x x' : ℕ) → m ≡ m' → a ≡ a' → x ≡ x' → store 8 m a x ≡ store 8 m' a' x'
      same_store m m' a a' x x' em ea ex = cc

-- ---- the parts of the routine, and where they stand

abbrev insert : MapSizes → List FlatInstruction
insert map = insert_code map 0 1 2 5 6 7 9 10

abbrev test_end : MapSizes → List FlatInstruction
test_end map = unless_code Bltu 3 (Register 9) (insert map)

abbrev gap_head : List FlatInstruction
gap_head = Operate Add 10 5 (Register 4) ∷ Operate Sub 9 10 (Number 1) ∷ []

abbrev seek_loop : List FlatInstruction
seek_loop = until_code Bgeu 6 (Register 8) seek_body

abbrev move_loop : List FlatInstruction
move_loop = until_code Beq 7 (Register 6) move_body

abbrev seek_head : MapSizes → List FlatInstruction
seek_head map =
    Operate Sll 7 7 (Number 5)
    ∷ Operate Add 6 6 (Number 8)
    ∷ Operate Add 7 7 (Register 6)
    ∷ Constant 5 (region_start map Heap)
    ∷ Move 8 7
    ∷ []

abbrev count_head : MapSizes → List FlatInstruction
count_head map = round_size 0 4 ++ Constant 6 (region_start map Blocks) ∷ Load Ld 7 6 0 ∷ []

abbrev test_count : MapSizes → List FlatInstruction
test_count map = unless_code Bgeu 7 (Number map.budgets.blocks) (seek_code map 0 1 2 3 4 5 6 7 8 9 10)

abbrev place_head : MapSizes → List FlatInstruction
place_head map = Constant 2 0 ∷ Constant 3 (region_last map Heap) ∷ []

abbrev test_size : MapSizes → List FlatInstruction
test_size map = unless_code Bltu 3 (Register 0) (count_code map 0 1 2 3 4 5 6 7 8 9 10)

has_0 : (map : MapSizes) → HasAt (alone map) 0 (place_head map)
has_0 map = has_front (alone map) 0 (place_head map) (test_size map) (has_self (alone map))

has_2 : (map : MapSizes) → HasAt (alone map) 2 (test_size map)
has_2 map = has_back (alone map) 0 (place_head map) (test_size map) (has_self (alone map))

has_3 : (map : MapSizes) → HasAt (alone map) 3 (count_head map)
has_3 map = has_front (alone map) 3 (count_head map) (test_count map) (has_2 map).1

has_10 : (map : MapSizes) → HasAt (alone map) 10 (test_count map)
has_10 map = has_back (alone map) 3 (count_head map) (test_count map) (has_2 map).1

has_11 : (map : MapSizes) → HasAt (alone map) 11 (seek_head map)
has_11 map = has_front (alone map) 11 (seek_head map) (seek_loop ++ (gap_head ++ test_end map)) (has_10 map).1

has_16 : (map : MapSizes) → HasAt (alone map) 16 (seek_loop ++ (gap_head ++ test_end map))
has_16 map = has_back (alone map) 11 (seek_head map) (seek_loop ++ (gap_head ++ test_end map)) (has_10 map).1

has_25 : (map : MapSizes) → HasAt (alone map) 25 (gap_head ++ test_end map)
has_25 map = has_back (alone map) 16 seek_loop (gap_head ++ test_end map) (has_16 map)

has_27 : (map : MapSizes) → HasAt (alone map) 27 (test_end map)
has_27 map = has_back (alone map) 25 gap_head (test_end map) (has_25 map)

-- ---- the routine alone

module _ (c : Context) (ok : IsLaidOut c.sizes) (lie : IsTableLaidOut c.sizes) (v : State) (w : IsOfWords v)
    (g : IsTableGood c.sizes v.memory) where
  abbrev m : Bytes
  m = v.memory

  abbrev room : ℕ
  room = block_room (v.values 0)

  abbrev gap : ℕ
  gap = first_gap (region_start c.sizes Heap) room (block_rows c.sizes m)

  abbrev total : ℕ
  total = block_total c.sizes m

  abbrev J : Values → Bytes → Type 0
  J values m' = Result c.sizes m (v.values 0) (v.values 1) (values 2) m'

  abbrev FoundGap : Values → Bytes → Type 0
  FoundGap = Found c m (v.values 0) (v.values 1) room gap

  -- the row is inserted
  inserts : (s : State) → IsOfWords s → ShowsNothing v s → FoundGap s.values s.memory → s.values 10 ≡ gap + room
      → gap + room ≤ region_end c.sizes Heap → total < c.sizes.budgets.blocks
      → ReachesQuietly c (alone c.sizes) (11 * total + 10) 28 v s 48 J
  inserts s ws shown f end_is fits less =
      let k = f.left in let count = f.count in let q = f.holds in let heap = lie.heap_small in
      let first = lie.few in let some = lie.ends in
      quiet_weaken c ok (alone c.sizes) v (k * (9 + 2) + 1 + 9) (11 * total + 10) 28 s 48 J J (omega arith) (λ x y z. z)
      (quiet_next c ok (alone c.sizes) v (k * (9 + 2) + 1) 9 28 39 48 s
      (HasMoved c m (v.values 0) (v.values 1) gap f.index (gap + room) total) J ws
      (moves c ok lie v m (v.values 0) (v.values 1) gap f.index (gap + room) total less k s ws shown count
      (record {
        size_is = q.size_is;
        key_is = q.key_is;
        place_is = f.place;
        cursor = f.cursor;
        room_end = end_is;
      }) q.end q.same (has_front (alone c.sizes) 28 move_loop (tail c.sizes) (has_27 c.sizes).1))
      (λ s' ws' shown' h.
      let counted : load 8 s'.memory (total_cell c.sizes) ≡ total =
      load_kept 8 m s'.memory (total_cell c.sizes)
      (kept_beside (row_cell c.sizes (suc f.index)) (32 * (total - f.index)) (total_cell c.sizes) 8 m s'.memory
      h.moved.keeps (inl (omega arith))) in
      let does = tail_does c lie s' (v.values 0) (v.values 1) gap f.index (gap + room) total h.carries less
      (omega arith) counted in
      let words : IsOfFourWords (new_words gap (v.values 0) (v.values 1)) = record {
        base = omega arith;
        bound = w.values 0;
        key = w.values 1;
        lock = omega arith;
      } in
      let result = row_written c.sizes lie m s'.memory g (v.values 0) (v.values 1) f.index k count less h.moved words
      f.inserted fits in
      quiet_end c ok (alone c.sizes) v (tail c.sizes) 39 s' J shown'
      (tail_quiet c lie s' (v.values 0) (v.values 1) gap f.index (gap + room) total h.carries less
      (omega arith) counted)
      (has_back (alone c.sizes) 28 move_loop (tail c.sizes) (has_27 c.sizes).1)
      (subst (λ x. Result c.sizes m (v.values 0) (v.values 1) x (effects c (tail c.sizes) s').memory) (sym does.0)
      (subst (Result c.sizes m (v.values 0) (v.values 1) gap) (sym does.1) result))))

  -- a gap was found: it may lie too high
  tests_end : (s : State) → IsOfWords s → ShowsNothing v s → FoundGap s.values s.memory → s.values 2 ≡ 0
      → total < c.sizes.budgets.blocks → v.values 0 ≤ region_last c.sizes Heap
      → ReachesQuietly c (alone c.sizes) (2 + suc (11 * total + 10)) 25 v s 48 J
  unfolding put reg_result
  tests_end s ws shown f null less small =
      let q = f.holds in let place = f.place in let is_room = q.room in let heap = lie.heap_small in
      let is_last = q.last in let last = last_of_heap c.sizes lie in
      let high = gap_in_heap (region_start c.sizes Heap) (region_end c.sizes Heap) room (block_rows c.sizes m)
      g.in_order in
      let sum : (s.values 5 + s.values 4) % 2 ^ 64 ≡ gap + room = omega arith in
      let before : ((s.values 5 + s.values 4) % 2 ^ 64 + (2 ^ 64 - 1)) % 2 ^ 64 ≡ gap + room - 1 = omega arith in
      let t = effects c gap_head s in
      quiet_line c ok (alone c.sizes) v gap_head (suc (11 * total + 10)) 25 s 48 J shown (tt, (tt, tt))
      (has_front (alone c.sizes) 25 gap_head (test_end c.sizes) (has_25 c.sizes))
      (λ s1. quiet_branch c ok (alone c.sizes) v (11 * total + 10) 27 t Bltu 3 (Register 9) (length (insert c.sizes)) 48
      J (has_27 c.sizes).0 s1
      (λ e s2. quiet_arrived c ok (alone c.sizes) v (11 * total + 10) 48 48 (worked c t) J refl (
        s2,
        nothing_placed c.sizes m (v.values 0) (v.values 1) (s.values 2) s.memory g
            (too_high (region_start c.sizes Heap) (region_end c.sizes Heap) c.sizes.budgets.blocks (v.values 0)
            (block_rows c.sizes m) (let l = if_less _ _ e in omega arith)) null q.same,
      ))
      (λ e s2. inserts (worked c t) (worked_words c t (quiet_words c gap_head s (tt, (tt, tt)) ws)) s2
      (record {
        holds = record {
          size_is = q.size_is;
          key_is = q.key_is;
          null = q.null;
          last = q.last;
          room = q.room;
          end = q.end;
          same = q.same;
        };
        index = f.index;
        left = f.left;
        count = f.count;
        cursor = f.cursor;
        place = f.place;
        inserted = f.inserted;
      }) sum (let l = if_not_less _ _ e in omega arith) less))

  -- the rows are sought through
  seeks_gap : (s : State) → IsOfWords s → ShowsNothing v s → s.values 0 ≡ v.values 0 → s.values 1 ≡ v.values 1
      → s.values 2 ≡ 0 → s.values 3 ≡ region_last c.sizes Heap → s.values 4 ≡ room
      → s.values 6 ≡ total_cell c.sizes → s.values 7 ≡ total → s.memory ≡ m
      → total < c.sizes.budgets.blocks → v.values 0 ≤ region_last c.sizes Heap
      → ReachesQuietly c (alone c.sizes) (5 + (total * (7 + 2) + 1 + (2 + suc (11 * total + 10)))) 11 v s 48 J
  unfolding put reg_result
  seeks_gap s ws shown size_is key_is null last_is room_is cell_is total_is same less small =
      let first = lie.first in let ends = lie.ends in let inside = lie.inside in let word = lie.small in
      let few = lie.few in let heap = lie.heap_small in let last = last_of_heap c.sizes lie in
      let t = effects c (seek_head c.sizes) s in
      let quiet : AreQuiet c (seek_head c.sizes) s = (tt, (tt, (tt, (tt, (tt, tt))))) in
      let begin : region_start c.sizes Heap % 2 ^ 64 ≡ region_start c.sizes Heap =
      (let some = lie.heap_some in omega arith) in
      let cursor : (s.values 6 + 8) % 2 ^ 64 ≡ row_cell c.sizes 0 = omega arith in
      let end : ((s.values 7 * 32) % 2 ^ 64 + (s.values 6 + 8) % 2 ^ 64) % 2 ^ 64
      ≡ row_cell c.sizes total = omega arith in
      quiet_line c ok (alone c.sizes) v (seek_head c.sizes)
      (total * (7 + 2) + 1 + (2 + suc (11 * total + 10))) 11 s 48 J
      shown quiet (has_11 c.sizes)
      (λ s1. quiet_next c ok (alone c.sizes) v (total * (7 + 2) + 1) (2 + suc (11 * total + 10)) 16 25 48 t FoundGap J
      (quiet_words c (seek_head c.sizes) s quiet ws)
      (seeks c ok lie v m g (v.values 0) (v.values 1) room gap (omega arith) (omega arith) t
      (quiet_words c (seek_head c.sizes) s quiet ws) s1
      (record {
        holds = record {
          size_is = size_is;
          key_is = key_is;
          null = null;
          last = last_is;
          room = room_is;
          end = end;
          same = same;
        };
        seen = 0;
        count = omega arith;
        cursor = cursor;
        stop = end;
        rest = ap (λ x. first_gap x room (block_rows c.sizes m)) begin;
        order = subst (λ x. AreInOrder x (region_end c.sizes Heap) (block_rows c.sizes m)) (sym begin) g.in_order;
        inserted = λ x e. refl;
      })
      (has_front (alone c.sizes) 16 seek_loop (gap_head ++ test_end c.sizes) (has_16 c.sizes)))
      (λ s' ws' shown' f. tests_end s' ws' shown' f f.holds.null less small))

  pub places_alone : ReachesQuietly c (alone c.sizes) (32 + 20 * total) 0 v v 48 J
  unfolding put reg_result extended
  places_alone =
      let first = lie.first in let ends = lie.ends in let inside = lie.inside in let word = lie.small in
      let few = lie.few in let heap = lie.heap_small in let last = last_of_heap c.sizes lie in
      let some = lie.heap_some in let most = g.few in let begin = lie.heap_first in
      let rest = total * (7 + 2) + 1 + (2 + suc (11 * total + 10)) in
      let t = effects c (place_head c.sizes) v in
      let quiet : AreQuiet c (place_head c.sizes) v = (tt, (tt, tt)) in
      let wt = worked_words c t (quiet_words c (place_head c.sizes) v quiet w) in
      let last_is : region_last c.sizes Heap % 2 ^ 64 ≡ region_last c.sizes Heap = omega arith in
      let low = gap_most (region_start c.sizes Heap) (region_end c.sizes Heap) room (block_rows c.sizes m) g.in_order in
      let blocks : c.sizes.budgets.blocks % 2 ^ 64 ≡ c.sizes.budgets.blocks = omega arith in
      let cell : (region_start c.sizes Blocks % 2 ^ 64 + 0) % 2 ^ 64 ≡ total_cell c.sizes = omega arith in
      let at : region_start c.sizes Blocks % 2 ^ 64 ≡ total_cell c.sizes = omega arith in
      let got : load 8 m ((region_start c.sizes Blocks % 2 ^ 64 + 0) % 2 ^ 64) ≡ total = ap (load 8 m) cell in
      let u = effects c (count_head c.sizes) (worked c t) in
      let quiet' : AreQuiet c (count_head c.sizes) (worked c t) =
      (tt, (tt, (tt, (tt, (tt, (tt, (in_spaces c _ (total_cell c.sizes) 8 cell (omega arith) (omega arith), tt))))))) in
      quiet_weaken c ok (alone c.sizes) v (2 + suc (7 + suc (5 + rest))) (32 + 20 * total) 0 v 48 J J (omega arith)
      (λ x y z. z)
      (quiet_line c ok (alone c.sizes) v (place_head c.sizes) (suc (7 + suc (5 + rest))) 0 v 48 J (shows_itself v) quiet
      (has_0 c.sizes)
      (λ s1. quiet_branch c ok (alone c.sizes) v (7 + suc (5 + rest)) 2 t Bltu 3 (Register 0) 45 48 J
      (has_2 c.sizes).0 s1
      (λ e s2. quiet_arrived c ok (alone c.sizes) v (7 + suc (5 + rest)) 48 48 (worked c t) J refl (
        s2,
        nothing_placed c.sizes m (v.values 0) (v.values 1) 0 m g
            (too_high (region_start c.sizes Heap) (region_end c.sizes Heap) c.sizes.budgets.blocks (v.values 0)
            (block_rows c.sizes m) (let l = if_less _ _ e in omega arith)) refl refl,
      ))
      (λ e s2.
      let small : v.values 0 ≤ region_last c.sizes Heap = (let l = if_not_less _ _ e in omega arith) in
      quiet_line c ok (alone c.sizes) v (count_head c.sizes) (suc (5 + rest)) 3 (worked c t) 48 J s2 quiet'
      (has_3 c.sizes)
      (λ s3. quiet_branch c ok (alone c.sizes) v (5 + rest) 10 u Bgeu 7 (Number c.sizes.budgets.blocks) 37 48 J
      (has_10 c.sizes).0 s3
      (λ e' s4. quiet_arrived c ok (alone c.sizes) v (5 + rest) 48 48 (worked c u) J refl (
        s4,
        nothing_placed c.sizes m (v.values 0) (v.values 1) 0 m g
            (too_many (region_start c.sizes Heap) (region_end c.sizes Heap) c.sizes.budgets.blocks (v.values 0)
            (block_rows c.sizes m)
            (let l = if_not_below _ _ e' in let n = rows_length m (row_cell c.sizes 0) total in omega arith)) refl refl,
      ))
      (λ e' s4. seeks_gap (worked c u) (worked_words c u (quiet_words c (count_head c.sizes) (worked c t) quiet' wt))
      s4 refl
      refl refl last_is (room_rounded (v.values 0) (omega arith)) at got refl
      (let l = if_below _ _ e' in omega arith) small)))))

abbrev place_registers : (size key into scratch : ℕ) → ℕ → ℕ
place_registers a k o t = register_of (a ∷ k ∷ []) (o ∷ [])
    (t ∷ (t + 1) ∷ (t + 2) ∷ (t + 3) ∷ (t + 4) ∷ (t + 5) ∷ (t + 6) ∷ (t + 7) ∷ [])

pub place_does : (map : MapSizes) (a k o t : ℕ) → AreMapped map → AreNoneOf (a ∷ k ∷ []) (o ∷ [])
    → AreBelow t (a ∷ k ∷ []) → AreBelow t (o ∷ [])
    → IsPlaceRoutine map a k o t
    (place_code map a k o t (t + 1) (t + 2) (t + 3) (t + 4) (t + 5) (t + 6) (t + 7))
place_does map a k o t mapped apart below results count runtime charge weight =
    let c = context_of map runtime charge weight in
    let ok = laid_out map mapped in
    let lie = table_laid_out map mapped in
    let own = t ∷ (t + 1) ∷ (t + 2) ∷ (t + 3) ∷ (t + 4) ∷ (t + 5) ∷ (t + 6) ∷ (t + 7) ∷ [] in
    let r : AreRegisters (a ∷ k ∷ []) (o ∷ []) own t =
    record {
      none = apart;
      distinct = (tt, tt);
      ins_below = below;
      res_below = results;
      from = own_from t;
      own_distinct = own_distinct t;
    } in
    let f = place_registers a k o t in
    routine c 11 2 f (alone map) (λ s. HasBlocks map count s.memory)
    (registers_rename (a ∷ k ∷ []) (o ∷ []) own t r) refl
    (λ s. 32 + 20 * count)
    (λ s. Quietly (through f s) (λ values m'. Result map s.memory (s.values a) (s.values k) (values 2) m'))
    (HasPlaced map a k o t)
    (λ s w seen p. quiet_weaken c ok (alone map) (through f s) (32 + 20 * block_total map s.memory) (32 + 20 * count) 0
    (through f s) 48 _ _ (let e = p.1 in omega arith) (λ x y z. z) (places_alone c ok lie (through f s) seen p.0))
    (λ s s' v w p h agrees only.
    let same : s'.memory ≡ v.memory = agrees_memory 11 f v s' agrees in
    let rest = subst (λ x. Result map s.memory (s.values a) (s.values k) x s'.memory) (agrees.values 2 (omega arith))
    (subst (Result map s.memory (s.values a) (s.values k) (v.values 2)) (sym same) h.1) in
    record {
      placed = rest.placed;
      good = rest.good;
      memory = rest.keeps;
      shows = agrees_shows 11 f v s s' agrees (let z = h.0 in record {
        input = z.input;
        output = z.output;
        taken = z.taken;
        accesses = z.accesses;
        turns = z.turns;
      });
      others = others_stay (a ∷ k ∷ []) (o ∷ []) own t r s s' only;
    })
  where
    own_from : (t : ℕ)
        → AreFrom t (t ∷ (t + 1) ∷ (t + 2) ∷ (t + 3) ∷ (t + 4) ∷ (t + 5) ∷ (t + 6) ∷ (t + 7) ∷ [])
    own_from t = (
      omega arith,
      (
        omega arith,
        (
          omega arith,
          (
            omega arith,
            (
              omega arith,
              (
                omega arith,
                (
                  omega arith,
                  (omega arith, tt),
                ),
              ),
            ),
          ),
        ),
      ),
    )

    own_distinct : (t : ℕ)
        → AreDistinct (t ∷ (t + 1) ∷ (t + 2) ∷ (t + 3) ∷ (t + 4) ∷ (t + 5) ∷ (t + 6) ∷ (t + 7) ∷ [])
    own_distinct t = (
      (omega arith, (omega arith, (omega arith, (omega arith, (omega arith, (omega arith, (omega arith, tt))))))),
      (
        (omega arith, (omega arith, (omega arith, (omega arith, (omega arith, (omega arith, tt)))))),
        (
          (omega arith, (omega arith, (omega arith, (omega arith, (omega arith, tt))))),
          (
            (omega arith, (omega arith, (omega arith, (omega arith, tt)))),
            (
              (omega arith, (omega arith, (omega arith, tt))),
              ((omega arith, (omega arith, tt)), ((omega arith, tt), (tt, tt))),
            ),
          ),
        ),
      ),
    )
