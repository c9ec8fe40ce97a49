-- A block is found by its start and key.
use Rattle.std.proofs.Common.{◌≡◌, ℕ, zero, suc, ◌+◌, ◌*◌, ◌%◌, ◌^◌, ◌≤◌, ◌⊎◌, inl, inr, List, [], ◌∷◌}
use Rattle.std.proofs.Common.{Bool, true, false, ◌&&◌, Option, Some, if◌then◌else◌, refl, sym, ap, ◌∙◌}
use Rattle.std.proofs.Common.{subst, arith}
use Rattle.std.specs.Prelude.{◌==◌}
use Rattle.addr_map.specs.declared.region.Region.TheVariants.{Blocks, Cells}
use Rattle.addr_map.specs.Places.{MapSizes, AreMapped, spaces_begin, region_start, region_end}
use Rattle.rv_isa.specs.declared.instruction.BranchOp.TheVariants.{Bne, Bgeu}
use Rattle.rv_isa.specs.declared.instruction.RegOp.TheVariants.{Add}
use Rattle.rv_isa.specs.declared.instruction.LoadOp.TheVariants.{Ld}
use Rattle.rv_isa.specs.Results.{reg_result, branch_taken, extended}
use Rattle.flat_code.specs.declared.instruction.RightOperand.TheVariants.{Register, Number}
use Rattle.flat_code.specs.declared.instruction.FlatInstruction.{FlatInstruction}
use Rattle.flat_code.specs.declared.instruction.FlatInstruction.TheVariants.{Constant, Move, Operate, Load}
use Rattle.flat_code.specs.declared.instruction.FlatInstruction.TheVariants.{JumpBack}
use Rattle.flat_code.specs.Memory.{Bytes, put, load}
use Rattle.flat_code.specs.State.{Values, State}
use Rattle.flat_code.specs.Words.{IsOfWords}
use Rattle.flat_code.specs.Meaning.{Context}
use Rattle.flat_code.specs.Routines.Registers.{AreDistinct, AreBelow, AreNoneOf}
use Rattle.flat_code.specs.Routines.Routine.{HasAt, until_code}
use Rattle.flat_code.specs.Routines.Effects.{worked, effects}
use Rattle.flat_code.specs.Routines.Metadata.{ShowsNothing}
use Rattle.flat_code.specs.Routines.Renaming.{through}
use Rattle.flat_code.proofs.Routines.Steps.{has_front, has_back, has_self}
use Rattle.flat_code.proofs.Routines.Distinct.{AreRegisters, register_of, registers_rename, others_stay}
use Rattle.flat_code.proofs.Routines.Regions.{IsLaidOut, laid_out}
use Rattle.flat_code.proofs.Routines.Wrapped.{routine}
use Rattle.flat_code.proofs.Routines.Branches.{not_below, is_below, if_differ, if_same}
use Rattle.flat_code.specs.Routines.Objects.StandsFor.{BlockRow}
use Rattle.shadow_space.proofs.Entries.{context_of, agrees_shows, agrees_memory}
use Rattle.flat_code.specs.Routines.Spaces.Quiet.{AreQuiet}
use Rattle.flat_code.proofs.Routines.Spaces.Quiet.{in_spaces, shows_itself}
use Rattle.flat_code.proofs.Routines.Spaces.Rules.{Quietly, ReachesQuietly, QuietTurn, quiet_line, quiet_end}
use Rattle.flat_code.proofs.Routines.Spaces.Rules.{quiet_next}
use Rattle.flat_code.proofs.Routines.Spaces.Rules.{quiet_branch, quiet_loop, quiet_weaken}
use Rattle.heap_space.specs.Rows.{size_of}
use Rattle.heap_space.specs.Table.{total_cell, row_cell, row_at, rows_from, block_rows}
use Rattle.heap_space.specs.Routines.{IsFound, HasFound, HasBlocks, IsFindRoutine, begin_rows, look_at, find_code}
use Rattle.heap_space.proofs.Regions.{IsTableLaidOut, table_laid_out}

-- ---- the first match

other_start : (a k : ℕ) (r : BlockRow) (rs : List BlockRow) → (r.start == a) ≡ false
    → size_of a k (r ∷ rs) ≡ size_of a k rs
other_start a k r rs e = ap (λ b. if b && (r.key == k) then Some r.size else size_of a k rs) e

other_key : (a k : ℕ) (r : BlockRow) (rs : List BlockRow) → (r.start == a) ≡ true → (r.key == k) ≡ false
    → size_of a k (r ∷ rs) ≡ size_of a k rs
other_key a k r rs e d =
    ap (λ b. if b && (r.key == k) then Some r.size else size_of a k rs) e
    ∙ ap (λ b. if b then Some r.size else size_of a k rs) d

the_match : (a k : ℕ) (r : BlockRow) (rs : List BlockRow) → (r.start == a) ≡ true → (r.key == k) ≡ true
    → size_of a k (r ∷ rs) ≡ Some r.size
the_match a k r rs e d =
    ap (λ b. if b && (r.key == k) then Some r.size else size_of a k rs) e
    ∙ ap (λ b. if b then Some r.size else size_of a k rs) d

-- ---- the routine alone: 0 the start, 1 the key, 2 the size, 3 whether it was found, 4 the cursor, 5 the end, 6 a word

abbrev alone : MapSizes → List FlatInstruction
alone map = find_code map 0 1 2 3 4 5 6

abbrev head : MapSizes → List FlatInstruction
head map = Constant 3 0 ∷ begin_rows map 4 5

abbrev body : List FlatInstruction
body = look_at 0 1 2 3 4 5 6

-- rows are left to be looked at
record Looking (c : Context) (m : Bytes) (a key : ℕ) (answer : Option ℕ) (k : ℕ) (values : Values) (m' : Bytes)
    : Type 0 where
  at : ℕ
  cursor : values 4 ≡ at
  end : values 5 ≡ at + 32 * k
  start_is : values 0 ≡ a
  key_is : values 1 ≡ key
  none_yet : values 3 ≡ 0
  same : m' ≡ m
  rest : size_of a key (rows_from m at k) ≡ answer
  begins : spaces_begin ≤ at
  ends : at + 32 * k ≤ region_end c.sizes Cells

-- it was found
record Stopped (m : Bytes) (answer : Option ℕ) (values : Values) (m' : Bytes) : Type 0 where
  past : values 5 ≤ values 4
  same : m' ≡ m
  found : IsFound answer (values 2) (values 3)

abbrev Inv : Context → Bytes → (a key : ℕ) → Option ℕ → ℕ → Values → Bytes → Type 0
Inv c m a key answer k values m' = Looking c m a key answer k values m' ⊎ Stopped m answer values m'

abbrev Done : Bytes → Option ℕ → Values → Bytes → Type 0
Done m answer values m' = (m' ≡ m) × IsFound answer (values 2) (values 3)

module _ (c : Context) (ok : IsLaidOut c.sizes) (lie : IsTableLaidOut c.sizes) (start : State) (m : Bytes) (a key : ℕ)
    (answer : Option ℕ) where
  turn : (k : ℕ) (v : State) → ShowsNothing start v → Looking c m a key answer (suc k) v.values v.memory
      → HasAt (alone c.sizes) 7 body
      → ReachesQuietly c (alone c.sizes) 8 7 start v 15
      (λ values m'. (i : ℕ) × (i ≤ k) × Inv c m a key answer i values m')
  unfolding put reg_result extended branch_taken
  turn k v shown h has =
      let J = λ (values : Values) (m' : Bytes). (i : ℕ) × (i ≤ k) × Inv c m a key answer i values m' in
      let p = h.at in let e = h.cursor in let d = h.end in
      let lo = h.begins in let hi = h.ends in let small = lie.small in
      let r = row_at m p in
      let at0 : (v.values 4 + 0) % 2 ^ 64 ≡ p = omega arith in
      let at8 : (v.values 4 + 8) % 2 ^ 64 ≡ p + 8 = omega arith in
      let at16 : (v.values 4 + 16) % 2 ^ 64 ≡ p + 16 = omega arith in
      let step : (v.values 4 + 32) % 2 ^ 64 ≡ p + 32 = omega arith in
      let is_start : load 8 v.memory ((v.values 4 + 0) % 2 ^ 64) ≡ r.start =
      ap (λ z. load 8 z ((v.values 4 + 0) % 2 ^ 64)) h.same ∙ ap (load 8 m) at0 in
      let is_size : load 8 v.memory ((v.values 4 + 8) % 2 ^ 64) ≡ r.size =
      ap (λ z. load 8 z ((v.values 4 + 8) % 2 ^ 64)) h.same ∙ ap (load 8 m) at8 in
      let is_key : load 8 v.memory ((v.values 4 + 16) % 2 ^ 64) ≡ r.key =
      ap (λ z. load 8 z ((v.values 4 + 16) % 2 ^ 64)) h.same ∙ ap (load 8 m) at16 in
      let same_start : (b : Bool) → (load 8 v.memory ((v.values 4 + 0) % 2 ^ 64) == v.values 0) ≡ b
      → (r.start == a) ≡ b =
      λ b t. ap (λ z. z == a) (sym is_start) ∙ ap (λ z. load 8 v.memory ((v.values 4 + 0) % 2 ^ 64) == z)
      (sym h.start_is) ∙ t in
      let same_key : (b : Bool) → (load 8 v.memory ((v.values 4 + 16) % 2 ^ 64) == v.values 1) ≡ b
      → (r.key == key) ≡ b =
      λ b t. ap (λ z. z == key) (sym is_key) ∙ ap (λ z. load 8 v.memory ((v.values 4 + 16) % 2 ^ 64) == z)
      (sym h.key_is) ∙ t in
      let v1 = effects c (Load Ld 6 4 0 ∷ []) v in
      let v2 = effects c (Load Ld 6 4 16 ∷ []) (worked c v1) in
      quiet_line c ok (alone c.sizes) start (Load Ld 6 4 0 ∷ []) 7 7 v 15 J shown
      (in_spaces c _ p 8 at0 lo (omega arith), tt) (has.0, tt)
      (λ s1. quiet_branch c ok (alone c.sizes) start 6 8 v1 Bne 6 (Register 0) 5 15 J has.1.0 s1
      (λ t s2. quiet_weaken c ok (alone c.sizes) start 1 6 14 (worked c v1) 15 J J (omega arith) (λ x y q. q)
      (quiet_end c ok (alone c.sizes) start (Operate Add 4 4 (Number 32) ∷ []) 14 (worked c v1) J s2 (tt, tt)
      (has.1.1.1.1.1.1.1.0, tt) (
        k,
        omega arith,
        inl (record {
          at = p + 32;
          cursor = step;
          end = omega arith;
          start_is = h.start_is;
          key_is = h.key_is;
          none_yet = h.none_yet;
          same = h.same;
          rest = sym (other_start a key r (rows_from m (p + 32) k) (same_start false (if_differ _ _ t))) ∙ h.rest;
          begins = omega arith;
          ends = omega arith;
        }),
      )))
      (λ t s2. quiet_line c ok (alone c.sizes) start (Load Ld 6 4 16 ∷ []) 5 9 (worked c v1) 15 J s2
      (in_spaces c _ (p + 16) 8 at16 (omega arith) (omega arith), tt) (has.1.1.0, tt)
      (λ s3. quiet_branch c ok (alone c.sizes) start 4 10 v2 Bne 6 (Register 1) 3 15 J has.1.1.1.0 s3
      (λ t' s4. quiet_weaken c ok (alone c.sizes) start 1 4 14 (worked c v2) 15 J J (omega arith) (λ x y q. q)
      (quiet_end c ok (alone c.sizes) start (Operate Add 4 4 (Number 32) ∷ []) 14 (worked c v2) J s4 (tt, tt)
      (has.1.1.1.1.1.1.1.0, tt) (
        k,
        omega arith,
        inl (record {
          at = p + 32;
          cursor = step;
          end = omega arith;
          start_is = h.start_is;
          key_is = h.key_is;
          none_yet = h.none_yet;
          same = h.same;
          rest = sym (other_key a key r (rows_from m (p + 32) k) (same_start true (if_same _ _ t))
              (same_key false (if_differ _ _ t'))) ∙ h.rest;
          begins = omega arith;
          ends = omega arith;
        }),
      )))
      (λ t' s4. quiet_end c ok (alone c.sizes) start
      (Load Ld 2 4 8 ∷ Constant 3 1 ∷ Move 5 4 ∷ Operate Add 4 4 (Number 32) ∷ []) 11 (worked c v2) J s4
      (in_spaces c _ (p + 8) 8 at8 (omega arith) (omega arith), (tt, (tt, (tt, tt))))
      (has.1.1.1.1.0, (has.1.1.1.1.1.0, (has.1.1.1.1.1.1.0, (has.1.1.1.1.1.1.1.0, tt)))) (
        0,
        omega arith,
        inr (record {
          past = omega arith;
          same = h.same;
          found = subst (λ o. IsFound o (load 8 v.memory ((v.values 4 + 8) % 2 ^ 64)) 1)
              (sym (the_match a key r (rows_from m (p + 32) k) (same_start true (if_same _ _ t))
              (same_key true (if_same _ _ t'))) ∙ h.rest) (refl, is_size);
        }),
      )))))

  each : (k : ℕ) (v : State) → ShowsNothing start v → Inv c m a key answer k v.values v.memory
      → HasAt (alone c.sizes) 7 body
      → QuietTurn c ok (alone c.sizes) start 6 Bgeu 4 (Register 5) body 8 (Inv c m a key answer) (Done m answer)
      (has_back (alone c.sizes) 0 (head c.sizes) (until_code Bgeu 4 (Register 5) body) (has_self (alone c.sizes))) k v
  each k v shown (inr st) has = inr (not_below (v.values 4) (v.values 5) st.past, (st.same, st.found))
  each zero v shown (inl h) has =
      let d = h.end in let e = h.cursor in
      inr (
        not_below (v.values 4) (v.values 5) (omega arith),
        (h.same, subst (λ o. IsFound o (v.values 2) (v.values 3)) h.rest h.none_yet),
      )
  each (suc k) v shown (inl h) has =
      let d = h.end in let e = h.cursor in
      inl (
        is_below (v.values 4) (v.values 5) (omega arith),
        k,
        refl,
        λ s1. turn k (worked c v) s1 (record {
          at = h.at;
          cursor = h.cursor;
          end = h.end;
          start_is = h.start_is;
          key_is = h.key_is;
          none_yet = h.none_yet;
          same = h.same;
          rest = h.rest;
          begins = h.begins;
          ends = h.ends;
        }) has,
      )

-- ---- the whole

module _ (c : Context) (ok : IsLaidOut c.sizes) (lie : IsTableLaidOut c.sizes) (count : ℕ) (v : State)
    (g : HasBlocks c.sizes count v.memory) where
  abbrev answer_of : Option ℕ
  answer_of = size_of (v.values 0) (v.values 1) (block_rows c.sizes v.memory)

  begin_quiet : AreQuiet c (head c.sizes) v
  unfolding put reg_result
  begin_quiet =
      let f = lie.first in let e = lie.ends in let i = lie.inside in let s = lie.small in
      let at : (region_start c.sizes Blocks % 2 ^ 64 + 0) % 2 ^ 64 ≡ total_cell c.sizes = omega arith in
      (tt, (tt, (in_spaces c _ (total_cell c.sizes) 8 at (omega arith) (omega arith), (tt, (tt, (tt, tt))))))

  begins : Inv c v.memory (v.values 0) (v.values 1) answer_of count (effects c (head c.sizes) v).values
      (effects c (head c.sizes) v).memory
  unfolding put reg_result extended
  begins =
      let f = lie.first in let e = lie.ends in let i = lie.inside in let s = lie.small in
      let few = g.0.few in let total = g.1 in let least = lie.few in
      let at : (region_start c.sizes Blocks % 2 ^ 64 + 0) % 2 ^ 64 ≡ total_cell c.sizes = omega arith in
      let got : load 8 v.memory ((region_start c.sizes Blocks % 2 ^ 64 + 0) % 2 ^ 64) ≡ count =
      ap (load 8 v.memory) at ∙ total in
      inl (record {
        at = row_cell c.sizes 0;
        cursor = omega arith;
        end = omega arith;
        start_is = refl;
        key_is = refl;
        none_yet = refl;
        same = refl;
        rest = ap (λ n. size_of (v.values 0) (v.values 1) (rows_from v.memory (row_cell c.sizes 0) n)) (sym total);
        begins = omega arith;
        ends = omega arith;
      })

  finds_alone : IsOfWords v
      → ReachesQuietly c (alone c.sizes) (8 + 10 * count) 0 v v 16 (Done v.memory answer_of)
  finds_alone w =
      let has = has_self (alone c.sizes) in
      let back = has_back (alone c.sizes) 0 (head c.sizes) (until_code Bgeu 4 (Register 5) body) has in
      quiet_weaken c ok (alone c.sizes) v (6 + (count * (8 + 2) + 1)) (8 + 10 * count) 0 v 16 _ _ (omega arith)
      (λ x y q. q)
      (quiet_next c ok (alone c.sizes) v 6 (count * (8 + 2) + 1) 0 6 16 v
      (Inv c v.memory (v.values 0) (v.values 1) answer_of count) (Done v.memory answer_of) w
      (quiet_end c ok (alone c.sizes) v (head c.sizes) 0 v (Inv c v.memory (v.values 0) (v.values 1) answer_of count)
      (shows_itself v) begin_quiet
      (has_front (alone c.sizes) 0 (head c.sizes) (until_code Bgeu 4 (Register 5) body) has) begins)
      (λ s ws shown i. quiet_loop c ok (alone c.sizes) v 6 Bgeu 4 (Register 5) body 8
      (Inv c v.memory (v.values 0) (v.values 1) answer_of) (Done v.memory answer_of) back
      (λ k s' ws' shown' h. each c ok lie v v.memory (v.values 0) (v.values 1) answer_of k s' shown' h
      (has_front (alone c.sizes) 7 body (JumpBack 9 ∷ []) back.1))
      count s ws shown i))

abbrev find_registers : (start key size found scratch : ℕ) → ℕ → ℕ
find_registers a k n f t = register_of (a ∷ k ∷ []) (n ∷ f ∷ []) (t ∷ (t + 1) ∷ (t + 2) ∷ [])

pub find_does : (map : MapSizes) (a k n f t : ℕ) → AreMapped map → AreNoneOf (a ∷ k ∷ []) (n ∷ f ∷ [])
    → AreDistinct (n ∷ f ∷ []) → AreBelow t (a ∷ k ∷ []) → AreBelow t (n ∷ f ∷ [])
    → IsFindRoutine map a k n f t (find_code map a k n f t (t + 1) (t + 2))
find_does map a k n f t mapped apart distinct below results count runtime charge weight =
    let c = context_of map runtime charge weight in
    let ok = laid_out map mapped in
    let lie = table_laid_out map mapped in
    let r : AreRegisters (a ∷ k ∷ []) (n ∷ f ∷ []) (t ∷ (t + 1) ∷ (t + 2) ∷ []) t =
    record {
      none = apart;
      distinct = distinct;
      ins_below = below;
      res_below = results;
      from = (omega arith, (omega arith, (omega arith, tt)));
      own_distinct = ((omega arith, (omega arith, tt)), ((omega arith, tt), (tt, tt)));
    } in
    let g = find_registers a k n f t in
    routine c 7 2 g (alone map) (λ s. HasBlocks map count s.memory)
    (registers_rename (a ∷ k ∷ []) (n ∷ f ∷ []) (t ∷ (t + 1) ∷ (t + 2) ∷ []) t r) refl (λ s. 8 + 10 * count)
    (λ s. Quietly (through g s) (Done s.memory (size_of (s.values a) (s.values k) (block_rows map s.memory))))
    (HasFound map a k n f t)
    (λ s w seen p. finds_alone c ok lie count (through g s) p seen)
    (λ s s' v w p h agrees only.
    record {
      answer = subst (λ x. IsFound (size_of (s.values a) (s.values k) (block_rows map s.memory)) x (s'.values f))
          (agrees.values 2 (omega arith))
          (subst (λ x. IsFound (size_of (s.values a) (s.values k) (block_rows map s.memory)) (v.values 2) x)
          (agrees.values 3 (omega arith)) h.1.1);
      memory = agrees_memory 7 g v s' agrees ∙ h.1.0;
      shows = agrees_shows 7 g v s s' agrees (let z = h.0 in record {
        input = z.input;
        output = z.output;
        taken = z.taken;
        accesses = z.accesses;
        turns = z.turns;
      });
      others = others_stay (a ∷ k ∷ []) (n ∷ f ∷ []) (t ∷ (t + 1) ∷ (t + 2) ∷ []) t r s s' only;
    })
