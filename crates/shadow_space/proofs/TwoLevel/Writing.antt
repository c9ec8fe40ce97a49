-- An entry is written in two levels.
use Rattle.std.proofs.Common.{◌≡◌, ◌≢◌, ℕ, zero, suc, ◌+◌, ◌*◌, ◌%◌, ◌^◌, ◌≤◌, List}
use Rattle.std.proofs.Common.{[], ◌∷◌, ◌++◌, true, false, not, refl, sym, ap, ◌∙◌, subst, arith}
use Rattle.std.specs.Prelude.{◌==◌}
use Rattle.std.proofs.lemmas.Bool.{eqb-true, not-false}
use Rattle.addr_map.specs.declared.region.Region.TheVariants.{Shadow}
use Rattle.addr_map.specs.Places.{MapSizes, AreMapped, spaces_begin, region_size}
use Rattle.rv_isa.specs.declared.instruction.BranchOp.TheVariants.{Beq, Bne}
use Rattle.rv_isa.specs.declared.instruction.RegOp.TheVariants.{Add}
use Rattle.rv_isa.specs.Results.{reg_result, extended, branch_taken}
use Rattle.flat_code.specs.declared.instruction.RightOperand.TheVariants.{Register, Number}
use Rattle.flat_code.specs.declared.instruction.FlatInstruction.{FlatInstruction}
use Rattle.flat_code.specs.declared.instruction.FlatInstruction.TheVariants.{Operate, Branch}
use Rattle.flat_code.specs.Memory.{Bytes, put, load, store}
use Rattle.flat_code.specs.State.{Values, State}
use Rattle.flat_code.specs.Words.{IsOfWords}
use Rattle.flat_code.specs.Meaning.{Context}
use Rattle.flat_code.proofs.Stored.{keeps_both}
use Rattle.flat_code.specs.declared.registers.Entry.{Entry}
use Rattle.flat_code.specs.Routines.Registers.{AreBelow}
use Rattle.flat_code.specs.Routines.Routine.{HasAt}
use Rattle.flat_code.specs.Routines.Effects.{worked, effects}
use Rattle.flat_code.specs.Routines.Renaming.{through}
use Rattle.flat_code.specs.Routines.Metadata.{Metadata, no_metadata, metadata_in, entry_registers, IsObjectWord}
use Rattle.flat_code.specs.Routines.Metadata.{KeepsButShadow, ShowsNothing}
use Rattle.flat_code.proofs.Routines.Steps.{has_front, has_back, has_self}
use Rattle.flat_code.proofs.Routines.Distinct.{AreRegisters, register_of, registers_rename, others_stay}
use Rattle.flat_code.proofs.Routines.Regions.{IsLaidOut, laid_out}
use Rattle.flat_code.proofs.Routines.Words.{store_four, IsOfFourWords, same_metadata, stored_at}
use Rattle.flat_code.proofs.Routines.Wrapped.{routine}
use Rattle.shadow_space.specs.Form.{HasWritten, IsWriteRoutine}
use Rattle.shadow_space.specs.Direct.{store_entry}
use Rattle.shadow_space.proofs.Entries.{context_of, agrees_shows, agrees_memory}
use Rattle.flat_code.proofs.Routines.Spaces.Quiet.{in_spaces, shows_itself}
use Rattle.flat_code.proofs.Routines.Spaces.Rules.{Quietly, ReachesQuietly, quiet_line, quiet_end, quiet_branch}
use Rattle.flat_code.proofs.Routines.Spaces.Rules.{quiet_weaken}
use Rattle.flat_code.proofs.Routines.Spaces.Rules.{quiet_arrived}
use Rattle.shadow_space.specs.TwoLevel.Tables.{pages, page_of, entry_offset, taken_cell, page_cell, first_table}
use Rattle.shadow_space.specs.TwoLevel.Tables.{table_of}
use Rattle.shadow_space.specs.TwoLevel.Tables.{two_level_entry, AreTablesGood}
use Rattle.shadow_space.specs.TwoLevel.Code.{look_up, take_table, two_level_write}
use Rattle.shadow_space.proofs.TwoLevel.Levels.{AreLevelsLaidOut, levels_laid_out, no_table, page_below, offset_below}
use Rattle.shadow_space.proofs.TwoLevel.Levels.{write_good, write_within, write_read, write_others}
use Rattle.shadow_space.proofs.TwoLevel.Taking.{with_new, one_left, new_here, take_good, take_within, take_entries}
use Rattle.shadow_space.proofs.TwoLevel.Reading.{own, Looked, look_up_quiet, looked_up}

-- a number that a test finds to be zero
if_zero : (x : ℕ) → not (x == 0) ≡ false → x ≡ 0
if_zero x e = eqb-true x 0 (not-false (x == 0) e)

-- ---- what is written, whatever the code

-- the entry of a word is another one, and no other entry changed
pub record IsWritten (s : MapSizes) (m : Bytes) (a : ℕ) (e : Metadata) (m' : Bytes) : Type 0 where
  pub written : two_level_entry m' a ≡ e
  pub others : (b : ℕ) → IsObjectWord s b → b ≢ a → two_level_entry m' b ≡ two_level_entry m b
  pub good : AreTablesGood s m'
  pub within : KeepsButShadow s m m'

module _ (s : MapSizes) (lie : AreLevelsLaidOut s) (m : Bytes) (g : AreTablesGood s m) (a : ℕ) (w : IsObjectWord s a)
    (e : Metadata) where
  -- in the table of the page
  pub written_there : table_of m (page_of a) ≢ 0 → IsOfFourWords e
      → IsWritten s m a e (store_four m (table_of m (page_of a) + entry_offset a) e)
  written_there there words = record {
    written = write_read s lie m g a w there e words;
    others = write_others s lie m g a w there e;
    good = write_good s lie m g a w there e;
    within = write_within s lie m g a w there e;
  }

  -- in a table that is taken for it
  pub written_anew : (none : table_of m (page_of a) ≡ 0) → IsOfFourWords e
      → IsWritten s m a e (store_four (with_new s lie m g (page_of a) (page_below s a lie w) none)
      (first_table s + 16384 * g.taken + entry_offset a) e)
  written_anew none words =
      let page = page_below s a lie w in
      let m1 = with_new s lie m g (page_of a) page none in
      let here = new_here s lie m g (page_of a) page none in
      let good = take_good s lie m g (page_of a) page none in
      let there : table_of m1 (page_of a) ≢ 0 = λ z. omega arith in
      let same = ap (λ t. store_four m1 (t + entry_offset a) e) here in
      let m2 = store_four m1 (table_of m1 (page_of a) + entry_offset a) e in
      subst (IsWritten s m a e) same (record {
        written = write_read s lie m1 good a w there e words;
        others = λ b wb ne. write_others s lie m1 good a w there e b wb ne
            ∙ take_entries s lie m g (page_of a) page none b wb;
        good = write_good s lie m1 good a w there e;
        within = keeps_both spaces_begin (region_size s Shadow) m m1 m2
            (take_within s lie m g (page_of a) page none) (write_within s lie m1 good a w there e);
      })

  -- nothing is written where the page has no table and the entry is none
  pub none_written : table_of m (page_of a) ≡ 0 → e ≡ no_metadata → IsWritten s m a e m
  none_written none empty = record {
    written = no_table m (table_of m (page_of a)) (entry_offset a) none ∙ sym empty;
    others = λ b wb ne. refl;
    good = g;
    within = λ b out. refl;
  }

-- ---- the routine alone: 0 the address, 1 to 4 the entry, 5 the table, 6 the cell, 7 the offset, 8 and 9 the reserve

abbrev alone : MapSizes → List FlatInstruction
alone map = two_level_write map 0 own 5 6 7 8 9

abbrev taking : MapSizes → List FlatInstruction
taking map = take_table map 5 6 8 9

abbrev store_it : List FlatInstruction
store_it = Operate Add 5 5 (Register 7) ∷ store_entry 5 own

abbrev tests : MapSizes → List FlatInstruction
tests map =
    Branch Bne 5 (Number 0) 10
    ∷ Branch Bne 1 (Number 0) 3
    ∷ Branch Bne 2 (Number 0) 2
    ∷ Branch Bne 3 (Number 0) 1
    ∷ Branch Beq 4 (Number 0) 11
    ∷ (taking map ++ store_it)

has_6 : (map : MapSizes) → HasAt (alone map) 6 (tests map)
has_6 map = has_back (alone map) 0 (look_up 0 5 6 7) (tests map) (has_self (alone map))

has_11 : (map : MapSizes) → HasAt (alone map) 11 (taking map)
has_11 map = has_front (alone map) 11 (taking map) store_it (has_6 map).1.1.1.1.1

has_17 : (map : MapSizes) → HasAt (alone map) 17 store_it
has_17 map = has_back (alone map) 11 (taking map) store_it (has_6 map).1.1.1.1.1

module _ (c : Context) (ok : IsLaidOut c.sizes) (lie : AreLevelsLaidOut c.sizes) (v : State) (word : IsOfWords v)
    (w : IsObjectWord c.sizes (v.values 0)) (g : AreTablesGood c.sizes v.memory) where
  abbrev m : Bytes
  m = v.memory

  abbrev a : ℕ
  a = v.values 0

  abbrev e : Metadata
  e = metadata_in v.values own

  abbrev J : Values → Bytes → Type 0
  J values m' = IsWritten c.sizes m a e m'

  abbrev table : ℕ
  table = table_of m (page_of a)

  abbrev Ready : Values → Bytes → Type 0
  Ready values m' = Looked m a values m' × (metadata_in values own ≡ e)

  words : IsOfFourWords e
  words = record { base = word.values 1; bound = word.values 2; key = word.values 3; lock = word.values 4 }

  -- the entry is stored in a table
  stores : (s : State) (t : ℕ) → ShowsNothing v s → s.values 5 ≡ t → s.values 7 ≡ entry_offset a
      → metadata_in s.values own ≡ e → first_table c.sizes ≤ t → t + 16384 ≤ first_table c.sizes + 16384 * pages c.sizes
      → IsWritten c.sizes m a e (store_four s.memory (t + entry_offset a) e)
      → ReachesQuietly c (alone c.sizes) 5 17 v s 22 J
  unfolding put reg_result
  stores s t shown is_table is_offset is_entry lo hi h =
      let r = lie.room in let i = lie.inside in let few = lie.few in let o = offset_below c.sizes a w in
      let p = t + entry_offset a in
      let sum : (offset : ℕ) → offset ≤ 24 → ((s.values 5 + s.values 7) % 2 ^ 64 + offset) % 2 ^ 64 ≡ p + offset =
      λ offset l. omega arith in
      let s0 : ((s.values 5 + s.values 7) % 2 ^ 64 + 0) % 2 ^ 64 ≡ p = omega arith in
      let same : (effects c store_it s).memory ≡ store_four s.memory p e =
      stored_at s.memory p _ _ _ _ (metadata_in s.values own) s0 (sum 8 (omega arith)) (sum 16 (omega arith))
      (sum 24 (omega arith))
      ∙ ap (store_four s.memory p) is_entry in
      quiet_end c ok (alone c.sizes) v store_it 17 s J shown (
        tt,
        (
          in_spaces c _ (p + 0) 8 (sum 0 (omega arith)) (omega arith) (omega arith),
          (
            in_spaces c _ (p + 8) 8 (sum 8 (omega arith)) (omega arith) (omega arith),
            (
              in_spaces c _ (p + 16) 8 (sum 16 (omega arith)) (omega arith) (omega arith),
              (in_spaces c _ (p + 24) 8 (sum 24 (omega arith)) (omega arith) (omega arith), tt),
            ),
          ),
        ),
      )
      (has_17 c.sizes) (subst (IsWritten c.sizes m a e) (sym same) h)

  -- a table is taken, and then the entry stored
  takes : (s : State) → ShowsNothing v s → Ready s.values s.memory → table ≡ 0
      → ReachesQuietly c (alone c.sizes) 11 11 v s 22 J
  unfolding put reg_result extended
  takes s shown h none =
      let page = page_below c.sizes a lie w in
      let r = lie.room in let i = lie.inside in let few = lie.few in
      let counted = g.counted in let n = g.within in let less = one_left c.sizes lie m g (page_of a) page none in
      let cell = h.0.cell in
      let m1 = with_new c.sizes lie m g (page_of a) page none in
      let at : (spaces_begin % 2 ^ 64 + 0) % 2 ^ 64 ≡ taken_cell = omega arith in
      let got : load 8 s.memory ((spaces_begin % 2 ^ 64 + 0) % 2 ^ 64) ≡ 16384 * g.taken =
      ap (λ z. load 8 z ((spaces_begin % 2 ^ 64 + 0) % 2 ^ 64)) h.0.same ∙ ap (load 8 m) at ∙ counted in
      let more : (load 8 s.memory ((spaces_begin % 2 ^ 64 + 0) % 2 ^ 64) + 16384) % 2 ^ 64 ≡ 16384 * (g.taken + 1) =
      omega arith in
      let new : (load 8 s.memory ((spaces_begin % 2 ^ 64 + 0) % 2 ^ 64) + first_table c.sizes % 2 ^ 64) % 2 ^ 64
      ≡ first_table c.sizes + 16384 * g.taken = omega arith in
      let place : (s.values 6 + 0) % 2 ^ 64 ≡ page_cell (page_of a) = omega arith in
      let same : (effects c (taking c.sizes) s).memory ≡ m1 =
      same_two s.memory m _ _ _ _ taken_cell (16384 * (g.taken + 1)) (page_cell (page_of a))
      (first_table c.sizes + 16384 * g.taken) h.0.same at more place new in
      quiet_line c ok (alone c.sizes) v (taking c.sizes) 5 11 s 22 J shown (
        tt,
        (
          in_spaces c _ taken_cell 8 at (omega arith) (omega arith),
          (
            tt,
            (
              in_spaces c _ taken_cell 8 at (omega arith) (omega arith),
              (tt, (in_spaces c _ (page_cell (page_of a)) 8 place (omega arith) (omega arith), tt)),
            ),
          ),
        ),
      )
      (has_11 c.sizes)
      (λ s1. stores (effects c (taking c.sizes) s) (first_table c.sizes + 16384 * g.taken) s1 new h.0.offset h.1
      (omega arith) (omega arith)
      (subst (λ x. IsWritten c.sizes m a e (store_four x (first_table c.sizes + 16384 * g.taken + entry_offset a) e))
      (sym same) (written_anew c.sizes lie m g a w e none words)))
    where
      same_two : (m m' : Bytes) (a x b y a' x' b' y' : ℕ) → m ≡ m' → a ≡ a' → x ≡ x' → b ≡ b' → y ≡ y'
          → store 8 (store 8 m a x) b y ≡ store 8 (store 8 m' a' x') b' y'
      same_two m m' a x b y a' x' b' y' em ea ex eb ey = cc

  -- a page without a table: whether the entry is none
  chooses : (s : State) → ShowsNothing v s → Ready s.values s.memory → table ≡ 0
      → ReachesQuietly c (alone c.sizes) 15 7 v s 22 J
  unfolding branch_taken
  chooses s shown h none =
      let has = (has_6 c.sizes).1 in
      let code = alone c.sizes in
      quiet_branch c ok code v 14 7 s Bne 1 (Number 0) 3 22 J has.0 shown
      (λ t s1. quiet_weaken c ok code v 11 14 11 (worked c s) 22 J J (omega arith) (λ x y z. z)
      (takes (worked c s) s1 (again s h) none))
      (λ t1 s1. quiet_branch c ok code v 13 8 (worked c s) Bne 2 (Number 0) 2 22 J has.1.0 s1
      (λ t s2. quiet_weaken c ok code v 11 13 11 (worked c (worked c s)) 22 J J (omega arith) (λ x y z. z)
      (takes (worked c (worked c s)) s2 (again s h) none))
      (λ t2 s2. quiet_branch c ok code v 12 9 (worked c (worked c s)) Bne 3 (Number 0) 1 22 J has.1.1.0 s2
      (λ t s3. quiet_weaken c ok code v 11 12 11 (worked c (worked c (worked c s))) 22 J J (omega arith) (λ x y z. z)
      (takes (worked c (worked c (worked c s))) s3 (again s h) none))
      (λ t3 s3. quiet_branch c ok code v 11 10 (worked c (worked c (worked c s))) Beq 4
      (Number 0) 11 22 J has.1.1.1.0 s3
      (λ t4 s4. quiet_arrived c ok code v 11 22 22 (worked c (worked c (worked c (worked c s)))) J refl (
        s4,
        subst (IsWritten c.sizes m a e) (sym h.0.same) (none_written c.sizes lie m g a w e none
            (sym h.1 ∙ same_metadata (metadata_in s.values own) no_metadata (if_zero (s.values 1) t1)
            (if_zero (s.values 2) t2)
            (if_zero (s.values 3) t3) (eqb-true (s.values 4) 0 t4))),
      ))
      (λ t4 s4. takes (worked c (worked c (worked c (worked c s)))) s4 (again s h) none))))
    where
      again : (s : State) → Ready s.values s.memory → Ready s.values s.memory
      again s h = (record { table = h.0.table; cell = h.0.cell; offset = h.0.offset; same = h.0.same }, h.1)

  writes_alone : ReachesQuietly c (alone c.sizes) 24 0 v v 22 J
  unfolding put branch_taken
  writes_alone =
      let has = has_self (alone c.sizes) in
      let s = effects c (look_up 0 5 6 7) v in
      let h = looked_up c lie 0 (omega arith) v w in
      let code = alone c.sizes in
      quiet_weaken c ok code v (6 + suc 15) 24 0 v 22 J J (omega arith) (λ x y z. z)
      (quiet_line c ok code v (look_up 0 5 6 7) (suc 15) 0 v 22 J (shows_itself v) (look_up_quiet c lie 0 (omega arith) v w)
      (has_front code 0 (look_up 0 5 6 7) (tests c.sizes) has)
      (λ s1. quiet_branch c ok code v 15 6 s Bne 5 (Number 0) 10 22 J (has_6 c.sizes).0 s1
      (λ t s2.
      let there : table ≢ 0 = λ z. not_zero (s.values 5) t (h.table ∙ z) in
      let spot = g.table (page_of a) (page_below c.sizes a lie w) there in
      let below = spot.1 in let at = spot.2 in let n = g.within in
      quiet_weaken c ok code v 5 15 17 (worked c s) 22 J J (omega arith) (λ x y z. z)
      (stores (worked c s) table s2 h.table h.offset refl (omega arith) (omega arith)
      (subst (λ x. IsWritten c.sizes m a e (store_four x (table + entry_offset a) e)) (sym h.same)
      (written_there c.sizes lie m g a w e there words))))
      (λ t s2. chooses (worked c s) s2
      (record { table = h.table; cell = h.cell; offset = h.offset; same = h.same }, refl)
      (sym h.table ∙ if_zero (s.values 5) t))))
    where
      not_zero : (x : ℕ) → not (x == 0) ≡ true → x ≢ 0
      not_zero zero t e = absurd cc
      not_zero (suc x) t e = absurd (omega arith)

abbrev write_registers : (at : ℕ) → Entry → (scratch : ℕ) → ℕ → ℕ
write_registers at from t = register_of (at ∷ entry_registers from) []
    (t ∷ (t + 1) ∷ (t + 2) ∷ (t + 3) ∷ (t + 4) ∷ [])

pub two_level_writes : (map : MapSizes) (at : ℕ) (from : Entry) (t : ℕ) → AreMapped map
    → AreBelow t (at ∷ entry_registers from)
    → IsWriteRoutine map two_level_entry (AreTablesGood map) at from t
    (two_level_write map at from t (t + 1) (t + 2) (t + 3) (t + 4))
two_level_writes map at from t mapped below runtime charge weight =
    let c = context_of map runtime charge weight in
    let ok = laid_out map mapped in
    let lie = levels_laid_out map mapped in
    let own_registers = t ∷ (t + 1) ∷ (t + 2) ∷ (t + 3) ∷ (t + 4) ∷ [] in
    let r : AreRegisters (at ∷ entry_registers from) [] own_registers t =
    record {
      none = (tt, (tt, (tt, (tt, (tt, tt)))));
      distinct = tt;
      ins_below = below;
      res_below = tt;
      from = (omega arith, (omega arith, (omega arith, (omega arith, (omega arith, tt)))));
      own_distinct = (
        (omega arith, (omega arith, (omega arith, (omega arith, tt)))),
        (
          (omega arith, (omega arith, (omega arith, tt))),
          ((omega arith, (omega arith, tt)), ((omega arith, tt), (tt, tt))),
        ),
      );
    } in
    let f = write_registers at from t in
    routine c 10 5 f (alone map) (λ s. IsObjectWord map (s.values at) × AreTablesGood map s.memory)
    (registers_rename (at ∷ entry_registers from) [] own_registers t r) refl (λ s. 24)
    (λ s. Quietly (through f s)
    (λ values m'. IsWritten map s.memory (s.values at) (metadata_in s.values from) m'))
    (HasWritten map two_level_entry (AreTablesGood map) at from t)
    (λ s w seen p. writes_alone c ok lie (through f s) seen p.0 p.1)
    (λ s s' v w p h agrees only.
    let same : s'.memory ≡ v.memory = agrees_memory 10 f v s' agrees in
    let rest = subst (IsWritten map s.memory (s.values at) (metadata_in s.values from)) (sym same) h.1 in
    record {
      written = rest.written;
      other_words = rest.others;
      good = rest.good;
      memory = rest.within;
      shows = agrees_shows 10 f v s s' agrees (let z = h.0 in record {
        input = z.input;
        output = z.output;
        taken = z.taken;
        accesses = z.accesses;
        turns = z.turns;
      });
      others = others_stay (at ∷ entry_registers from) [] own_registers t r s s' only;
    })
