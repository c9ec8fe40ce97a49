-- The entries of a range are cleared in two levels.
use Rattle.std.proofs.Common.{◌≡◌, ◌≢◌, ℕ, zero, suc, ◌+◌, ◌*◌, ◌%◌, ◌^◌, ◌<◌, ◌≤◌, ◌⊎◌, inl, inr, ⊎_elim, List}
use Rattle.std.proofs.Common.{[], ◌∷◌, ◌++◌, not, refl, sym, ap, ◌∙◌, subst, arith}
use Rattle.std.proofs.lemmas.Bool.{cases_lt, eqb-true, eqb-false, lt-ltb, le-ltb}
use Rattle.addr_map.specs.declared.region.Region.TheVariants.{Shadow}
use Rattle.addr_map.specs.Places.{MapSizes, AreMapped, spaces_begin, region_size}
use Rattle.rv_isa.specs.declared.instruction.BranchOp.TheVariants.{Beq, Bgeu}
use Rattle.rv_isa.specs.declared.instruction.RegOp.TheVariants.{Add}
use Rattle.rv_isa.specs.Results.{reg_result, branch_taken}
use Rattle.flat_code.specs.declared.instruction.RightOperand.TheVariants.{Register, Number}
use Rattle.flat_code.specs.declared.instruction.FlatInstruction.{FlatInstruction}
use Rattle.flat_code.specs.declared.instruction.FlatInstruction.TheVariants.{Constant, Move, Operate, JumpBack}
use Rattle.flat_code.specs.Memory.{Bytes, put}
use Rattle.flat_code.specs.State.{Values, State}
use Rattle.flat_code.specs.Words.{IsOfWords}
use Rattle.flat_code.specs.Meaning.{Context}
use Rattle.flat_code.proofs.Stored.{keeps_both}
use Rattle.flat_code.specs.Routines.Registers.{AreBelow}
use Rattle.flat_code.specs.Routines.Routine.{HasAt, unless_code, until_code}
use Rattle.flat_code.specs.Routines.Effects.{worked, effects}
use Rattle.flat_code.specs.Routines.Renaming.{through}
use Rattle.flat_code.specs.Routines.Metadata.{Metadata, no_metadata, IsObjectWord, KeepsButShadow, ShowsNothing}
use Rattle.flat_code.proofs.Routines.Steps.{has_front, has_back, has_self}
use Rattle.flat_code.proofs.Routines.Distinct.{AreRegisters, register_of, registers_rename, others_stay}
use Rattle.flat_code.proofs.Routines.Regions.{IsLaidOut, laid_out}
use Rattle.flat_code.proofs.Routines.Words.{store_four, same_metadata, stored_at}
use Rattle.flat_code.proofs.Routines.Wrapped.{routine}
use Rattle.shadow_space.specs.Form.{IsWordRange, HasCleared, IsClearRoutine}
use Rattle.shadow_space.specs.Direct.{store_entry, same_register}
use Rattle.shadow_space.proofs.Entries.{context_of, agrees_shows, agrees_memory}
use Rattle.flat_code.proofs.Routines.Spaces.Quiet.{in_spaces, shows_itself}
use Rattle.flat_code.proofs.Routines.Spaces.Rules.{Quietly, ReachesQuietly, QuietTurn, quiet_line, quiet_end}
use Rattle.flat_code.proofs.Routines.Spaces.Rules.{quiet_branch}
use Rattle.flat_code.proofs.Routines.Spaces.Rules.{quiet_weaken, quiet_next, quiet_loop}
use Rattle.shadow_space.specs.TwoLevel.Tables.{page_of, entry_offset, table_of, two_level_entry}
use Rattle.shadow_space.specs.TwoLevel.Tables.{AreTablesGood}
use Rattle.shadow_space.specs.TwoLevel.Code.{look_up, clear_word, two_level_clear}
use Rattle.shadow_space.proofs.TwoLevel.Levels.{AreLevelsLaidOut, levels_laid_out, page_below, offset_below}
use Rattle.shadow_space.proofs.TwoLevel.Reading.{Looked, look_up_quiet, looked_up}
use Rattle.shadow_space.proofs.TwoLevel.Writing.{IsWritten, written_there, none_written}

-- the routine alone: 0 the first address, 1 the bytes, 2 the cursor, 3 the end, 4 zero, 5 the table, 6 the cell, 7 the
-- offset
abbrev alone : List FlatInstruction
alone = two_level_clear 0 1 2 3 4 5 6 7

abbrev head : List FlatInstruction
head = Move 2 0 ∷ Operate Add 3 0 (Register 1) ∷ Constant 4 0 ∷ []

abbrev body : List FlatInstruction
body = clear_word 2 4 5 6 7

abbrev store_it : List FlatInstruction
store_it = Operate Add 5 5 (Register 7) ∷ store_entry 5 (same_register 4)

abbrev onward : List FlatInstruction
onward = Operate Add 2 2 (Number 8) ∷ []

abbrev loop : List FlatInstruction
loop = until_code Bgeu 2 (Register 3) body

-- k of n entries are left, from the first address on
record Clearing (s : MapSizes) (m : Bytes) (first n k : ℕ) (values : Values) (m' : Bytes) : Type 0 where
  done : ℕ
  count : done + k ≡ n
  cursor : values 2 ≡ first + 8 * done
  end : values 3 ≡ first + 8 * n
  zero_is : values 4 ≡ 0
  good : AreTablesGood s m'
  within : KeepsButShadow s m m'
  cleared : (j : ℕ) → j < done → two_level_entry m' (first + 8 * j) ≡ no_metadata
  others : (b : ℕ) → IsObjectWord s b → (b < first) ⊎ (first + 8 * n ≤ b) → two_level_entry m' b ≡ two_level_entry m b

record Cleared (s : MapSizes) (m : Bytes) (first n : ℕ) (m' : Bytes) : Type 0 where
  good : AreTablesGood s m'
  within : KeepsButShadow s m m'
  cleared : (j : ℕ) → j < n → two_level_entry m' (first + 8 * j) ≡ no_metadata
  others : (b : ℕ) → IsObjectWord s b → (b < first) ⊎ (first + 8 * n ≤ b) → two_level_entry m' b ≡ two_level_entry m b

module _ (c : Context) (ok : IsLaidOut c.sizes) (lie : AreLevelsLaidOut c.sizes) (start : State) (m : Bytes)
    (first bytes n : ℕ) (range : IsWordRange c.sizes first bytes n) where
  abbrev I : ℕ → Values → Bytes → Type 0
  I = Clearing c.sizes m first n

  abbrev D : Values → Bytes → Type 0
  D values m' = Cleared c.sizes m first n m'

  -- a word of the range
  word_of : (j : ℕ) → j < n → IsObjectWord c.sizes (first + 8 * j)
  word_of j l =
      let a = range.begins in let b = range.ends in let x = range.aligned in
      record { first = omega arith; last = omega arith; aligned = omega arith }

  -- one more entry is cleared
  one_more : (k : ℕ) (values : Values) (m1 m2 : Bytes) → (h : I (suc k) values m1)
      → IsWritten c.sizes m1 (first + 8 * h.done) no_metadata m2
      → (values' : Values) → values' 2 ≡ first + 8 * (h.done + 1) → values' 3 ≡ values 3 → values' 4 ≡ 0
      → I k values' m2
  one_more k values m1 m2 h w values' cursor end zero_is =
      let count = h.count in
      record {
        done = suc h.done;
        count = omega arith;
        cursor = cursor ∙ ap (λ d. first + 8 * d) (let e : h.done + 1 ≡ suc h.done = omega arith in e);
        end = end ∙ h.end;
        zero_is = zero_is;
        good = w.good;
        within = keeps_both spaces_begin (region_size c.sizes Shadow) m m1 m2 h.within w.within;
        cleared = λ j l. ⊎_elim
            (λ before. w.others (first + 8 * j) (word_of j (omega arith)) (λ e. omega arith) ∙ h.cleared j before)
            (λ last. (let e : h.done ≡ j = omega arith in
            subst (λ x. two_level_entry m2 (first + 8 * x) ≡ no_metadata) e w.written))
            (cases_lt j h.done);
        others = λ b wb out. w.others b wb
            (λ e. ⊎_elim (λ l. omega arith) (λ l. omega arith) out)
            ∙ h.others b wb out;
      }

  -- where the page has a table
  clears_there : (k : ℕ) (v s : State) → ShowsNothing start s → (h : I (suc k) v.values v.memory)
      → Looked v.memory (first + 8 * h.done) s.values s.memory → s.values 2 ≡ first + 8 * h.done
      → s.values 3 ≡ v.values 3 → s.values 4 ≡ 0 → table_of v.memory (page_of (first + 8 * h.done)) ≢ 0
      → HasAt alone 11 (store_it ++ onward)
      → ReachesQuietly c alone 6 11 start s 17 (λ values m'. (i : ℕ) × (i ≤ k) × I i values m')
  unfolding put reg_result
  clears_there k v s shown h looked cursor end zero_is there has =
      let count = h.count in
      let a = first + 8 * h.done in
      let w = word_of h.done (omega arith) in
      let t = h.good.table (page_of a) (page_below c.sizes a lie w) there in
      let below = t.1 in let at = t.2 in let few = lie.few in let r = lie.room in let i = lie.inside in
      let n' = h.good.within in let o = offset_below c.sizes a w in
      let table = looked.table in let offset = looked.offset in
      let p = table_of v.memory (page_of a) + entry_offset a in
      let sum : (offset : ℕ) → offset ≤ 24 → ((s.values 5 + s.values 7) % 2 ^ 64 + offset) % 2 ^ 64 ≡ p + offset =
      λ offset l. omega arith in
      let s0 : ((s.values 5 + s.values 7) % 2 ^ 64 + 0) % 2 ^ 64 ≡ p = omega arith in
      let e : Metadata = record { base = s.values 4; bound = s.values 4; key = s.values 4; lock = s.values 4 } in
      let zero_entry : e ≡ no_metadata = same_metadata e no_metadata zero_is zero_is zero_is zero_is in
      let same : (effects c (store_it ++ onward) s).memory ≡ store_four v.memory p no_metadata =
      stored_at s.memory p _ _ _ _ e s0 (sum 8 (omega arith)) (sum 16 (omega arith)) (sum 24 (omega arith))
      ∙ ap (store_four s.memory p) zero_entry ∙ ap (λ x. store_four x p no_metadata) looked.same in
      let written = written_there c.sizes lie v.memory h.good a w no_metadata there
      (record { base = omega arith; bound = omega arith; key = omega arith; lock = omega arith }) in
      let last = range.ends in let heap = lie.heap in
      let next : (s.values 2 + 8) % 2 ^ 64 ≡ first + 8 * (h.done + 1) = omega arith in
      quiet_end c ok alone start (store_it ++ onward) 11 s (λ values m'. (i : ℕ) × (i ≤ k) × I i values m') shown (
        tt,
        (
          in_spaces c _ (p + 0) 8 (sum 0 (omega arith)) (omega arith) (omega arith),
          (
            in_spaces c _ (p + 8) 8 (sum 8 (omega arith)) (omega arith) (omega arith),
            (
              in_spaces c _ (p + 16) 8 (sum 16 (omega arith)) (omega arith) (omega arith),
              (in_spaces c _ (p + 24) 8 (sum 24 (omega arith)) (omega arith) (omega arith), (tt, tt)),
            ),
          ),
        ),
      )
      has (
        k,
        omega arith,
        one_more k v.values v.memory (effects c (store_it ++ onward) s).memory h
            (subst (IsWritten c.sizes v.memory a no_metadata) (sym same) written)
            (effects c (store_it ++ onward) s).values next end zero_is,
      )

  -- where it has none
  passes : (k : ℕ) (v s : State) → ShowsNothing start s → (h : I (suc k) v.values v.memory)
      → s.memory ≡ v.memory → s.values 2 ≡ first + 8 * h.done → s.values 3 ≡ v.values 3 → s.values 4 ≡ 0
      → table_of v.memory (page_of (first + 8 * h.done)) ≡ 0 → HasAt alone 16 onward
      → ReachesQuietly c alone 1 16 start s 17 (λ values m'. (i : ℕ) × (i ≤ k) × I i values m')
  unfolding put reg_result
  passes k v s shown h same cursor end zero_is none has =
      let count = h.count in let last = range.ends in let heap = lie.heap in let few = lie.few in
      let a = first + 8 * h.done in
      let next : (s.values 2 + 8) % 2 ^ 64 ≡ first + 8 * (h.done + 1) = omega arith in
      quiet_end c ok alone start onward 16 s (λ values m'. (i : ℕ) × (i ≤ k) × I i values m') shown (tt, tt) has (
        k,
        omega arith,
        one_more k v.values v.memory (effects c onward s).memory h
            (subst (IsWritten c.sizes v.memory a no_metadata) (sym same)
            (none_written c.sizes lie v.memory h.good a (word_of h.done (omega arith)) no_metadata none refl))
            (effects c onward s).values next end zero_is,
      )

  turn : (k : ℕ) (v : State) → ShowsNothing start v → I (suc k) v.values v.memory → HasAt alone 4 body
      → ReachesQuietly c alone 13 4 start v 17 (λ values m'. (i : ℕ) × (i ≤ k) × I i values m')
  unfolding put branch_taken
  turn k v shown h has =
      let J = λ (values : Values) (m' : Bytes). (i : ℕ) × (i ≤ k) × I i values m' in
      let count = h.count in
      let a = first + 8 * h.done in
      let w = subst (IsObjectWord c.sizes) (sym h.cursor) (word_of h.done (omega arith)) in
      let s = effects c (look_up 2 5 6 7) v in
      let tests = unless_code Beq 5 (Number 0) store_it in
      let looked = subst (λ x. Looked v.memory x s.values s.memory) h.cursor (looked_up c lie 2 (omega arith) v w) in
      let has_front_part = has_front alone 4 (look_up 2 5 6 7 ++ tests) onward has in
      let has_tests = has_back alone 4 (look_up 2 5 6 7) (tests ++ onward) has in
      quiet_weaken c ok alone start (6 + suc 6) 13 4 v 17 J J (omega arith) (λ x y z. z)
      (quiet_line c ok alone start (look_up 2 5 6 7) (suc 6) 4 v 17 J shown (look_up_quiet c lie 2 (omega arith) v w)
      (has_front alone 4 (look_up 2 5 6 7) (tests ++ onward) has)
      (λ s1. quiet_branch c ok alone start 6 10 s Beq 5 (Number 0) 5 17 J has_tests.0 s1
      (λ t s2. quiet_weaken c ok alone start 1 6 16 (worked c s) 17 J J (omega arith) (λ x y z. z)
      (passes k v (worked c s) s2 h looked.same h.cursor refl h.zero_is
      (sym looked.table ∙ eqb-true (s.values 5) 0 t)
      (has_back alone 11 store_it onward has_tests.1)))
      (λ t s2. clears_there k v (worked c s) s2 h
      (record { table = looked.table; cell = looked.cell; offset = looked.offset; same = looked.same }) h.cursor refl
      h.zero_is (λ z. eqb-false (s.values 5) 0 t (looked.table ∙ z)) has_tests.1)))

  each : (k : ℕ) (v : State) → ShowsNothing start v → I k v.values v.memory → HasAt alone 4 body
      → (has : HasAt alone 3 loop) → QuietTurn c ok alone start 3 Bgeu 2 (Register 3) body 13 I D has k v
  unfolding branch_taken
  each zero v shown h has whole =
      let count = h.count in let cursor = h.cursor in let end = h.end in
      let all : h.done ≡ n = omega arith in
      inr (
        ap not (le-ltb (v.values 2) (v.values 3) (omega arith)),
        record {
          good = h.good;
          within = h.within;
          cleared = λ j l. h.cleared j (omega arith);
          others = h.others;
        },
      )
  each (suc k) v shown h has whole =
      let count = h.count in let cursor = h.cursor in let end = h.end in
      inl (ap not (lt-ltb (v.values 2) (v.values 3) (omega arith)), k, refl, λ s1. turn k (worked c v) s1 h has)

module _ (c : Context) (ok : IsLaidOut c.sizes) (lie : AreLevelsLaidOut c.sizes) (n : ℕ) (v : State)
    (w : IsOfWords v) (range : IsWordRange c.sizes (v.values 0) (v.values 1) n)
    (g : AreTablesGood c.sizes v.memory) where
  begins : Clearing c.sizes v.memory (v.values 0) n n (effects c head v).values (effects c head v).memory
  unfolding put reg_result
  begins =
      let l = range.ends in let b = range.bytes_of_words in let h = lie.heap in let few = lie.few in
      record {
        done = 0;
        count = omega arith;
        cursor = omega arith;
        end = omega arith;
        zero_is = refl;
        good = g;
        within = λ b out. refl;
        cleared = λ j l. absurd (omega arith);
        others = λ b wb out. refl;
      }

  clears_alone : ReachesQuietly c alone (8 + 16 * n) 0 v v 18
      (λ values m'. Cleared c.sizes v.memory (v.values 0) n m')
  clears_alone =
      let has = has_back alone 0 head loop (has_self alone) in
      quiet_weaken c ok alone v (3 + (n * (13 + 2) + 1)) (8 + 16 * n) 0 v 18 _ _ (omega arith) (λ x y z. z)
      (quiet_next c ok alone v 3 (n * (13 + 2) + 1) 0 3 18 v (Clearing c.sizes v.memory (v.values 0) n n)
      (λ values m'. Cleared c.sizes v.memory (v.values 0) n m') w
      (quiet_end c ok alone v head 0 v (Clearing c.sizes v.memory (v.values 0) n n) (shows_itself v)
      (tt, (tt, (tt, tt))) (has_front alone 0 head loop (has_self alone)) begins)
      (λ s ws shown h. quiet_loop c ok alone v 3 Bgeu 2 (Register 3) body 13
      (Clearing c.sizes v.memory (v.values 0) n) (λ values m'. Cleared c.sizes v.memory (v.values 0) n m') has
      (λ k s' ws' sh i. each c ok lie v v.memory (v.values 0) (v.values 1) n range k s' sh i
      (has_front alone 4 body (JumpBack 14 ∷ []) has.1) has)
      n s ws shown h))

abbrev clear_registers : (first bytes scratch : ℕ) → ℕ → ℕ
clear_registers a n t = register_of (a ∷ n ∷ []) []
    (t ∷ (t + 1) ∷ (t + 2) ∷ (t + 3) ∷ (t + 4) ∷ (t + 5) ∷ [])

pub two_level_clears : (map : MapSizes) (a n t : ℕ) → AreMapped map → AreBelow t (a ∷ n ∷ [])
    → IsClearRoutine map two_level_entry (AreTablesGood map) a n t
    (two_level_clear a n t (t + 1) (t + 2) (t + 3) (t + 4) (t + 5))
two_level_clears map a n t mapped below count runtime charge weight =
    let c = context_of map runtime charge weight in
    let ok = laid_out map mapped in
    let lie = levels_laid_out map mapped in
    let own_registers = t ∷ (t + 1) ∷ (t + 2) ∷ (t + 3) ∷ (t + 4) ∷ (t + 5) ∷ [] in
    let r : AreRegisters (a ∷ n ∷ []) [] own_registers t =
    record {
      none = (tt, (tt, tt));
      distinct = tt;
      ins_below = below;
      res_below = tt;
      from = (omega arith, (omega arith, (omega arith, (omega arith, (omega arith, (omega arith, tt))))));
      own_distinct = (
        (omega arith, (omega arith, (omega arith, (omega arith, (omega arith, tt))))),
        (
          (omega arith, (omega arith, (omega arith, (omega arith, tt)))),
          (
            (omega arith, (omega arith, (omega arith, tt))),
            ((omega arith, (omega arith, tt)), ((omega arith, tt), (tt, tt))),
          ),
        ),
      );
    } in
    let f = clear_registers a n t in
    routine c 8 2 f alone
    (λ s. IsWordRange map (s.values a) (s.values n) count × AreTablesGood map s.memory)
    (registers_rename (a ∷ n ∷ []) [] own_registers t r) refl (λ s. 8 + 16 * count)
    (λ s. Quietly (through f s) (λ values m'. Cleared map s.memory (s.values a) count m'))
    (HasCleared map two_level_entry (AreTablesGood map) a count t)
    (λ s w seen p. clears_alone c ok lie count (through f s) seen p.0 p.1)
    (λ s s' v w p h agrees only.
    let same : s'.memory ≡ v.memory = agrees_memory 8 f v s' agrees in
    let rest = subst (Cleared map s.memory (s.values a) count) (sym same) h.1 in
    record {
      cleared = rest.cleared;
      other_words = rest.others;
      good = rest.good;
      memory = rest.within;
      shows = agrees_shows 8 f v s s' agrees (let z = h.0 in record {
        input = z.input;
        output = z.output;
        taken = z.taken;
        accesses = z.accesses;
        turns = z.turns;
      });
      others = others_stay (a ∷ n ∷ []) [] own_registers t r s s' only;
    })
