-- The routine that makes a range of object space zero, over any form of the shadow space.
use Rattle.std.proofs.Common.{◌≡◌, ℕ, ◌+◌, ◌-◌, ◌*◌, ◌/◌, ◌%◌, ◌^◌, ◌<◌, ◌≤◌, ◌⊎◌, inl, inr, List, [], ◌∷◌}
use Rattle.std.proofs.Common.{◌++◌, true, length, refl, sym, ap, ◌∙◌, subst, arith, length-append}
use Rattle.addr_map.specs.declared.region.Region.TheVariants.{Heap, Shadow, Locks, Blocks}
use Rattle.addr_map.specs.Places.{MapSizes, AreMapped, objects_begin, spaces_begin, region_size, region_start}
use Rattle.addr_map.specs.Places.{region_end}
use Rattle.rv_isa.specs.declared.instruction.StoreOp.TheVariants.{Sb, Sd}
use Rattle.rv_isa.specs.Results.{reg_result}
use Rattle.flat_code.specs.declared.instruction.FlatInstruction.{FlatInstruction}
use Rattle.flat_code.specs.Memory.{Bytes, put, KeepsBut}
use Rattle.flat_code.specs.State.{State}
use Rattle.flat_code.specs.Words.{IsOfWords}
use Rattle.flat_code.specs.Meaning.{Context, Goes}
use Rattle.flat_code.specs.Routines.Registers.{AreBelow}
use Rattle.flat_code.specs.Routines.Routine.{Outcome, Continues, Halts, Reaches, Does, Either, Never}
use Rattle.flat_code.specs.Routines.Effects.{effects}
use Rattle.flat_code.specs.Routines.Renaming.{through}
use Rattle.flat_code.specs.Routines.Metadata.{View, no_metadata, IsObjectWord, KeepsShadow, ShowsNothing}
use Rattle.flat_code.proofs.Routines.Steps.{has_front, has_back, has_self}
use Rattle.flat_code.proofs.Routines.Rules.{line, next, weaken}
use Rattle.flat_code.proofs.Routines.Distinct.{AreRegisters, register_of, registers_rename, others_stay}
use Rattle.flat_code.proofs.Routines.Regions.{IsLaidOut, laid_out, spaces_follow}
use Rattle.flat_code.proofs.Routines.Wrapped.{routine}
use Rattle.flat_code.proofs.Routines.Showing.{shows_both}
use Rattle.flat_code.proofs.Routines.Words.{IsLocal}
use Rattle.flat_code.proofs.Routines.Objects.Changing.{global_is_lock}
use Rattle.shadow_space.specs.Form.{IsClearRoutine, HasCleared}
use Rattle.shadow_space.proofs.Entries.{context_of, agrees_shows, agrees_memory}
use Rattle.lock_space.proofs.Spaces.{locks_laid_out}
use Rattle.lock_space.proofs.Local.{good_kept as locks_kept}
use Rattle.heap_space.proofs.Regions.{table_laid_out}
use Rattle.heap_space.proofs.Local.{good_kept as table_kept}
use Rattle.flat_actions.specs.Actions.{AreSpacesGood}
use Rattle.lib_wrappers.specs.AllocatingRoutines.Zeroing.{IsToZero, IsZeroed, HasZeroed, IsZeroRoutine, word_bytes}
use Rattle.lib_wrappers.specs.AllocatingRoutines.Zeroing.{begin_zero}
use Rattle.lib_wrappers.specs.AllocatingRoutines.Zeroing.{zero_until, to_the_end, zero_bytes, zero_code}
use Rattle.lib_wrappers.proofs.AllocatingRoutines.Stretches.{stretch_on, others_below}
use Rattle.lib_wrappers.proofs.AllocatingRoutines.Zeros.{Filling, fills}

-- ---- the spaces behind the shadow space stay good with their bytes

pub spaces_stay : (map : MapSizes) (IsGood : Bytes → Type 0) (m m' : Bytes) → AreMapped map → AreSpacesGood map IsGood m
    → IsGood m' → ((b : ℕ) → region_start map Locks ≤ b → m' b ≡ m b) → AreSpacesGood map IsGood m'
spaces_stay map IsGood m m' mapped g shadow same =
    let lie = locks_laid_out map mapped in
    record {
      shadow = shadow;
      locks = locks_kept map m m' lie (λ i l. same (region_start map Locks + i) (omega arith))
          (global_is_lock map mapped) g.locks;
      table = table_kept map m m' (table_laid_out map mapped)
          (λ i l. same (region_start map Blocks + i)
          (let a = lie.cells in let b = lie.blocks in omega arith)) g.table;
    }

-- ---- the bytes, alone: 0 the first, 1 how many, 2 those of whole words and then the end, 3 the cursor, 4 zero

abbrev alone : List FlatInstruction
alone = zero_bytes 0 1 2 3 4

record IsRange (map : MapSizes) (n count : ℕ) (v : State) : Type 0 where
  size : v.values 1 ≡ n
  words : v.values 2 ≡ 8 * count
  within : 8 * count ≤ n
  lo : objects_begin ≤ v.values 0
  hi : v.values 0 + n ≤ region_end map Heap

module _ (map : MapSizes) (charge weight : ℕ) (ok : IsLaidOut map) (n count : ℕ) (v : State) (w : IsOfWords v)
    (p : IsRange map n count v) where
  abbrev c : Context
  c = context_of map true charge weight

  abbrev a : ℕ
  a = v.values 0

  small : region_end map Heap < 2 ^ 62
  small = let s = ok.small in omega arith

  begins : Filling 8 v a (8 * count) n count (effects c (begin_zero 0 2 3 4) v)
  unfolding put reg_result
  begins =
      let e = p.words in let i = p.within in let h = p.hi in let s = small in
      record {
        done = 0;
        count = omega arith;
        cursor = omega arith;
        end = omega arith;
        zero_is = refl;
        first_stays = refl;
        bytes_stay = refl;
        shows = record { input = refl; output = refl; taken = refl; accesses = refl; turns = refl };
        beside = λ b out. refl;
        zeros = λ i l. absurd (omega arith);
      }

  goes_on : (y : State) → Filling 8 v a (8 * count) n 0 y
      → Filling 1 v a n n (n - 8 * count) (effects c (to_the_end 0 1 2) y)
  unfolding put reg_result
  goes_on y h =
      let first = h.first_stays in let bytes = h.bytes_stay in let z = p.size in let i = p.within in
      let hi = p.hi in let s = small in let d = h.count in let e = h.cursor in let shown = h.shows in
      record {
        done = h.done;
        count = omega arith;
        cursor = h.cursor;
        end = omega arith;
        zero_is = h.zero_is;
        first_stays = h.first_stays;
        bytes_stay = h.bytes_stay;
        shows = record {
          input = shown.input;
          output = shown.output;
          taken = shown.taken;
          accesses = shown.accesses;
          turns = shown.turns;
        };
        beside = h.beside;
        zeros = h.zeros;
      }

  zeros_alone : Reaches c alone (6 + (count * 4 + (n - 8 * count) * 4)) (Goes 0 v) 12
      (Either (Filling 1 v a n n 0) Never)
  zeros_alone =
      let has = has_self alone in
      let hi = p.hi in let lo = p.lo in let i = p.within in
      let after = has_back alone 0 (begin_zero 0 2 3 4)
      (zero_until Sd 2 3 4 ++ (to_the_end 0 1 2 ++ zero_until Sb 2 3 4)) has in
      let behind = has_back alone 3 (zero_until Sd 2 3 4) (to_the_end 0 1 2 ++ zero_until Sb 2 3 4) after in
      let last = has_back alone 7 (to_the_end 0 1 2) (zero_until Sb 2 3 4) behind in
      weaken c alone (3 + ((count * 4 + 1) + (1 + ((n - 8 * count) * 4 + 1))))
      (6 + (count * 4 + (n - 8 * count) * 4)) (Goes 0 v) 12 _ _ (omega arith) (λ x q. q)
      (next c alone 3 ((count * 4 + 1) + (1 + ((n - 8 * count) * 4 + 1))) (Goes 0 v) 3 12
      (Filling 8 v a (8 * count) n count) Never _ w
      (line c alone (begin_zero 0 2 3 4) 0 v (Filling 8 v a (8 * count) n count) Never (tt, (tt, (tt, tt)))
      (has_front alone 0 (begin_zero 0 2 3 4) (zero_until Sd 2 3 4 ++ (to_the_end 0 1 2 ++ zero_until Sb 2 3 4)) has)
      begins)
      (λ y wy h.
      next c alone (count * 4 + 1) (1 + ((n - 8 * count) * 4 + 1)) (Goes 3 y) 7 12
      (Filling 8 v a (8 * count) n 0) Never _ wy
      (fills map charge weight Sd (omega arith) (omega arith) v a (8 * count) n lo hi small i alone 3
      (has_front alone 3 (zero_until Sd 2 3 4) (to_the_end 0 1 2 ++ zero_until Sb 2 3 4) after) count y wy h)
      (λ x wx g.
      next c alone 1 ((n - 8 * count) * 4 + 1) (Goes 7 x) 8 12
      (Filling 1 v a n n (n - 8 * count)) Never _ wx
      (line c alone (to_the_end 0 1 2) 7 x (Filling 1 v a n n (n - 8 * count)) Never (tt, tt)
      (has_front alone 7 (to_the_end 0 1 2) (zero_until Sb 2 3 4) behind) (goes_on x g))
      (λ z wz q. fills map charge weight Sb (omega arith) (omega arith) v a n n lo hi small (omega arith) alone 8
      last (n - 8 * count) z wz q)
      (λ status report s never. never))
      (λ status report s never. never))
      (λ status report s never. never))

-- ---- the bytes, over the registers of the routine

-- registers hold where the range begins, its bytes and those of its whole words
record HasRange (map : MapSizes) (first bytes e n count : ℕ) (s : State) : Type 0 where
  size : s.values bytes ≡ n
  words : s.values e ≡ 8 * count
  within : 8 * count ≤ n
  lo : objects_begin ≤ s.values first
  hi : s.values first + n ≤ region_end map Heap

record HasZeros (first n t : ℕ) (s s' : State) : Type 0 where
  zeros : (i : ℕ) → i < n → s'.memory (s.values first + i) ≡ 0
  beside : KeepsBut (s.values first) n s.memory s'.memory
  shows : ShowsNothing s s'
  others : (x : ℕ) → x < t → s'.values x ≡ s.values x

zeros_does : (map : MapSizes) (first bytes t n count charge weight : ℕ) → IsLaidOut map → AreBelow t
    (first ∷ bytes ∷ [])
    → Does (context_of map true charge weight) (zero_bytes first bytes t (t + 1) (t + 2))
    (HasRange map first bytes t n count) (λ s. 6 + (count * 4 + (n - 8 * count) * 4))
    (λ s. Either (HasZeros first n t s) Never)
zeros_does map first bytes t n count charge weight ok below =
    let c = context_of map true charge weight in
    let ins = first ∷ bytes ∷ [] in let own = t ∷ (t + 1) ∷ (t + 2) ∷ [] in
    let r : AreRegisters ins [] own t =
    record {
      none = (tt, (tt, tt));
      distinct = tt;
      ins_below = below;
      res_below = tt;
      from = (omega arith, (omega arith, (omega arith, tt)));
      own_distinct = ((omega arith, (omega arith, tt)), ((omega arith, tt), (tt, tt)));
    } in
    let f = register_of ins [] own in
    routine c 5 2 f alone (HasRange map first bytes t n count) (registers_rename ins [] own t r) refl
    (λ s. 6 + (count * 4 + (n - 8 * count) * 4)) (λ s. Filling 1 (through f s) (s.values first) n n 0)
    (HasZeros first n t)
    (λ s w seen p. zeros_alone map charge weight ok n count (through f s) seen
    (record { size = p.size; words = p.words; within = p.within; lo = p.lo; hi = p.hi }))
    (λ s s' v w p h agrees only.
    let same : s'.memory ≡ v.memory = agrees_memory 5 f v s' agrees in
    let d = h.count in
    record {
      zeros = λ i l. ap (λ m. m (s.values first + i)) same ∙ h.zeros i (omega arith);
      beside = subst (KeepsBut (s.values first) n s.memory) (sym same) h.beside;
      shows = agrees_shows 5 f v s s' agrees (let z = h.shows in record {
        input = z.input;
        output = z.output;
        taken = z.taken;
        accesses = z.accesses;
        turns = z.turns;
      });
      others = λ x l. others_stay ins [] own t r s s' only x l tt;
    })

-- ---- the whole routine

module _ (map : MapSizes) (mapped : AreMapped map) (entry : View) (IsGood : Bytes → Type 0)
    (local : IsLocal map entry IsGood) (first bytes t : ℕ) (below : AreBelow t (first ∷ bytes ∷ []))
    (clear : List FlatInstruction) (clears : IsClearRoutine map entry IsGood first t (t + 1) clear) where
  abbrev tail : List FlatInstruction
  tail = zero_bytes first bytes t (t + 1) (t + 2)

  abbrev whole : List FlatInstruction
  whole = zero_code clear first bytes t (t + 1) (t + 2)

  memory_is : (n : ℕ) (s : State) → IsToZero map first bytes n s → (m1 m2 : Bytes) → IsGood m1
      → ((b : ℕ) → (b < spaces_begin) ⊎ (spaces_begin + region_size map Shadow ≤ b) → m1 b ≡ s.memory b)
      → ((k : ℕ) → k < n / 8 → entry m1 (s.values first + 8 * k) ≡ no_metadata)
      → ((b : ℕ) → IsObjectWord map b → (b < s.values first) ⊎ (s.values first + 8 * (n / 8) ≤ b)
      → entry m1 b ≡ entry s.memory b)
      → ((i : ℕ) → i < n → m2 (s.values first + i) ≡ 0) → KeepsBut (s.values first) n m1 m2
      → IsGood m2 × IsZeroed map entry (s.values first) n s.memory m2
  memory_is n s p m1 m2 good one cleared entries zeros two =
      let ok = laid_out map mapped in let room = ok.small in let hi = p.range.last in let lo = p.range.first in
      let a = p.aligned in
      let shadow : KeepsShadow map m1 m2 = λ i l. two (spaces_begin + i) (inr (omega arith)) in
      let still = local m1 m2 shadow good in
      let behind = (spaces_follow map).shadow in (
        still.0,
        record {
          zeros = zeros;
          beside = λ b l out. two b out ∙ one b (inl l);
          cleared = λ k l. still.1 (s.values first + 8 * k)
              (record { first = omega arith; last = omega arith; aligned = omega arith })
              ∙ cleared k l;
          entries = λ b word out. still.1 b word ∙ entries b word out;
          spaces = λ b l. two b (inr (omega arith)) ∙ one b (inr (omega arith));
        },
      )

  pub zero_does : IsZeroRoutine map entry IsGood first bytes t whole
  unfolding put reg_result
  zero_does n charge weight =
      let c = context_of map true charge weight in
      let ok = laid_out map mapped in
      let regs : AreRegisters (bytes ∷ []) [] (t ∷ []) t =
      record {
        none = (tt, tt);
        distinct = tt;
        ins_below = below.1;
        res_below = tt;
        from = (omega arith, tt);
        own_distinct = (tt, tt);
      } in
      record {
        from = λ code pc s has w p.
            let count = n / 8 in
            let size = p.0.size in let hi = p.0.range.last in let lo = p.0.range.first in
            let two = has_back code pc (word_bytes bytes t) (clear ++ tail) has in
            let three = has_back code (pc + 2) clear tail two in
            let end : pc + 2 + length clear + 12 ≡ pc + length whole = omega (arith, length-append clear tail) in
            let wide = w.values bytes in
            subst (λ k. Reaches c code (16 + 4 * n) (Goes pc s) k
            (Either (HasZeroed map entry IsGood first n t s) Never)) end
            (weaken c code (2 + ((8 + 16 * count) + (6 + (count * 4 + (n - 8 * count) * 4)))) (16 + 4 * n) (Goes pc s)
            (pc + 2 + length clear + 12) _ _ (omega arith) (λ x q. q)
            (stretch_on c (bytes ∷ []) [] (t ∷ []) t regs (word_bytes 0 1) refl code
            ((8 + 16 * count) + (6 + (count * 4 + (n - 8 * count) * 4))) pc s (pc + 2 + length clear + 12) _ w
            (has_front code pc (word_bytes bytes t) (clear ++ tail) has) (tt, (tt, tt))
            (λ s1 w1 d1.
            let words : s1.values t ≡ 8 * count = sym (d1.agrees.values 1 (omega arith)) ∙ omega arith in
            let m1 : s1.memory ≡ s.memory = agrees_memory 2 _ _ s1 d1.agrees in
            let first1 : s1.values first ≡ s.values first = d1.others first below.0 tt in
            let bytes1 : s1.values bytes ≡ s.values bytes = d1.others bytes below.1.0 tt in
            let shows1 : ShowsNothing s s1 = agrees_shows 2 _ _ s s1 d1.agrees
            (record { input = refl; output = refl; taken = refl; accesses = refl; turns = refl }) in
            next c code (8 + 16 * count) (6 + (count * 4 + (n - 8 * count) * 4)) (Goes (pc + 2) s1)
            (pc + 2 + length clear) (pc + 2 + length clear + 12) (HasCleared map entry IsGood first count (t + 1) s1)
            Never _ w1
            ((clears count true charge weight).from code (pc + 2) s1 (has_front code (pc + 2) clear tail two) w1 (
              record {
                begins = omega arith;
                ends = omega arith;
                bytes_of_words = words;
                aligned = subst (λ x. x % 8 ≡ 0) (sym first1) p.0.aligned;
              },
              subst IsGood (sym m1) p.1.shadow,
            ))
            (λ s2 w2 d2.
            let first2 : s2.values first ≡ s.values first = d2.others first (let l = below.0 in omega arith) tt ∙
            first1 in
            let bytes2 : s2.values bytes ≡ n = d2.others bytes (let l = below.1.0 in omega arith) tt ∙ bytes1 ∙ size in
            let words2 : s2.values t ≡ 8 * count = d2.others t (omega arith) tt ∙ words in
            weaken c code (6 + (count * 4 + (n - 8 * count) * 4)) (6 + (count * 4 + (n - 8 * count) * 4))
            (Goes (pc + 2 + length clear) s2) (pc + 2 + length clear + 12) _ _ (omega arith)
            (ends n s p.0 p.1 s1 s2 first1 m1 shows1 (others_below t t [] s s1 d1.others (omega arith)) d2 first2)
            ((zeros_does map first bytes t n count charge weight ok below).from code (pc + 2 + length clear) s2 three w2
            (record { size = bytes2; words = words2; within = omega arith; lo = omega arith; hi = omega arith })))
            (λ status report s' never. never))));
      }
    where
      ends : (n : ℕ) (s : State) → IsToZero map first bytes n s → AreSpacesGood map IsGood s.memory → (s1 s2 : State)
          → s1.values first ≡ s.values first → s1.memory ≡ s.memory → ShowsNothing s s1
          → ((x : ℕ) → x < t → Unit {0} → s1.values x ≡ s.values x)
          → HasCleared map entry IsGood first (n / 8) (t + 1) s1 s2 → s2.values first ≡ s.values first
          → (x : Outcome) → Either (HasZeros first n t s2) Never x → Either (HasZeroed map entry IsGood first n t s)
          Never x
      ends n s p g s1 s2 first1 m1 shows1 others1 d2 first2 (Continues s3) h =
          let at : (i : ℕ) → s2.values first + i ≡ s.values first + i = λ i. ap (λ x. x + i) first2 in
          let q = memory_is n s p s2.memory s3.memory d2.good
          (λ b out. d2.memory b out ∙ ap (λ m. m b) m1)
          (λ k l. ap (λ x. entry s2.memory (x + 8 * k)) (sym first1) ∙ d2.cleared k l)
          (λ b word out. d2.other_words b word (subst (λ x. (b < x) ⊎ (x + 8 * (n / 8) ≤ b)) (sym first1) out)
          ∙ ap (λ m. entry m b) m1)
          (λ i l. ap s3.memory (sym (at i)) ∙ h.zeros i l)
          (subst (λ x. KeepsBut x n s2.memory s3.memory) first2 h.beside) in
          record {
            memory = q.1;
            good = spaces_stay map IsGood s.memory s3.memory mapped g q.0 q.1.spaces;
            shows = shows_both s s2 s3 (shows_both s s1 s2 shows1 d2.shows) h.shows;
            others = λ x l none. h.others x l ∙ d2.others x (omega arith) tt ∙ others1 x l tt;
          }
      ends n s p g s1 s2 first1 m1 shows1 others1 d2 first2 (Halts status report s3) never = never
