-- The direct form: clearing the entries of a range.
use Rattle.std.proofs.Common.{◌≡◌, ℕ, zero, suc, ◌+◌, ◌*◌, ◌%◌, ◌^◌, ◌<◌, ◌≤◌, List, [], ◌∷◌, true}
use Rattle.std.proofs.Common.{inl, inr, ⊎_elim, refl, sym, ap, ◌∙◌, subst, arith}
use Rattle.std.proofs.lemmas.Bool.{cases_lt}
use Rattle.addr_map.specs.declared.region.Region.TheVariants.{Shadow}
use Rattle.addr_map.specs.Places.{MapSizes, spaces_begin, region_size}
use Rattle.rv_isa.specs.declared.instruction.BranchOp.TheVariants.{Bgeu}
use Rattle.rv_isa.specs.Results.{reg_result}
use Rattle.flat_code.specs.declared.instruction.RightOperand.TheVariants.{Register}
use Rattle.flat_code.specs.declared.instruction.FlatInstruction.{FlatInstruction}
use Rattle.flat_code.specs.declared.instruction.FlatInstruction.TheVariants.{JumpBack}
use Rattle.flat_code.specs.Memory.{Bytes, put, store, KeepsBut}
use Rattle.flat_code.specs.Spaces.{is_allowed}
use Rattle.flat_code.specs.State.{State}
use Rattle.flat_code.specs.Words.{IsOfWords}
use Rattle.flat_code.specs.Meaning.{Context, Goes}
use Rattle.flat_code.proofs.Stored.{kept_beside, keeps_within, keeps_both}
use Rattle.flat_code.specs.Routines.Registers.{AreBelow}
use Rattle.flat_code.specs.Routines.Routine.{Outcome, Continues, Halts, Reaches, Either, Never, until_code}
use Rattle.flat_code.specs.Routines.Effects.{worked, effects, AreAllowed}
use Rattle.flat_code.specs.Routines.Renaming.{through}
use Rattle.flat_code.specs.Routines.Metadata.{metadata_at, no_metadata, ShowsNothing}
use Rattle.flat_code.proofs.Routines.Steps.{has_front, has_back, has_self}
use Rattle.flat_code.proofs.Routines.Rules.{line, loop, weaken, next, Turns}
use Rattle.flat_code.proofs.Routines.Distinct.{AreRegisters, register_of, registers_rename, others_stay}
use Rattle.flat_code.proofs.Routines.Wrapped.{routine}
use Rattle.flat_code.proofs.Routines.Regions.{IsLaidOut, shadow_allowed, shadow_not_shown}
use Rattle.flat_code.proofs.Routines.Words.{store_four, four_read, four_beside, metadata_kept, stored_at}
use Rattle.flat_code.proofs.Routines.Branches.{not_below, is_below}
use Rattle.shadow_space.specs.Form.{IsWordRange, HasCleared, IsClearRoutine}
use Rattle.shadow_space.specs.Direct.{direct_entry, begin_clear, clear_one, direct_clear}
use Rattle.shadow_space.proofs.Entries.{context_of, agrees_shows, agrees_memory}

-- the routine alone: 0 the first address, 1 the bytes, 2 the cursor, 3 the end, 4 zero
abbrev alone : List FlatInstruction
alone = direct_clear 0 1 2 3 4

abbrev head : List FlatInstruction
head = begin_clear 0 1 2 3 4

abbrev body : List FlatInstruction
body = clear_one 2 4

abbrev turns_of : List FlatInstruction
turns_of = until_code Bgeu 2 (Register 3) body

-- at most k entries of n are left, from p on
record Clearing (start : State) (p n k : ℕ) (v : State) : Type 0 where
  done : ℕ
  count : done + k ≡ n
  cursor : v.values 2 ≡ p + 32 * done
  end : v.values 3 ≡ p + 32 * n
  zero_is : v.values 4 ≡ 0
  shows : ShowsNothing start v
  beside : KeepsBut p (32 * n) start.memory v.memory
  cleared : (i : ℕ) → i < done → metadata_at v.memory (p + 32 * i) ≡ no_metadata

-- work alone differs
worked_clearing : (c : Context) (start : State) (p n k : ℕ) (v : State) → Clearing start p n k v
    → Clearing start p n k (worked c v)
worked_clearing c start p n k v h = record {
  done = h.done;
  count = h.count;
  cursor = h.cursor;
  end = h.end;
  zero_is = h.zero_is;
  shows = let s = h.shows in record {
    input = s.input;
    output = s.output;
    taken = s.taken;
    accesses = s.accesses;
    turns = s.turns;
  };
  beside = h.beside;
  cleared = h.cleared;
}

-- the memory with one more entry cleared
more_cleared : (m m1 : Bytes) (p n d : ℕ) → d < n → KeepsBut p (32 * n) m m1
    → ((i : ℕ) → i < d → metadata_at m1 (p + 32 * i) ≡ no_metadata)
    → KeepsBut p (32 * n) m (store_four m1 (p + 32 * d) no_metadata)
    × ((i : ℕ) → i < suc d → metadata_at (store_four m1 (p + 32 * d) no_metadata) (p + 32 * i) ≡ no_metadata)
more_cleared m m1 p n d l keep cleared =
    let q = p + 32 * d in
    let beside = four_beside m1 q no_metadata in (
      keeps_both p (32 * n) m m1 _ keep (keeps_within q 32 p (32 * n) m1 _ (omega arith) (omega arith) beside),
      λ i il. ⊎_elim
          (λ (lt : i < d). metadata_kept m1 _ (p + 32 * i) (kept_beside q 32 (p + 32 * i) 32 m1 _ beside (inl (omega
          arith)))
          ∙ cleared i lt)
          (λ (ge : d ≤ i). (let e : i ≡ d = omega arith in
          subst (λ j. metadata_at (store_four m1 q no_metadata) (p + 32 * j) ≡ no_metadata) (sym e)
          (four_read m1 q no_metadata
          (record { base = omega arith; bound = omega arith; key = omega arith; lock = omega arith }))))
          (cases_lt i d),
    )

-- all that the addresses need
record IsArea (map : MapSizes) (p n : ℕ) : Type 0 where
  begins : spaces_begin ≤ p
  ends : p + 32 * n ≤ spaces_begin + region_size map Shadow
  small : p + 32 * n < 2 ^ 62

module _ (c : Context) (ok : IsLaidOut c.sizes) (start : State) (p n : ℕ) (area : IsArea c.sizes p n) where
  part_allowed : (a offset : ℕ) → p ≤ a → a + 32 ≤ p + 32 * n → offset + 8 ≤ 32
      → is_allowed c.sizes ((a + offset) % 2 ^ 64) 8 ≡ true
  part_allowed a offset lo hi l =
      let b = area.begins in let e = area.ends in let s = area.small in
      shadow_allowed c.sizes ((a + offset) % 2 ^ 64) 8 ok (omega arith) (omega arith)

  one_allowed : (k : ℕ) (v : State) → Clearing start p n (suc k) v → AreAllowed c body v
  one_allowed k v h =
      let e = h.cursor in let d = h.count in let s = area.small in
      let lo : p ≤ v.values 2 = omega arith in
      let hi : v.values 2 + 32 ≤ p + 32 * n = omega arith in (
        part_allowed (v.values 2) 0 lo hi (omega arith),
        (
          part_allowed (v.values 2) 8 lo hi (omega arith),
          (
            part_allowed (v.values 2) 16 lo hi (omega arith),
            (
              part_allowed (v.values 2) 24 lo hi (omega arith),
              (
                tt,
                tt,
              ),
            ),
          ),
        ),
      )

  one_memory : (k : ℕ) (v : State) → (h : Clearing start p n (suc k) v)
      → (effects c body v).memory ≡ store_four v.memory (p + 32 * h.done) no_metadata
  one_memory k v h =
      let e = h.cursor in let d = h.count in let s = area.small in let z = h.zero_is in
      ap (λ z. store 8 (store 8 (store 8 (store 8 v.memory ((v.values 2 + 0) % 2 ^ 64) z) ((v.values 2 + 8) % 2 ^ 64)
      z) ((v.values 2 + 16) % 2 ^ 64) z) ((v.values 2 + 24) % 2 ^ 64) z) z
      ∙ stored_at v.memory (p + 32 * h.done) _ _ _ _ no_metadata (omega arith) (omega arith) (omega arith) (omega arith)

  one : (k : ℕ) (v : State) → Clearing start p n (suc k) v → Clearing start p n k (effects c body v)
  unfolding put reg_result
  one k v h =
      let e = h.cursor in let d = h.count in let s = area.small in let b = area.begins in
      let less : h.done < n = omega arith in
      let more = more_cleared start.memory v.memory p n h.done less h.beside h.cleared in
      let same = sym (one_memory k v h) in
      let shown = h.shows in
      record {
        done = suc h.done;
        count = omega arith;
        cursor = omega arith;
        end = h.end;
        zero_is = h.zero_is;
        shows = record {
          input = shown.input;
          output = shown.output;
          taken = shown.taken;
          accesses = shadow_not_shown c _ 8 _ _ ok (omega arith) ∙ shadow_not_shown c _ 8 _ _ ok (omega arith)
              ∙ shadow_not_shown c _ 8 _ _ ok (omega arith) ∙ shadow_not_shown c _ 8 _ _ ok (omega arith)
              ∙ shown.accesses;
          turns = shown.turns;
        };
        beside = subst (KeepsBut p (32 * n) start.memory) same more.0;
        cleared = subst (λ m. (i : ℕ) → i < suc h.done → metadata_at m (p + 32 * i) ≡ no_metadata) same more.1;
      }

  go : (k : ℕ) (v : State) → IsOfWords v → Clearing start p n k v
      → Reaches c alone (n * 7 + 1) (Goes 4 v) 11 (Either (Clearing start p n 0) Never)
  go k v w h =
      let has = has_back alone 0 head turns_of (has_self alone) in
      loop c alone 4 Bgeu 2 (Register 3) body 5 (Clearing start p n) (Clearing start p n 0) Never has
      (λ k v w h. turn k v h) n k (let d = h.count in omega arith) v w h
    where
      turn : (k : ℕ) (v : State) → Clearing start p n k v
          → Turns c alone 4 Bgeu 2 (Register 3) body 5 (Clearing start p n) (Clearing start p n 0) Never
          (has_back alone 0 head turns_of (has_self alone)) k v
      turn zero v h =
          let e = h.cursor in let d = h.count in let f = h.end in
          inr (not_below (v.values 2) (v.values 3) (omega arith), worked_clearing c start p n 0 v h)
      turn (suc k) v h =
          let e = h.cursor in let d = h.count in let f = h.end in
          let has = (has_back alone 0 head turns_of (has_self alone)).1 in
          let h' = worked_clearing c start p n (suc k) v h in
          inl (
            is_below (v.values 2) (v.values 3) (omega arith),
            k,
            refl,
            weaken c alone 5 5 (Goes 5 (worked c v)) 10 _ _ (omega arith) then
                (line c alone body 5 (worked c v) (Clearing start p n k) Never (one_allowed k (worked c v) h')
                (has_front alone 5 body (JumpBack 6 ∷ []) has) (one k (worked c v) h')),
          )
        where
          then : (x : Outcome) → Either (Clearing start p n k) Never x
              → Either (λ s'. (i : ℕ) × (i ≤ k) × Clearing start p n i (worked c s')) Never x
          then (Continues s') q = (k, omega arith, worked_clearing c start p n k s' q)
          then (Halts status report s') q = q

-- the first part of the routine
module _ (c : Context) (ok : IsLaidOut c.sizes) (count : ℕ) (v : State)
    (r : IsWordRange c.sizes (v.values 0) (v.values 1) count) where
  area_of : IsArea c.sizes (4 * v.values 0) count
  area_of =
      let a = r.begins in let b = r.ends in let q = ok.room in let s = ok.small in
      record { begins = omega arith; ends = omega arith; small = omega arith }

  begins : Clearing v (4 * v.values 0) count count (effects c head v)
  unfolding put reg_result
  begins =
      let s = area_of.small in let b = r.bytes_of_words in
      record {
        done = 0;
        count = omega arith;
        cursor = omega arith;
        end = omega arith;
        zero_is = refl;
        shows = record { input = refl; output = refl; taken = refl; accesses = refl; turns = refl };
        beside = λ b out. refl;
        cleared = λ i l. absurd (omega arith);
      }

  clears_alone : IsOfWords v
      → Reaches c alone (8 + 16 * count) (Goes 0 v) 11 (Either (Clearing v (4 * v.values 0) count 0) Never)
  clears_alone w =
      weaken c alone (4 + (count * 7 + 1)) (8 + 16 * count) (Goes 0 v) 11 _ _ (omega arith) (λ x q. q)
      (next c alone 4 (count * 7 + 1) (Goes 0 v) 4 11 (Clearing v (4 * v.values 0) count count) Never _ w
      (line c alone head 0 v (Clearing v (4 * v.values 0) count count) Never (tt, (tt, (tt, (tt, tt))))
      (has_front alone 0 head turns_of (has_self alone)) begins)
      (λ s w' h. go c ok v (4 * v.values 0) count area_of count s w' h)
      (λ status report s never. never))

abbrev clear_registers : (first bytes scratch : ℕ) → ℕ → ℕ
clear_registers first bytes t = register_of (first ∷ bytes ∷ []) [] (t ∷ (t + 1) ∷ (t + 2) ∷ [])

pub direct_clears : (map : MapSizes) (first bytes t : ℕ) → IsLaidOut map → AreBelow t (first ∷ bytes ∷ [])
    → IsClearRoutine map direct_entry (λ m. Unit {0}) first bytes t (direct_clear first bytes t (t + 1) (t + 2))
direct_clears map first bytes t ok below count runtime charge weight =
    let c = context_of map runtime charge weight in
    let r : AreRegisters (first ∷ bytes ∷ []) [] (t ∷ (t + 1) ∷ (t + 2) ∷ []) t =
    record {
      none = (tt, (tt, tt));
      distinct = tt;
      ins_below = below;
      res_below = tt;
      from = (omega arith, (omega arith, (omega arith, tt)));
      own_distinct = ((omega arith, (omega arith, tt)), ((omega arith, tt), (tt, tt)));
    } in
    let f = clear_registers first bytes t in
    routine c 5 2 f alone _ (registers_rename (first ∷ bytes ∷ []) [] (t ∷ (t + 1) ∷ (t + 2) ∷ []) t r) refl
    (λ s. 8 + 16 * count) (λ s. Clearing (through f s) (4 * s.values first) count 0)
    (HasCleared map direct_entry (λ m. Unit {0}) first count t)
    (λ s w seen p. clears_alone c ok count (through f s) p.0 seen)
    (λ s s' v w p h agrees only.
    let q = p.0 in
    let a = 4 * s.values first in
    let same : s'.memory ≡ v.memory = agrees_memory 5 f v s' agrees in
    let beside : KeepsBut a (32 * count) s.memory s'.memory =
    subst (KeepsBut a (32 * count) s.memory) (sym same) h.beside in
    let area = area_of c ok count (through f s) q in
    record {
      cleared = λ k l. (let at : 4 * (s.values first + 8 * k) ≡ a + 32 * k = omega arith in
          ap (λ x. metadata_at s'.memory x) at ∙ ap (λ m. metadata_at m (a + 32 * k)) same
          ∙ h.cleared k (let d = h.count in omega arith));
      other_words = λ b wb out. metadata_kept s.memory s'.memory (4 * b)
          (kept_beside a (32 * count) (4 * b) 32 s.memory s'.memory beside
          (let x = wb.aligned in let y = q.aligned in
          ⊎_elim (λ l. inl (omega arith)) (λ l. inr (omega arith)) out));
      good = tt;
      memory = keeps_within a (32 * count) spaces_begin (region_size map Shadow) s.memory s'.memory area.begins
          area.ends beside;
      shows = agrees_shows 5 f v s s' agrees (let z = h.shows in record {
        input = z.input;
        output = z.output;
        taken = z.taken;
        accesses = z.accesses;
        turns = z.turns;
      });
      others = others_stay (first ∷ bytes ∷ []) [] (t ∷ (t + 1) ∷ (t + 2) ∷ []) t r s s' only;
    })
