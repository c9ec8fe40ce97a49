-- A range of object space becomes zero.
use Rattle.std.proofs.Common.{◌≡◌, ℕ, zero, suc, ◌+◌, ◌-◌, ◌*◌, ◌%◌, ◌^◌, ◌<◌, ◌≤◌, inl, inr, ⊎_elim, List}
use Rattle.std.proofs.Common.{[], ◌∷◌, true, refl, sym, ap, ◌∙◌, subst, arith}
use Rattle.std.proofs.lemmas.Bool.{cases_lt}
use Rattle.std.proofs.Math.Nat.{suc-mul}
use Rattle.addr_map.specs.declared.region.Region.TheVariants.{Heap}
use Rattle.addr_map.specs.Places.{MapSizes, objects_begin, region_end}
use Rattle.rv_isa.specs.declared.instruction.BranchOp.TheVariants.{Bgeu}
use Rattle.rv_isa.specs.declared.instruction.StoreOp.{StoreOp}
use Rattle.rv_isa.specs.Results.{reg_result, store_bytes}
use Rattle.flat_code.specs.declared.instruction.RightOperand.TheVariants.{Register}
use Rattle.flat_code.specs.declared.instruction.FlatInstruction.{FlatInstruction}
use Rattle.flat_code.specs.declared.instruction.FlatInstruction.TheVariants.{JumpBack}
use Rattle.flat_code.specs.Memory.{Bytes, put, store, KeepsBut}
use Rattle.flat_code.specs.State.{State}
use Rattle.flat_code.specs.Words.{IsOfWords}
use Rattle.flat_code.specs.Meaning.{Context, Goes}
use Rattle.flat_code.proofs.Stored.{put_same, store_beside, keeps_within, keeps_both}
use Rattle.flat_code.specs.Routines.Routine.{Outcome, Continues, Halts, HasAt, Reaches, Either, Never}
use Rattle.flat_code.specs.Routines.Effects.{worked, effects, AreAllowed}
use Rattle.flat_code.specs.Routines.Metadata.{ShowsNothing}
use Rattle.flat_code.proofs.Routines.Steps.{has_front}
use Rattle.flat_code.proofs.Routines.Rules.{line, loop, weaken, Turns}
use Rattle.flat_code.proofs.Routines.Branches.{not_below, is_below}
use Rattle.flat_code.proofs.Routines.Regions.{object_allowed}
use Rattle.shadow_space.proofs.Entries.{context_of}
use Rattle.lib_wrappers.specs.AllocatingRoutines.Zeroing.{zero_one, zero_until}

-- ---- stores of zero

pub zero_stored : (n : ℕ) (m : Bytes) (a i : ℕ) → i < n → store n m a 0 (a + i) ≡ 0
unfolding store
zero_stored zero m a i l = absurd (omega arith)
zero_stored (suc n) m a zero l =
    let e : a + 0 ≡ a = omega arith in
    subst (λ b. store n (put m a 0) (suc a) 0 b ≡ 0) (sym e)
    (store_beside n (put m a 0) (suc a) 0 a (inl (omega arith)) ∙ put_same m a 0)
zero_stored (suc n) m a (suc i) l =
    let e : a + suc i ≡ suc a + i = omega arith in
    subst (λ b. store n (put m a 0) (suc a) 0 b ≡ 0) (sym e) (zero_stored n (put m a 0) (suc a) i (omega arith))

-- ---- a loop: 2 the end, 3 the cursor, 4 zero

-- at most k stores are left until z bytes from a on are zero, of n that may change
pub record Filling (u : ℕ) (start : State) (a z n k : ℕ) (v : State) : Type 0 where
  pub done : ℕ
  pub count : done + k * u ≡ z
  pub cursor : v.values 3 ≡ a + done
  pub end : v.values 2 ≡ a + z
  pub zero_is : v.values 4 ≡ 0
  pub first_stays : v.values 0 ≡ start.values 0
  pub bytes_stay : v.values 1 ≡ start.values 1
  pub shows : ShowsNothing start v
  pub beside : KeepsBut a n start.memory v.memory
  pub zeros : (i : ℕ) → i < done → v.memory (a + i) ≡ 0

worked_filling : (c : Context) (u : ℕ) (start : State) (a z n k : ℕ) (v : State) → Filling u start a z n k v
    → Filling u start a z n k (worked c v)
worked_filling c u start a z n k v h = record {
  done = h.done;
  count = h.count;
  cursor = h.cursor;
  end = h.end;
  zero_is = h.zero_is;
  first_stays = h.first_stays;
  bytes_stay = h.bytes_stay;
  shows = let s = h.shows in record {
    input = s.input;
    output = s.output;
    taken = s.taken;
    accesses = s.accesses;
    turns = s.turns;
  };
  beside = h.beside;
  zeros = h.zeros;
}

-- the memory with one more store
more_zeros : (u : ℕ) (m m1 : Bytes) (a n d : ℕ) → d + u ≤ n → KeepsBut a n m m1
    → ((i : ℕ) → i < d → m1 (a + i) ≡ 0)
    → KeepsBut a n m (store u m1 (a + d) 0) × ((i : ℕ) → i < d + u → store u m1 (a + d) 0 (a + i) ≡ 0)
more_zeros u m m1 a n d l keep zeros = (
  keeps_both a n m m1 _ keep (keeps_within (a + d) u a n m1 _ (omega arith) (omega arith)
      (store_beside u m1 (a + d) 0)),
  λ i il. ⊎_elim
      (λ (lt : i < d). store_beside u m1 (a + d) 0 (a + i) (inl (omega arith)) ∙ zeros i lt)
      (λ (ge : d ≤ i). (let e : a + d + (i - d) ≡ a + i = omega arith in
      subst (λ b. store u m1 (a + d) 0 b ≡ 0) e (zero_stored u m1 (a + d) (i - d) (omega arith))))
      (cases_lt i d),
)

module _ (map : MapSizes) (charge weight : ℕ) (op : StoreOp) (some : 1 ≤ store_bytes op)
    (small_unit : store_bytes op ≤ 8)
    (start : State) (a z n : ℕ) (lo : objects_begin ≤ a) (hi : a + n ≤ region_end map Heap)
    (small : region_end map Heap < 2 ^ 62) (inside : z ≤ n) where
  abbrev c : Context
  c = context_of map true charge weight

  abbrev u : ℕ
  u = store_bytes op

  abbrev body : List FlatInstruction
  body = zero_one op 3 4

  one_allowed : (k : ℕ) (v : State) → Filling u start a z n (suc k) v → AreAllowed c body v
  one_allowed k v h =
      let e = h.cursor in let d = h.count in let m = suc-mul k u in (
        object_allowed map ((v.values 3 + 0) % 2 ^ 64) (a + h.done) u (omega arith) (omega arith) (omega arith),
        (tt, tt),
      )

  one : (k : ℕ) (v : State) → Filling u start a z n (suc k) v → Filling u start a z n k (effects c body v)
  unfolding put reg_result
  one k v h =
      let e = h.cursor in let d = h.count in let m = suc-mul k u in let zero_is = h.zero_is in
      let at : (v.values 3 + 0) % 2 ^ 64 ≡ a + h.done = omega arith in
      let same : store u v.memory (a + h.done) 0 ≡ store u v.memory ((v.values 3 + 0) % 2 ^ 64) (v.values 4) =
      ap (λ x. store u v.memory x 0) (sym at) ∙ ap (store u v.memory ((v.values 3 + 0) % 2 ^ 64)) (sym zero_is) in
      let more = more_zeros u start.memory v.memory a n h.done (omega arith) h.beside h.zeros in
      let shown = h.shows in
      record {
        done = h.done + u;
        count = omega arith;
        cursor = omega arith;
        end = h.end;
        zero_is = h.zero_is;
        first_stays = h.first_stays;
        bytes_stay = h.bytes_stay;
        shows = record {
          input = shown.input;
          output = shown.output;
          taken = shown.taken;
          accesses = shown.accesses;
          turns = shown.turns;
        };
        beside = subst (KeepsBut a n start.memory) same more.0;
        zeros = subst (λ y. (i : ℕ) → i < h.done + u → y (a + i) ≡ 0) same more.1;
      }

  -- the loop, wherever it stands
  pub fills : (code : List FlatInstruction) (pc : ℕ) → HasAt code pc (zero_until op 2 3 4) → (k : ℕ) (v : State)
      → IsOfWords v → Filling u start a z n k v
      → Reaches c code (k * 4 + 1) (Goes pc v) (pc + 4) (Either (Filling u start a z n 0) Never)
  fills code pc has k v w h =
      loop c code pc Bgeu 3 (Register 2) body 2 (Filling u start a z n) (Filling u start a z n 0) Never has
      (λ k v w h. turn k v h) k k (omega arith) v w h
    where
      turn : (k : ℕ) (v : State) → Filling u start a z n k v
          → Turns c code pc Bgeu 3 (Register 2) body 2 (Filling u start a z n) (Filling u start a z n 0) Never has k v
      turn zero v h =
          let e = h.cursor in let d = h.count in let f = h.end in
          inr (not_below (v.values 3) (v.values 2) (omega arith), worked_filling c u start a z n 0 v h)
      turn (suc k) v h =
          let e = h.cursor in let d = h.count in let f = h.end in let m = suc-mul k u in
          let h' = worked_filling c u start a z n (suc k) v h in
          inl (
            is_below (v.values 3) (v.values 2) (omega arith),
            k,
            refl,
            weaken c code 2 2 (Goes (pc + 1) (worked c v)) (pc + 1 + 2) _ _ (omega arith) then
                (line c code body (pc + 1) (worked c v) (Filling u start a z n k) Never (one_allowed k (worked c v) h')
                (has_front code (pc + 1) body (JumpBack 3 ∷ []) has.1) (one k (worked c v) h')),
          )
        where
          then : (x : Outcome) → Either (Filling u start a z n k) Never x
              → Either (λ s'. (i : ℕ) × (i ≤ k) × Filling u start a z n i (worked c s')) Never x
          then (Continues s') q = (k, omega arith, worked_filling c u start a z n k s' q)
          then (Halts status report s') q = q
