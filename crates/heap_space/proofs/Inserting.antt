-- A row is inserted: those behind it are moved up by one.
use Rattle.std.proofs.Common.{◌≡◌, ℕ, zero, suc, ◌+◌, ◌-◌, ◌*◌, ◌%◌, ◌^◌, ◌<◌, ◌≤◌, ◌⊎◌, inl, inr, ⊎_elim, List}
use Rattle.std.proofs.Common.{[], ◌∷◌, refl, sym, ap, ◌∙◌, subst, arith}
use Rattle.std.proofs.lemmas.Bool.{cases_lt}
use Rattle.addr_map.specs.Places.{MapSizes}
use Rattle.rv_isa.specs.declared.instruction.BranchOp.TheVariants.{Beq}
use Rattle.rv_isa.specs.Results.{reg_result, extended}
use Rattle.flat_code.specs.declared.instruction.RightOperand.TheVariants.{Register}
use Rattle.flat_code.specs.declared.instruction.FlatInstruction.{FlatInstruction}
use Rattle.flat_code.specs.declared.instruction.FlatInstruction.TheVariants.{JumpBack}
use Rattle.flat_code.specs.Memory.{Bytes, AreBytes, put, load, store, KeepsBut}
use Rattle.flat_code.specs.State.{Values, State}
use Rattle.flat_code.specs.Words.{IsOfWords}
use Rattle.flat_code.specs.Meaning.{Context}
use Rattle.flat_code.proofs.Stored.{load_beside, kept_beside, keeps_within, keeps_both, load_fits}
use Rattle.flat_code.specs.Routines.Routine.{HasAt, until_code}
use Rattle.flat_code.specs.Routines.Effects.{worked, effects}
use Rattle.flat_code.specs.Routines.Metadata.{metadata_at, ShowsNothing}
use Rattle.flat_code.proofs.Routines.Steps.{has_front}
use Rattle.flat_code.proofs.Routines.Regions.{IsLaidOut}
use Rattle.flat_code.proofs.Routines.Words.{store_four, IsOfFourWords, four_read, four_beside, metadata_kept}
use Rattle.flat_code.proofs.Routines.Branches.{are_equal, are_not_equal}
use Rattle.flat_code.specs.Routines.Spaces.Quiet.{AreQuiet}
use Rattle.flat_code.proofs.Routines.Spaces.Quiet.{in_spaces}
use Rattle.flat_code.proofs.Routines.Spaces.Rules.{ReachesQuietly, QuietTurn, quiet_end, quiet_loop}
use Rattle.heap_space.specs.Table.{row_cell}
use Rattle.heap_space.specs.Routines.{move_up}
use Rattle.heap_space.proofs.Regions.{IsTableLaidOut}
use Rattle.heap_space.proofs.Seeking.{alone}

abbrev pub move_body : List FlatInstruction
move_body = move_up 7 9

-- one row copied word by word is the row copied at once
pub same_four : (m : Bytes) (p q a b c d a' b' c' d' : ℕ) → a ≡ p → b ≡ p + 8 → c ≡ p + 16 → d ≡ p + 24 → a' ≡ q
    → b' ≡ q + 8 → c' ≡ q + 16 → d' ≡ q + 24 → (p + 32 ≤ q) ⊎ (q + 32 ≤ p)
    → store 8 (store 8 (store 8 (store 8 m a' (load 8 m a)) b' (load 8 (store 8 m a' (load 8 m a)) b)) c'
    (load 8 (store 8 (store 8 m a' (load 8 m a)) b' (load 8 (store 8 m a' (load 8 m a)) b)) c)) d'
    (load 8 (store 8 (store 8 (store 8 m a' (load 8 m a)) b' (load 8 (store 8 m a' (load 8 m a)) b)) c'
    (load 8 (store 8 (store 8 m a' (load 8 m a)) b' (load 8 (store 8 m a' (load 8 m a)) b)) c)) d)
    ≡ store_four m q (metadata_at m p)
same_four m p q a b c d a' b' c' d' ea eb ec ed ea' eb' ec' ed' l =
    let m1 = store 8 m a' (load 8 m a) in
    let m2 = store 8 m1 b' (load 8 m1 b) in
    let m3 = store 8 m2 c' (load 8 m2 c) in
    let w1 : load 8 m1 b ≡ load 8 m (p + 8) =
    load_beside 8 8 m a' b (load 8 m a) (⊎_elim (λ x. inl (omega arith)) (λ x. inr (omega arith)) l)
    ∙ ap (load 8 m) eb in
    let w2 : load 8 m2 c ≡ load 8 m (p + 16) =
    load_beside 8 8 m1 b' c (load 8 m1 b) (⊎_elim (λ x. inl (omega arith)) (λ x. inr (omega arith)) l)
    ∙ load_beside 8 8 m a' c (load 8 m a) (⊎_elim (λ x. inl (omega arith)) (λ x. inr (omega arith)) l)
    ∙ ap (load 8 m) ec in
    let w3 : load 8 m3 d ≡ load 8 m (p + 24) =
    load_beside 8 8 m2 c' d (load 8 m2 c) (⊎_elim (λ x. inl (omega arith)) (λ x. inr (omega arith)) l)
    ∙ load_beside 8 8 m1 b' d (load 8 m1 b) (⊎_elim (λ x. inl (omega arith)) (λ x. inr (omega arith)) l)
    ∙ load_beside 8 8 m a' d (load 8 m a) (⊎_elim (λ x. inl (omega arith)) (λ x. inr (omega arith)) l)
    ∙ ap (load 8 m) ed in
    let w0 : load 8 m a ≡ load 8 m p = ap (load 8 m) ea in
    four m a' (load 8 m a) b' (load 8 m1 b) c' (load 8 m2 c) d' (load 8 m3 d) q (load 8 m p) (q + 8) (load 8 m (p + 8))
    (q + 16) (load 8 m (p + 16)) (q + 24) (load 8 m (p + 24)) ea' w0 eb' w1 ec' w2 ed' w3
  where
    four : (m : Bytes) (a x b y c z d w a' x' b' y' c' z' d' w' : ℕ) → a ≡ a' → x ≡ x' → b ≡ b' → y ≡ y' → c ≡ c'
        → z ≡ z' → d ≡ d' → w ≡ w' → store 8 (store 8 (store 8 (store 8 m a x) b y) c z) d w
        ≡ store 8 (store 8 (store 8 (store 8 m a' x') b' y') c' z') d' w'
    four m a x b y c z d w a' x' b' y' c' z' d' w' ea ex eb ey ec ez ed ew = cc

pub words_at : (m : Bytes) (p : ℕ) → AreBytes m → IsOfFourWords (metadata_at m p)
words_at m p b = record {
  base = load_fits 8 m p b;
  bound = load_fits 8 m (p + 8) b;
  key = load_fits 8 m (p + 16) b;
  lock = load_fits 8 m (p + 24) b;
}

-- the rows from place i on of so many stand one place further, and all else as it was
pub record AreMovedUp (s : MapSizes) (i total : ℕ) (m m' : Bytes) : Type 0 where
  pub moved : (j : ℕ) → i ≤ j → j < total → metadata_at m' (row_cell s (suc j)) ≡ metadata_at m (row_cell s j)
  pub keeps : KeepsBut (row_cell s (suc i)) (32 * (total - i)) m m'

-- none is moved yet
none_moved : (s : MapSizes) (total : ℕ) (m : Bytes) → AreMovedUp s total total m m
none_moved s total m = record { moved = λ j l b. absurd (omega arith); keeps = λ b out. refl }

-- one more
one_moved : (s : MapSizes) (i total : ℕ) (m m1 : Bytes) → i < total → AreBytes m1 → AreMovedUp s (suc i) total m m1
    → AreMovedUp s i total m (store_four m1 (row_cell s (suc i)) (metadata_at m1 (row_cell s i)))
one_moved s i total m m1 less bytes h =
    let q = row_cell s (suc i) in
    let e = metadata_at m1 (row_cell s i) in
    let beside = four_beside m1 q e in
    record {
      moved = λ j l b. ⊎_elim
          (λ before.
          (let at : j ≡ i = omega arith in
          subst (λ x. metadata_at (store_four m1 q e) (row_cell s (suc x)) ≡ metadata_at m (row_cell s x)) (sym at)
          (four_read m1 q e (words_at m1 (row_cell s i) bytes)
          ∙ metadata_kept m m1 (row_cell s i)
          (kept_beside (row_cell s (suc (suc i))) (32 * (total - suc i)) (row_cell s i) 32 m m1 h.keeps
          (inl (omega arith))))))
          (λ behind. metadata_kept m1 (store_four m1 q e) (row_cell s (suc j))
          (kept_beside q 32 (row_cell s (suc j)) 32 m1 (store_four m1 q e) beside (inr (omega arith)))
          ∙ h.moved j behind b)
          (cases_lt j (suc i));
      keeps = keeps_both q (32 * (total - i)) m m1 (store_four m1 q e)
          (keeps_within (row_cell s (suc (suc i))) (32 * (total - suc i)) q (32 * (total - i)) m m1 (omega arith)
          (omega arith) h.keeps)
          (keeps_within q 32 q (32 * (total - i)) m1 (store_four m1 q e) (omega arith) (omega arith) beside);
    }

-- ---- the loop: register 7 goes down to register 6

-- what it leaves as it is
pub record Carries (c : Context) (size key place i end : ℕ) (values : Values) : Type 0 where
  pub size_is : values 0 ≡ size
  pub key_is : values 1 ≡ key
  pub place_is : values 5 ≡ place
  pub cursor : values 6 ≡ row_cell c.sizes i
  pub room_end : values 10 ≡ end

record Moving (c : Context) (m : Bytes) (size key place i end total : ℕ) (k : ℕ) (values : Values) (m' : Bytes)
    : Type 0 where
  carries : Carries c size key place i end values
  from : values 7 ≡ row_cell c.sizes (i + k)
  within : i + k ≤ total
  so_far : AreMovedUp c.sizes (i + k) total m m'

pub record HasMoved (c : Context) (m : Bytes) (size key place i end total : ℕ) (values : Values) (m' : Bytes)
    : Type 0 where
  pub carries : Carries c size key place i end values
  pub moved : AreMovedUp c.sizes i total m m'

module _ (c : Context) (ok : IsLaidOut c.sizes) (lie : IsTableLaidOut c.sizes) (start : State) (m : Bytes)
    (size key place i end total : ℕ) (few : total < c.sizes.budgets.blocks) where
  abbrev I : ℕ → Values → Bytes → Type 0
  I = Moving c m size key place i end total

  one_quiet : (k : ℕ) (v : State) → I (suc k) v.values v.memory → AreQuiet c move_body v
  unfolding put reg_result
  one_quiet k v h =
      let f = lie.first in let e = lie.ends in let s = lie.small in let n = lie.inside in let l = lie.few in
      let from = h.from in let within = h.within in
      let p = row_cell c.sizes (i + k) in
      let at : (offset : ℕ) → offset ≤ 56
      → ((v.values 7 + (2 ^ 64 - 32)) % 2 ^ 64 + offset) % 2 ^ 64 ≡ p + offset = λ offset l. omega arith in (
        tt,
        (
          in_spaces c _ (p + 0) 8 (at 0 (omega arith)) (omega arith) (omega arith),
          (
            in_spaces c _ (p + 32) 8 (at 32 (omega arith)) (omega arith) (omega arith),
            (
              in_spaces c _ (p + 8) 8 (at 8 (omega arith)) (omega arith) (omega arith),
              (
                in_spaces c _ (p + 40) 8 (at 40 (omega arith)) (omega arith) (omega arith),
                (
                  in_spaces c _ (p + 16) 8 (at 16 (omega arith)) (omega arith) (omega arith),
                  (
                    in_spaces c _ (p + 48) 8 (at 48 (omega arith)) (omega arith) (omega arith),
                    (
                      in_spaces c _ (p + 24) 8 (at 24 (omega arith)) (omega arith) (omega arith),
                      (in_spaces c _ (p + 56) 8 (at 56 (omega arith)) (omega arith) (omega arith), tt),
                    ),
                  ),
                ),
              ),
            ),
          ),
        ),
      )

  one : (k : ℕ) (v : State) → IsOfWords v → I (suc k) v.values v.memory
      → I k (effects c move_body v).values (effects c move_body v).memory
  unfolding put reg_result extended
  one k v w h =
      let f = lie.first in let e = lie.ends in let s = lie.small in let n = lie.inside in let l = lie.few in
      let from = h.from in let within = h.within in
      let p = row_cell c.sizes (i + k) in
      let q = row_cell c.sizes (suc (i + k)) in
      let t = (v.values 7 + (2 ^ 64 - 32)) % 2 ^ 64 in
      let same = same_four v.memory p q ((t + 0) % 2 ^ 64) ((t + 8) % 2 ^ 64) ((t + 16) % 2 ^ 64) ((t + 24) % 2 ^ 64)
      ((t + 32) % 2 ^ 64) ((t + 40) % 2 ^ 64) ((t + 48) % 2 ^ 64) ((t + 56) % 2 ^ 64) (omega arith) (omega arith)
      (omega arith) (omega arith) (omega arith) (omega arith) (omega arith) (omega arith) (inl (omega arith)) in
      let one_more : i + suc k ≡ suc (i + k) = omega arith in
      let so_far = subst (λ j. AreMovedUp c.sizes j total m v.memory) one_more h.so_far in
      record {
        carries = record {
          size_is = h.carries.size_is;
          key_is = h.carries.key_is;
          place_is = h.carries.place_is;
          cursor = h.carries.cursor;
          room_end = h.carries.room_end;
        };
        from = omega arith;
        within = omega arith;
        so_far = subst (AreMovedUp c.sizes (i + k) total m) (sym same)
            (one_moved c.sizes (i + k) total m v.memory (omega arith) w.memory so_far);
      }

  each : (k : ℕ) (v : State) → IsOfWords v → ShowsNothing start v → I k v.values v.memory
      → HasAt (alone c.sizes) 29 move_body → (has : HasAt (alone c.sizes) 28 (until_code Beq 7 (Register 6) move_body))
      → QuietTurn c ok (alone c.sizes) start 28 Beq 7 (Register 6) move_body 9 I
      (HasMoved c m size key place i end total) has k v
  each zero v w shown h has whole =
      let f = h.from in let cu = h.carries.cursor in
      let none : i + 0 ≡ i = omega arith in
      inr (
        are_equal (v.values 7) (v.values 6) (omega arith),
        record { carries = h.carries; moved = subst (λ j. AreMovedUp c.sizes j total m v.memory) none h.so_far },
      )
  each (suc k) v w shown h has whole =
      let f = h.from in let cu = h.carries.cursor in
      inl (
        are_not_equal (v.values 7) (v.values 6) (λ e. omega arith),
        k,
        refl,
        λ s1. quiet_end c ok (alone c.sizes) start move_body 29 (worked c v)
            (λ values m'. (j : ℕ) × (j ≤ k) × I j values m') s1 (one_quiet k (worked c v) h) has
            (k, omega arith, one k (worked c v) (record { values = w.values; memory = w.memory }) h),
      )

  pub moves : (k : ℕ) (v : State) → IsOfWords v → ShowsNothing start v → i + k ≡ total
      → Carries c size key place i end v.values → v.values 7 ≡ row_cell c.sizes total → v.memory ≡ m
      → (has : HasAt (alone c.sizes) 28 (until_code Beq 7 (Register 6) move_body))
      → ReachesQuietly c (alone c.sizes) (k * (9 + 2) + 1) 28 start v 39 (HasMoved c m size key place i end total)
  moves k v w shown count carries from same has =
      quiet_loop c ok (alone c.sizes) start 28 Beq 7 (Register 6) move_body 9 I
      (HasMoved c m size key place i end total) has
      (λ j s ws sh h. each j s ws sh h (has_front (alone c.sizes) 29 move_body (JumpBack 10 ∷ []) has.1) has)
      k v w shown
      (record {
        carries = carries;
        from = from ∙ ap (row_cell c.sizes) (sym count);
        within = omega arith;
        so_far = subst (λ j. AreMovedUp c.sizes j total m v.memory) (sym count)
            (subst (λ x. AreMovedUp c.sizes total total m x) (sym same) (none_moved c.sizes total m));
      })
