-- Some lock word is free: each that is used is that of a live object, every live block has a row of its own, and the
-- live automatic objects stand at different multiples of 16 of the object stack.
use Rattle.std.proofs.Common.{◌≡◌, ◌≢◌, ℕ, zero, suc, ◌+◌, ◌-◌, ◌/◌, ◌%◌, ◌<◌, ◌≤◌, ◌⊎◌, inl, inr, ⊎_elim}
use Rattle.std.proofs.Common.{true, false, length, get_or, refl, sym, ap, ◌∙◌, subst, arith}
use Rattle.std.proofs.lemmas.Bool.{cases_Bool, cases_eq, cases_lt}
use Rattle.addr_map.specs.declared.region.Region.TheVariants.{Stack}
use Rattle.addr_map.specs.Places.{MapSizes, AreMapped, region_size, region_start, region_end}
use Rattle.obj_memory.specs.declared.object.Storage.{Storage}
use Rattle.obj_memory.specs.declared.object.Storage.TheVariants.{Static, Automatic, Allocated}
use Rattle.obj_memory.specs.Objects.{Objects, object_at}
use Rattle.obj_memory.specs.Heap.{object_room}
use Rattle.obj_memory.specs.Sound.{AreBeside}
use Rattle.source_meaning.specs.Keeping.{region_of, ArePlaced}
use Rattle.flat_code.specs.Memory.{Bytes, load}
use Rattle.flat_code.specs.Routines.Objects.StandsFor.{Views, Keys, no_row, IsLock, global_lock, IsRowOf, StandsFor}
use Rattle.flat_code.proofs.Routines.Objects.Changing.{live_is_made}
use Rattle.flat_code.proofs.Routines.Spaces.Few.{at_most_of}
use Rattle.lock_space.specs.Locks.{lock_total, used_locks, first_lock, listed_lock, IsFree, AreLocksGood}
use Rattle.lock_space.proofs.Spaces.{locks_laid_out}
use Rattle.lib_wrappers.specs.AllocatingRoutines.Premises.{HaveBytes}

-- how the object stack lies
pub record IsStackLaidOut (s : MapSizes) : Type 0 where
  pub aligned : region_start s Stack % 16 ≡ 0
  pub whole : s.budgets.stack % 16 ≡ 0
  pub ends : region_end s Stack ≡ region_start s Stack + s.budgets.stack

pub stack_laid_out : (s : MapSizes) → AreMapped s → IsStackLaidOut s
unfolding region_size region_start
stack_laid_out s h = record {
  aligned = omega arith;
  whole = omega (arith, h.budgets.stack.whole);
  ends = omega arith;
}

module _ (g : Views) (k : Keys) (objects : Objects) (m : Bytes) (mapped : AreMapped g.sizes)
    (st : StandsFor g k objects m) (good : AreLocksGood g.sizes m) (bytes : HaveBytes objects) where
  -- ---- who uses a lock word

  abbrev Uses : (a n : ℕ) → Type 0
  Uses a n = ((object_at objects n).is_live ≡ true) × ((k.held n).lock ≡ a)

  sought : (a n : ℕ) → ((j : ℕ) × Uses a j)
      ⊎ ((j : ℕ) → j < n → (object_at objects j).is_live ≡ true → (k.held j).lock ≢ a)
  sought a zero = inr (λ j l. absurd (omega arith))
  sought a (suc n) = ⊎_elim
      (λ found. inl found)
      (λ none. ⊎_elim
      (λ live. ⊎_elim
      (λ same. inl (n, (live, same)))
      (λ other. inr (λ j l jl e. ⊎_elim (λ (less : j < n). none j less jl e)
      (λ (from : n ≤ j). (let here : j ≡ n = omega arith in other (subst (λ i. (k.held i).lock ≡ a) here e)))
      (cases_lt j n)))
      (cases_eq (k.held n).lock a))
      (λ dead. inr (λ j l jl e. ⊎_elim (λ (less : j < n). none j less jl e)
      (λ (from : n ≤ j). (let here : j ≡ n = omega arith in
      let both : true ≡ false = sym jl ∙ ap (λ i. (object_at objects i).is_live) here ∙ dead in absurd cc))
      (cases_lt j n)))
      (cases_Bool (object_at objects n).is_live))
      (sought a n)

  -- a live object, where it is not free
  used_by : (a : ℕ) → IsLock g.sizes a → a ≢ global_lock g.sizes → ((j : ℕ) × Uses a j) ⊎ (load 8 m a ≡ 0)
  used_by a l ne = ⊎_elim
      (λ found. inl found)
      (λ none. inr (st.locks.unused a l ne (λ n live. none n (live_is_made objects n live) live)))
      (sought a (length objects))

  -- ---- each live object that is not static has a number of its own

  abbrev rows_count : ℕ
  rows_count = length (g.blocks m)

  -- that of its row, or of its 16 bytes of the object stack
  abbrev HasNumber : (n number : ℕ) → Type 0
  HasNumber n i = ((i < rows_count) × IsRowOf k objects (get_or (g.blocks m) i no_row) n)
      ⊎ ((i ≡ rows_count + ((object_at objects n).address - region_start g.sizes Stack) / 16)
      × ((object_at objects n).storage ≡ Automatic) × ((object_at objects n).is_live ≡ true))

  number_of : (n : ℕ) → (object_at objects n).is_live ≡ true → (object_at objects n).storage ≢ Static
      → (i : ℕ) × HasNumber n i
  number_of n live other = by (object_at objects n).storage refl
    where
      by : (s : Storage) → (object_at objects n).storage ≡ s → (i : ℕ) × HasNumber n i
      by Static e = absurd (other e)
      by Automatic e = (
        rows_count + ((object_at objects n).address - region_start g.sizes Stack) / 16,
        inr
            (refl, e, live),
      )
      by Allocated e = let r = st.table.row_of n live e in (r.0, inl (r.1, r.2))

  automatic_start : (n : ℕ) → ArePlaced g.sizes objects → (object_at objects n).is_live ≡ true
      → (object_at objects n).storage ≡ Automatic → region_start g.sizes Stack ≤ (object_at objects n).address
  automatic_start n placed live e =
      subst (λ s. region_start g.sizes (region_of s) ≤ (object_at objects n).address) e
      (placed n (live_is_made objects n live)).start

  automatic_end : (n : ℕ) → ArePlaced g.sizes objects → (object_at objects n).is_live ≡ true
      → (object_at objects n).storage ≡ Automatic
      → (object_at objects n).address + (object_at objects n).size ≤ region_end g.sizes Stack
  automatic_end n placed live e =
      subst (λ s. (object_at objects n).address + object_room s (object_at objects n).size
      ≤ region_end g.sizes (region_of s)) e (placed n (live_is_made objects n live)).end

  number_once : ArePlaced g.sizes objects → (n j a b : ℕ) → HasNumber n a → HasNumber j b → a ≡ b → n ≡ j
  number_once placed n j a b (inl p) (inl q) e = ⊎_elim
      (λ same. same)
      (λ ne. absurd (st.keyed.alone n j (live_is_made objects n p.1.live) (live_is_made objects j q.1.live) ne p.1.block
      (sym p.1.key ∙ ap (λ i. (get_or (g.blocks m) i no_row).key) e ∙ q.1.key)))
      (cases_eq n j)
  number_once placed n j a b (inl p) (inr q) e = absurd (let l = p.0 in let x = q.0 in omega arith)
  number_once placed n j a b (inr p) (inl q) e = absurd (let l = q.0 in let x = p.0 in omega arith)
  number_once placed n j a b (inr p) (inr q) e = ⊎_elim
      (λ same. same)
      (λ ne.
      let lie = stack_laid_out g.sizes mapped in let start = lie.aligned in
      let x = p.0 in let y = q.0 in
      let lo = automatic_start n placed p.2 p.1 in let lo' = automatic_start j placed q.2 q.1 in
      let al = (st.sound.at n).aligned in let al' = (st.sound.at j).aligned in
      let at : (object_at objects n).address ≡ (object_at objects j).address = omega arith in
      let beside : AreBeside (object_at objects n) (object_at objects j) = st.disjoint.apart n j ne p.2 q.2 in
      let some : 1 ≤ object_room (object_at objects n).storage (object_at objects n).size =
      subst (λ s. 1 ≤ object_room s (object_at objects n).size) (sym p.1) (bytes.some n p.2 p.1) in
      let some' : 1 ≤ object_room (object_at objects j).storage (object_at objects j).size =
      subst (λ s. 1 ≤ object_room s (object_at objects j).size) (sym q.1) (bytes.some j q.2 q.1) in
      ⊎_elim (λ l. absurd (omega arith)) (λ l. absurd (omega arith)) beside)
      (cases_eq n j)

  -- ---- fewer objects than lock words

  module _ (placed : ArePlaced g.sizes objects) (stack_slots : ℕ)
      (low : (n : ℕ) → (object_at objects n).is_live ≡ true → (object_at objects n).storage ≡ Automatic
      → ((object_at objects n).address - region_start g.sizes Stack) / 16 < stack_slots)
      (fewer : rows_count + stack_slots < lock_total g.sizes) where
    own_lock_at : (i : ℕ) → i < lock_total g.sizes
        → IsLock g.sizes (first_lock g.sizes i) × (first_lock g.sizes i ≢ global_lock g.sizes)
    own_lock_at i l =
        let lie = locks_laid_out g.sizes mapped in let a = lie.aligned in
        (record { first = omega arith; last = omega arith; aligned = omega arith }, λ e. omega arith)

    -- where none is free, each has a user, whose number is below
    module _ (full : lock_total g.sizes ≤ used_locks g.sizes m) where
      user_at : (i : ℕ) → i < lock_total g.sizes → (n : ℕ) × Uses (first_lock g.sizes i) n
      user_at i l =
          let o = own_lock_at i l in
          ⊎_elim
          (λ found. found)
          (λ empty. absurd (let x = good.listed (first_lock g.sizes i)
          (record { lock = o.0; not_global = o.1; empty = empty }) in
          let lo = x.1 in let hi = x.2 in omega arith))
          (used_by (first_lock g.sizes i) o.0 o.1)

      user_not_static : (i : ℕ) (l : i < lock_total g.sizes) → (object_at objects (user_at i l).0).storage ≢ Static
      user_not_static i l e =
          let u = user_at i l in
          (own_lock_at i l).1 (sym u.1.1 ∙ ((st.keyed.each u.0 (live_is_made objects u.0 u.1.0)).static e).1)

      numbered : (i : ℕ) (l : i < lock_total g.sizes) → (x : ℕ) × HasNumber (user_at i l).0 x
      numbered i l = number_of (user_at i l).0 (user_at i l).1.0 (user_not_static i l)

      below : (n x : ℕ) → HasNumber n x → x < rows_count + stack_slots
      below n x (inl p) = let l = p.0 in omega arith
      below n x (inr p) = let e = p.0 in let l = low n p.2 p.1 in omega arith

      none_free : ⊥
      none_free =
          let most = at_most_of (lock_total g.sizes) (rows_count + stack_slots) (λ i l. (numbered i l).0)
          (λ i l. below (user_at i l).0 (numbered i l).0 (numbered i l).1)
          (λ i j l h e.
          let same : (user_at i l).0 ≡ (user_at j h).0 =
          number_once placed (user_at i l).0 (user_at j h).0 (numbered i l).0 (numbered j h).0 (numbered i l).1
          (numbered j h).1 e in
          let at : first_lock g.sizes i ≡ first_lock g.sizes j =
          sym (user_at i l).1.1 ∙ ap (λ n. (k.held n).lock) same ∙ (user_at j h).1.1 in
          omega arith) in
          omega arith

    pub some_is_free : (a : ℕ) × IsFree g.sizes m a
    some_is_free = ⊎_elim
        (λ less. (listed_lock g.sizes m (used_locks g.sizes m), good.free (used_locks g.sizes m) (omega arith) less))
        (λ full. absurd (none_free full))
        (cases_lt (used_locks g.sizes m) (lock_total g.sizes))

  -- while fewer blocks live than may, some lock word is free
  pub free_for_a_block : ArePlaced g.sizes objects → rows_count < g.sizes.budgets.blocks
      → (a : ℕ) × IsFree g.sizes m a
  free_for_a_block placed few =
      some_is_free placed (g.sizes.budgets.stack / 16)
      (λ n live e.
      let lie = stack_laid_out g.sizes mapped in let whole = lie.whole in let ends = lie.ends in
      let lo = automatic_start n placed live e in let hi = automatic_end n placed live e in
      let some = bytes.some n live e in omega arith)
      (omega arith)

  -- while automatic objects end at or below a multiple of 16 that is not the end of the object stack
  pub free_for_automatics : ArePlaced g.sizes objects → rows_count ≤ g.sizes.budgets.blocks → (top : ℕ)
      → ((n : ℕ) → (object_at objects n).is_live ≡ true → (object_at objects n).storage ≡ Automatic
      → (object_at objects n).address + (object_at objects n).size ≤ top)
      → top % 16 ≡ 0 → region_start g.sizes Stack ≤ top → top < region_end g.sizes Stack → (a : ℕ) × IsFree g.sizes m a
  free_for_automatics placed few top under aligned from beneath =
      some_is_free placed ((top - region_start g.sizes Stack) / 16)
      (λ n live e.
      let lie = stack_laid_out g.sizes mapped in let start = lie.aligned in
      let lo = automatic_start n placed live e in let hi = under n live e in
      let some = bytes.some n live e in omega arith)
      (let lie = stack_laid_out g.sizes mapped in let start = lie.aligned in let whole = lie.whole in
      let ends = lie.ends in omega arith)
