-- A row is found by start and key just where a live block with the key starts there.
use Rattle.std.proofs.Common.{◌≡◌, ℕ, zero, suc, ◌<◌, List, [], ◌∷◌, Bool, true, false, ◌&&◌, Some}
use Rattle.std.proofs.Common.{None, if◌then◌else◌, length, get_or, refl, sym, ap, ◌∙◌, subst, arith, ⊎_elim}
use Rattle.std.specs.Prelude.{◌==◌}
use Rattle.std.proofs.lemmas.Bool.{cases_eq, cases_Bool, eq-eqb, eqb-true, and_from}
use Rattle.obj_memory.specs.declared.object.Storage.{Storage}
use Rattle.obj_memory.specs.declared.object.Storage.TheVariants.{Static, Automatic, Allocated}
use Rattle.obj_memory.specs.Objects.{ObjectState, Objects, object_at}
use Rattle.obj_memory.specs.Heap.{is_allocated}
use Rattle.source_meaning.specs.Heap.{is_block_start}
use Rattle.flat_code.specs.Memory.{Bytes}
use Rattle.flat_code.specs.Routines.Objects.StandsFor.{Views, Keys, BlockRow, no_row, StandsFor}
use Rattle.flat_code.proofs.Routines.Objects.Changing.{live_is_made}
use Rattle.heap_space.specs.Rows.{HasStart, size_of}
use Rattle.lib_wrappers.proofs.AllocatingRoutines.TableRows.{has_start}

-- ---- rows

by_some : (n z : ℕ) → Some n ≡ Some z → n ≡ z
by_some n z e = cc

pub found_row : (a k z : ℕ) (rows : List BlockRow) → size_of a k rows ≡ Some z
    → (i : ℕ) × (i < length rows) × ((get_or rows i no_row).start ≡ a) × ((get_or rows i no_row).key ≡ k)
    × ((get_or rows i no_row).size ≡ z)
found_row a k z [] e = absurd cc
found_row a k z (r ∷ rs) e = by (λ h. found_row a k z rs h) (r.start == a) (r.key == k) refl refl e
  where
    by : (size_of a k rs ≡ Some z → (i : ℕ) × (i < length rs) × ((get_or rs i no_row).start ≡ a)
        × ((get_or rs i no_row).key ≡ k) × ((get_or rs i no_row).size ≡ z))
        → (b c : Bool) → (r.start == a) ≡ b → (r.key == k) ≡ c
        → (if b && c then Some r.size else size_of a k rs) ≡ Some z
        → (i : ℕ) × (i < length (r ∷ rs)) × ((get_or (r ∷ rs) i no_row).start ≡ a)
        × ((get_or (r ∷ rs) i no_row).key ≡ k) × ((get_or (r ∷ rs) i no_row).size ≡ z)
    by again true true p q h = (0, omega arith, eqb-true r.start a p, eqb-true r.key k q, by_some r.size z h)
    by again true false p q h = let x = again h in (suc x.0, (let l = x.1 in omega arith), x.2, x.3, x.4)
    by again false c p q h = let x = again h in (suc x.0, (let l = x.1 in omega arith), x.2, x.3, x.4)

pub no_row_found : (a k : ℕ) (rows : List BlockRow) → size_of a k rows ≡ None → (i : ℕ) → i < length rows
    → (get_or rows i no_row).start ≡ a → (get_or rows i no_row).key ≡ k → ⊥
no_row_found a k [] e i l s h = absurd (omega arith)
no_row_found a k (r ∷ rs) e zero l s h =
    let both = and_from (r.start == a) (r.key == k) (eq-eqb r.start a s) (eq-eqb r.key k h) in
    let found : Some r.size ≡ None = sym (ap (λ b. if b then Some r.size else size_of a k rs) both) ∙ e in
    absurd cc
no_row_found a k (r ∷ rs) e (suc i) l s h =
    no_row_found a k rs (by ((r.start == a) && (r.key == k)) e) i (omega arith) s h
  where
    by : (b : Bool) → (if b then Some r.size else size_of a k rs) ≡ None → size_of a k rs ≡ None
    by true q = absurd cc
    by false q = q

-- ---- blocks

start_of : (o : ObjectState) (a : ℕ) → o.storage ≡ Allocated → a ≡ o.address → is_block_start o a ≡ true
start_of o a s e =
    and_from (is_allocated o.storage) (a == o.address) (ap is_allocated s) (eq-eqb a o.address e)

pub parts_of_start : (o : ObjectState) (a : ℕ) → is_block_start o a ≡ true → (o.storage ≡ Allocated) × (a ≡ o.address)
parts_of_start o a e = by o.storage (a == o.address) refl refl e
  where
    by : (s : Storage) (b : Bool) → o.storage ≡ s → (a == o.address) ≡ b → (is_allocated s && b) ≡ true
        → (o.storage ≡ Allocated) × (a ≡ o.address)
    by Allocated true p q h = (p, eqb-true a o.address q)
    by Allocated false p q h = absurd cc
    by Static b p q h = absurd cc
    by Automatic b p q h = absurd cc

module _ (g : Views) (k : Keys) (objects : Objects) (m : Bytes) (st : StandsFor g k objects m) (n a : ℕ)
    (live : (object_at objects n).is_live ≡ true) where
  pub found_is_start : (z : ℕ) → size_of a (k.held n).key (g.blocks m) ≡ Some z
      → (is_block_start (object_at objects n) a ≡ true) × HasStart a (g.blocks m) × (z ≡ (object_at objects n).size)
  found_is_start z e =
      let r = found_row a (k.held n).key z (g.blocks m) e in
      let b = st.table.block_of r.0 r.1 in
      let same : b.0 ≡ n = ⊎_elim (λ y. y)
      (λ ne. absurd (st.keyed.alone b.0 n (live_is_made objects b.0 b.1.live) (live_is_made objects n live) ne
      b.1.block (sym b.1.key ∙ r.3)))
      (cases_eq b.0 n) in (
        start_of (object_at objects n) a (subst (λ j. (object_at objects j).storage ≡ Allocated) same b.1.block)
            (sym r.2 ∙ b.1.start ∙ ap (λ j. (object_at objects j).address) same),
        has_start a (g.blocks m) r.0 r.1 r.2,
        sym r.4 ∙ b.1.size ∙ ap (λ j. (object_at objects j).size) same,
      )

  pub not_found_is_none : size_of a (k.held n).key (g.blocks m) ≡ None
      → is_block_start (object_at objects n) a ≡ false
  not_found_is_none e = ⊎_elim
      (λ starts. absurd (let p = parts_of_start (object_at objects n) a starts in
      let r = st.table.row_of n live p.0 in
      no_row_found a (k.held n).key (g.blocks m) e r.0 r.1 (r.2.start ∙ sym p.1) r.2.key))
      (λ none. none)
      (cases_Bool (is_block_start (object_at objects n) a))
