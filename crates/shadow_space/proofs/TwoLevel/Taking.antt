-- A table of the reserve is taken for a page that has none.
use Rattle.std.proofs.Common.{◌≡◌, ◌≢◌, ℕ, suc, ◌+◌, ◌*◌, ◌<◌, ◌≤◌, ◌⊎◌, inl, inr, ⊎_elim}
use Rattle.std.proofs.Common.{sym, ap, ◌∙◌, subst, arith}
use Rattle.std.proofs.lemmas.Bool.{cases_lt, cases_eq}
use Rattle.addr_map.specs.declared.region.Region.TheVariants.{Shadow}
use Rattle.addr_map.specs.Places.{MapSizes, spaces_begin, region_size}
use Rattle.flat_code.specs.Memory.{Bytes, load, store}
use Rattle.flat_code.proofs.Stored.{load_stored, load_beside, store_beside, keeps_within, keeps_both}
use Rattle.flat_code.specs.Routines.Metadata.{no_metadata, metadata_at, IsObjectWord, KeepsButShadow}
use Rattle.flat_code.proofs.Routines.Words.{metadata_kept}
use Rattle.flat_code.proofs.Routines.Spaces.Few.{at_most_of}
use Rattle.shadow_space.specs.TwoLevel.Tables.{pages, page_of, entry_offset, taken_cell, page_cell, first_table}
use Rattle.shadow_space.specs.TwoLevel.Tables.{table_of}
use Rattle.shadow_space.specs.TwoLevel.Tables.{in_table, two_level_entry, AreTablesGood}
use Rattle.shadow_space.proofs.TwoLevel.Levels.{AreLevelsLaidOut, no_table, with_table, page_below, offset_below}
use Rattle.shadow_space.proofs.TwoLevel.Levels.{entry_kept}

-- an entry of zero bytes is none
pub zero_entry : (m : Bytes) (p : ℕ) → ((i : ℕ) → i < 32 → m (p + i) ≡ 0) → metadata_at m p ≡ no_metadata
unfolding load
zero_entry m p h = metadata_kept (λ x. 0) m p h

module _ (s : MapSizes) (lie : AreLevelsLaidOut s) (m : Bytes) (g : AreTablesGood s m) (q : ℕ) (page : q < pages s)
    (none : table_of m q ≡ 0) where
  abbrev new_table : ℕ
  new_table = first_table s + 16384 * g.taken

  abbrev counted_memory : Bytes
  counted_memory = store 8 m taken_cell (16384 * (g.taken + 1))

  abbrev pub with_new : Bytes
  with_new = store 8 counted_memory (page_cell q) new_table

  -- the pages that have tables are not all
  pub one_left : g.taken < pages s
  one_left = at_most_of (suc g.taken) (pages s) (λ i l. owner i (cases_lt i g.taken))
      (λ i l. owner_below i (cases_lt i g.taken))
      (λ i j l k e. owner_once i j l k (cases_lt i g.taken) (cases_lt j g.taken) e)
    where
      owner : (i : ℕ) → (i < g.taken) ⊎ (g.taken ≤ i) → ℕ
      owner i (inl l) = (g.owner i l).0
      owner i (inr l) = q

      owner_below : (i : ℕ) → (c : (i < g.taken) ⊎ (g.taken ≤ i)) → owner i c < pages s
      owner_below i (inl l) = (g.owner i l).1
      owner_below i (inr l) = page

      not_new : (i : ℕ) (l : i < g.taken) → (g.owner i l).0 ≢ q
      not_new i l e =
          let at = (g.owner i l).2 in let z = ap (table_of m) e ∙ none in omega arith

      owner_once : (i j : ℕ) → i < suc g.taken → j < suc g.taken → (c : (i < g.taken) ⊎ (g.taken ≤ i))
          → (d : (j < g.taken) ⊎ (g.taken ≤ j)) → owner i c ≡ owner j d → i ≡ j
      owner_once i j l k (inl a) (inl b) e =
          let x = (g.owner i a).2 in let y = (g.owner j b).2 in
          let same = ap (table_of m) e in omega arith
      owner_once i j l k (inl a) (inr b) e = absurd (not_new i a e)
      owner_once i j l k (inr a) (inl b) e = absurd (not_new j b (sym e))
      owner_once i j l k (inr a) (inr b) e = omega arith

  cell_kept : (p : ℕ) → p ≢ q → table_of with_new p ≡ table_of m p
  cell_kept p ne =
      load_beside 8 8 counted_memory (page_cell q) (page_cell p) new_table
      (⊎_elim (λ l. inl (omega arith)) (λ l. inr (omega (arith, ne))) (cases_lt p q))
      ∙ load_beside 8 8 m taken_cell (page_cell p) (16384 * (g.taken + 1)) (inr (omega arith))

  pub new_here : table_of with_new q ≡ new_table
  new_here =
      let few = lie.few in let less = one_left in
      load_stored 8 counted_memory (page_cell q) new_table (omega arith)

  behind_kept : (b : ℕ) → first_table s ≤ b → with_new b ≡ m b
  behind_kept b l =
      store_beside 8 counted_memory (page_cell q) new_table b (inr (omega arith))
      ∙ store_beside 8 m taken_cell (16384 * (g.taken + 1)) b (inr (omega arith))

  pub take_good : AreTablesGood s with_new
  take_good =
      let less = one_left in let few = lie.few in
      record {
        taken = suc g.taken;
        within = less;
        counted = load_beside 8 8 counted_memory (page_cell q) taken_cell new_table (inl (omega arith))
            ∙ load_stored 8 m taken_cell (16384 * (g.taken + 1)) (omega arith) ∙ omega arith;
        table = λ p l ne. ⊎_elim
            (λ e. (g.taken, omega arith, subst (λ x. table_of with_new x ≡ new_table) (sym e) new_here))
            (λ other. (let t = g.table p l (λ z. ne (cell_kept p other ∙ z)) in
            let below = t.1 in (t.0, omega arith, cell_kept p other ∙ t.2)))
            (cases_eq p q);
        owner = λ i l. ⊎_elim
            (λ old. (let o = g.owner i old in
            let other : o.0 ≢ q = λ e. (let at = o.2 in let z = ap (table_of m) e ∙ none in omega arith) in
            (o.0, o.1, cell_kept o.0 other ∙ o.2)))
            (λ last. (
              q,
              page,
              new_here ∙ (let e : g.taken ≡ i = omega arith in
                  ap (λ x. first_table s + 16384 * x) e),
            ))
            (cases_lt i g.taken);
        once = λ p r pl rl ne same. ⊎_elim
            (λ e. ⊎_elim (λ f. e ∙ sym f)
            (λ other. absurd (own_table r rl other (sym same ∙ ap (table_of with_new) e ∙ new_here)))
            (cases_eq r q))
            (λ other. ⊎_elim
            (λ f. absurd (own_table p pl other (same ∙ ap (table_of with_new) f ∙ new_here)))
            (λ too. g.once p r pl rl (λ z. ne (cell_kept p other ∙ z))
            (sym (cell_kept p other) ∙ same ∙ cell_kept r too))
            (cases_eq r q))
            (cases_eq p q);
        reserve = λ a l h. behind_kept a (omega arith) ∙ g.reserve a (omega arith) h;
      }
    where
      own_table : (p : ℕ) → p < pages s → p ≢ q → table_of with_new p ≢ new_table
      own_table p l other e =
          let at = sym (cell_kept p other) ∙ e in
          let t = g.table p l (λ z. omega arith) in let below = t.1 in let place = t.2 in omega arith

  pub take_within : KeepsButShadow s m with_new
  take_within =
      let r = lie.room in
      keeps_both spaces_begin (region_size s Shadow) m counted_memory with_new
      (keeps_within taken_cell 8 spaces_begin (region_size s Shadow) m counted_memory (omega arith) (omega arith)
      (store_beside 8 m taken_cell (16384 * (g.taken + 1))))
      (keeps_within (page_cell q) 8 spaces_begin (region_size s Shadow) counted_memory with_new (omega arith)
      (omega arith) (store_beside 8 counted_memory (page_cell q) new_table))

  -- no entry changes
  pub take_entries : (b : ℕ) → IsObjectWord s b → two_level_entry with_new b ≡ two_level_entry m b
  take_entries b wb = ⊎_elim
      (λ e.
      let less = one_left in let o = offset_below s b wb in
      let now : table_of with_new (page_of b) ≡ new_table = ap (table_of with_new) e ∙ new_here in
      let before : table_of m (page_of b) ≡ 0 = ap (table_of m) e ∙ none in
      ap (λ t. in_table with_new t (entry_offset b)) now
      ∙ with_table with_new new_table (entry_offset b) (λ z. omega arith)
      ∙ zero_entry with_new (new_table + entry_offset b) (λ i l.
      behind_kept (new_table + entry_offset b + i) (omega arith)
      ∙ g.reserve (new_table + entry_offset b + i) (omega arith) (omega arith))
      ∙ sym (no_table m (table_of m (page_of b)) (entry_offset b) before))
      (λ ne. entry_kept m with_new b (cell_kept (page_of b) ne) (λ some i l.
      let t = g.table (page_of b) (page_below s b lie wb) some in let at = t.2 in
      behind_kept (table_of m (page_of b) + entry_offset b + i) (omega arith)))
      (cases_eq (page_of b) q)
