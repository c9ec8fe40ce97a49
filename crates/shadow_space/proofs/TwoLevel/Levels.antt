-- How the two levels lie, and an entry written in a table that is there.
use Rattle.std.proofs.Common.{◌≡◌, ◌≢◌, ℕ, ◌+◌, ◌-◌, ◌*◌, ◌<◌, ◌≤◌, ◌⊎◌, inl, inr, ⊎_elim, sym, ap, ◌∙◌, subst, arith}
use Rattle.std.proofs.lemmas.Bool.{cases_lt, cases_eq, eq-eqb, ne_eqb, cond-true, cond-false}
use Rattle.addr_map.specs.declared.region.Region.TheVariants.{Heap, Shadow, Cells}
use Rattle.addr_map.specs.Places.{MapSizes, AreMapped, objects_begin, spaces_begin, region_size, region_start}
use Rattle.addr_map.specs.Places.{region_end}
use Rattle.flat_code.specs.Memory.{Bytes, Keeps}
use Rattle.flat_code.proofs.Stored.{load_kept, kept_beside, keeps_within}
use Rattle.flat_code.specs.Routines.Metadata.{Metadata, no_metadata, metadata_at, IsObjectWord, KeepsButShadow}
use Rattle.flat_code.specs.Routines.Metadata.{KeepsShadow}
use Rattle.flat_code.proofs.Routines.Words.{store_four, IsOfFourWords, four_read, four_beside, metadata_kept}
use Rattle.shadow_space.specs.TwoLevel.Tables.{pages, page_of, entry_offset, taken_cell, page_cell, first_table}
use Rattle.shadow_space.specs.TwoLevel.Tables.{table_of}
use Rattle.shadow_space.specs.TwoLevel.Tables.{in_table, two_level_entry, AreTablesGood}

pub record AreLevelsLaidOut (s : MapSizes) : Type 0 where
  pub heap : region_end s Heap ≡ objects_begin + 4096 * pages s
  pub room : first_table s + 16384 * pages s ≤ spaces_begin + region_size s Shadow
  pub few : pages s ≤ 6144
  pub inside : spaces_begin + region_size s Shadow ≤ region_end s Cells

pub levels_laid_out : (s : MapSizes) → AreMapped s → AreLevelsLaidOut s
unfolding region_size region_start
levels_laid_out s h = record {
  heap = omega (arith, h.budgets.stack.whole, h.budgets.heap.whole);
  room = omega (arith, h.budgets.stack.whole, h.budgets.heap.whole);
  few = omega (arith, h.globals, h.budgets.stack.greatest, h.budgets.heap.greatest);
  inside = omega arith;
}

-- ---- entries by their tables

pub no_table : (m : Bytes) (t o : ℕ) → t ≡ 0 → in_table m t o ≡ no_metadata
unfolding in_table
no_table m t o e = cond-true _ no_metadata (metadata_at m (t + o)) (eq-eqb t 0 e)

pub with_table : (m : Bytes) (t o : ℕ) → t ≢ 0 → in_table m t o ≡ metadata_at m (t + o)
unfolding in_table
with_table m t o ne = cond-false _ no_metadata (metadata_at m (t + o)) (ne_eqb t 0 ne)

-- the page of a word, and the offset of its entry
pub page_below : (s : MapSizes) (a : ℕ) → AreLevelsLaidOut s → IsObjectWord s a → page_of a < pages s
page_below s a lie w = let f = w.first in let l = w.last in let h = lie.heap in omega arith

pub offset_below : (s : MapSizes) (a : ℕ) → IsObjectWord s a → entry_offset a + 32 ≤ 16384
offset_below s a w = let f = w.first in let x = w.aligned in omega arith

-- two words of one page
pub offsets_apart : (s : MapSizes) (a b : ℕ) → IsObjectWord s a → IsObjectWord s b → b ≢ a → page_of b ≡ page_of a
    → (entry_offset b + 32 ≤ entry_offset a) ⊎ (entry_offset a + 32 ≤ entry_offset b)
offsets_apart s a b wa wb ne same =
    let fa = wa.first in let fb = wb.first in let xa = wa.aligned in let xb = wb.aligned in
    ⊎_elim (λ l. inl (omega arith)) (λ l. inr (omega (arith, ne))) (cases_lt b a)

-- the entry of a word, where the first level and the table of its page are as before
pub entry_kept : (m m' : Bytes) (a : ℕ) → table_of m' (page_of a) ≡ table_of m (page_of a)
    → (table_of m (page_of a) ≢ 0 → Keeps (table_of m (page_of a) + entry_offset a) 32 m m')
    → two_level_entry m' a ≡ two_level_entry m a
entry_kept m m' a same keep =
    let t = table_of m (page_of a) in
    ap (λ x. in_table m' x (entry_offset a)) same
    ∙ ⊎_elim
    (λ e. no_table m' t (entry_offset a) e ∙ sym (no_table m t (entry_offset a) e))
    (λ ne. with_table m' t (entry_offset a) ne ∙ metadata_kept m m' (t + entry_offset a) (keep ne)
    ∙ sym (with_table m t (entry_offset a) ne))
    (cases_eq t 0)

-- ---- an entry written in a table

module _ (s : MapSizes) (lie : AreLevelsLaidOut s) (m : Bytes) (g : AreTablesGood s m) (a : ℕ) (w : IsObjectWord s a)
    (there : table_of m (page_of a) ≢ 0) (e : Metadata) where
  abbrev spot : ℕ
  spot = table_of m (page_of a) + entry_offset a

  abbrev after : Bytes
  after = store_four m spot e

  -- where it stands
  pub spot_within : (first_table s ≤ spot) × (spot + 32 ≤ first_table s + 16384 * g.taken)
  spot_within =
      let t = g.table (page_of a) (page_below s a lie w) there in
      let below = t.1 in let at = t.2 in let o = offset_below s a w in
      (omega arith, omega arith)

  pub cell_kept : (q : ℕ) → q < pages s → table_of after q ≡ table_of m q
  cell_kept q l =
      let b = spot_within in let lo = b.0 in
      load_kept 8 m after (page_cell q)
      (kept_beside spot 32 (page_cell q) 8 m after (four_beside m spot e) (inl (omega arith)))

  pub write_good : AreTablesGood s after
  write_good =
      let b = spot_within in let lo = b.0 in let hi = b.1 in
      record {
        taken = g.taken;
        within = g.within;
        counted = load_kept 8 m after taken_cell
            (kept_beside spot 32 taken_cell 8 m after (four_beside m spot e) (inl (omega arith)))
            ∙ g.counted;
        table = λ q l ne. (let t = g.table q l (λ z. ne (cell_kept q l ∙ z)) in
            (t.0, t.1, cell_kept q l ∙ t.2));
        owner = λ i l. (let o = g.owner i l in (o.0, o.1, cell_kept o.0 o.1 ∙ o.2));
        once = λ p q pl ql ne same. g.once p q pl ql (λ z. ne (cell_kept p pl ∙ z))
            (sym (cell_kept p pl) ∙ same ∙ cell_kept q ql);
        reserve = λ b l h. four_beside m spot e b (inr (omega arith)) ∙ g.reserve b l h;
      }

  pub write_within : KeepsButShadow s m after
  write_within =
      let b = spot_within in let lo = b.0 in let hi = b.1 in let r = lie.room in let t = g.within in
      keeps_within spot 32 spaces_begin (region_size s Shadow) m after (omega arith) (omega arith)
      (four_beside m spot e)

  pub write_read : IsOfFourWords e → two_level_entry after a ≡ e
  write_read words =
      let page = page_below s a lie w in
      ap (λ x. in_table after x (entry_offset a)) (cell_kept (page_of a) page)
      ∙ with_table after (table_of m (page_of a)) (entry_offset a) there
      ∙ four_read m spot e words

  pub write_others : (b : ℕ) → IsObjectWord s b → b ≢ a → two_level_entry after b ≡ two_level_entry m b
  write_others b wb ne =
      let pa = page_below s a lie w in let pb = page_below s b lie wb in
      entry_kept m after b (cell_kept (page_of b) pb) (λ some.
      let ta = g.table (page_of a) pa there in let tb = g.table (page_of b) pb some in
      let la = ta.1 in let lb = tb.1 in let ea = ta.2 in let eb = tb.2 in
      let oa = offset_below s a w in let ob = offset_below s b wb in
      kept_beside spot 32 (table_of m (page_of b) + entry_offset b) 32 m after (four_beside m spot e)
      (⊎_elim
      (λ same. (let same_table : table_of m (page_of b) ≡ table_of m (page_of a) = ap (table_of m) same in
      ⊎_elim (λ l. inl (omega arith)) (λ l. inr (omega arith)) (offsets_apart s a b w wb ne same)))
      (λ other.
      let apart : table_of m (page_of b) ≢ table_of m (page_of a) =
      λ z. other (g.once (page_of b) (page_of a) pb pa some z) in
      let differ : tb.0 ≢ ta.0 = λ z. apart (eb ∙ ap (λ i. first_table s + 16384 * i) z ∙ sym ea) in
      ⊎_elim (λ l. inl (omega arith)) (λ l. inr (omega (arith, differ))) (cases_lt tb.0 ta.0))
      (cases_eq (page_of b) (page_of a))))

-- ---- the entries depend on the region alone

pub levels_local : (s : MapSizes) (m m' : Bytes) → AreLevelsLaidOut s → KeepsShadow s m m' → AreTablesGood s m
    → AreTablesGood s m' × ((a : ℕ) → IsObjectWord s a → two_level_entry m' a ≡ two_level_entry m a)
levels_local s m m' lie keep g = (
  record {
    taken = g.taken;
    within = g.within;
    counted = load_kept 8 m m' taken_cell (λ i l. byte (taken_cell + i) (omega arith) (omega (arith, lie.room)))
        ∙ g.counted;
    table = λ q l ne. (let t = g.table q l (λ z. ne (cell q l ∙ z)) in (t.0, t.1, cell q l ∙ t.2));
    owner = λ i l. (let o = g.owner i l in (o.0, o.1, cell o.0 o.1 ∙ o.2));
    once = λ p q pl ql ne same. g.once p q pl ql (λ z. ne (cell p pl ∙ z)) (sym (cell p pl) ∙ same ∙ cell q ql);
    reserve = λ a l h. byte a (omega arith) (let r = lie.room in omega arith) ∙ g.reserve a l h;
  },
  λ a w.
      let page = page_below s a lie w in
      entry_kept m m' a (cell (page_of a) page) (λ some i l.
      let t = g.table (page_of a) page some in let below = t.1 in let at = t.2 in
      let o = offset_below s a w in let r = lie.room in let n = g.within in
      byte (table_of m (page_of a) + entry_offset a + i) (omega arith) (omega arith)),
)
  where
    byte : (a : ℕ) → spaces_begin ≤ a → a < spaces_begin + region_size s Shadow → m' a ≡ m a
    byte a lo hi =
        let e : spaces_begin + (a - spaces_begin) ≡ a = omega arith in
        subst (λ b. m' b ≡ m b) e (keep (a - spaces_begin) (omega arith))

    cell : (q : ℕ) → q < pages s → table_of m' q ≡ table_of m q
    cell q l = load_kept 8 m m' (page_cell q) (λ i h.
        byte (page_cell q + i) (omega arith) (let r = lie.room in omega arith))
