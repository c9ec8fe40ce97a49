-- The table by its bytes, and when a run begins.
use Rattle.std.proofs.Common.{◌≡◌, ℕ, ◌+◌, ◌-◌, ◌*◌, ◌<◌, ◌≤◌, [], sym, ap, ◌∙◌, subst, arith}
use Rattle.addr_map.specs.declared.region.Region.TheVariants.{Heap, Blocks}
use Rattle.addr_map.specs.Places.{MapSizes, region_size, region_start, region_end}
use Rattle.flat_code.specs.Memory.{Bytes, load}
use Rattle.flat_code.proofs.Stored.{load_kept}
use Rattle.flat_code.specs.Routines.Metadata.{metadata_at}
use Rattle.flat_code.proofs.Routines.Words.{metadata_kept}
use Rattle.heap_space.specs.Rows.{AreInOrder}
use Rattle.heap_space.specs.Table.{total_cell, row_cell, block_total, rows_from, block_rows, IsTableGood}
use Rattle.heap_space.specs.Table.{KeepsTable}
use Rattle.heap_space.proofs.Regions.{IsTableLaidOut}
use Rattle.heap_space.proofs.Lists.{rows_same, end_same}

module _ (s : MapSizes) (m m' : Bytes) (lie : IsTableLaidOut s) (keep : KeepsTable s m m') (g : IsTableGood s m) where
  byte_kept : (a : ℕ) → region_start s Blocks ≤ a → a < region_start s Blocks + region_size s Blocks → m' a ≡ m a
  byte_kept a lo hi =
      let e : region_start s Blocks + (a - region_start s Blocks) ≡ a = omega arith in
      subst (λ b. m' b ≡ m b) e (keep (a - region_start s Blocks) (omega arith))

  total_kept : block_total s m' ≡ block_total s m
  total_kept =
      let e = lie.ends in
      load_kept 8 m m' (total_cell s) (λ i l. byte_kept (total_cell s + i) (omega arith) (omega arith))

  row_kept : (j : ℕ) → j < block_total s m → metadata_at m' (row_cell s j) ≡ metadata_at m (row_cell s j)
  row_kept j l =
      let e = lie.ends in let f = g.few in
      metadata_kept m m' (row_cell s j) (λ i h. byte_kept (row_cell s j + i) (omega arith) (omega arith))

  pub rows_kept : block_rows s m' ≡ block_rows s m
  rows_kept =
      ap (rows_from m' (row_cell s 0)) total_kept
      ∙ rows_same m m' (row_cell s 0) (row_cell s 0) (block_total s m) (λ j l.
      let e : row_cell s 0 + 32 * j ≡ row_cell s j = omega arith in
      subst (λ a. metadata_at m' a ≡ metadata_at m a) (sym e) (row_kept j l))

  pub good_kept : IsTableGood s m'
  good_kept =
      let t = total_kept in let f = g.few in
      record {
        few = omega arith;
        in_order = subst (AreInOrder (region_start s Heap) (region_end s Heap)) (sym rows_kept) g.in_order;
        ends = λ j l. end_same m m' (row_cell s j) (row_cell s j) (row_kept j (omega arith)) (g.ends j (omega arith));
      }

pub no_rows : (s : MapSizes) (m : Bytes) → load 8 m (total_cell s) ≡ 0 → block_rows s m ≡ []
no_rows s m e = ap (rows_from m (row_cell s 0)) e

pub good_begins : (s : MapSizes) (m : Bytes) → IsTableLaidOut s → load 8 m (total_cell s) ≡ 0 → IsTableGood s m
good_begins s m lie e =
    let h = lie.heap_some in
    record {
      few = omega arith;
      in_order = subst (AreInOrder (region_start s Heap) (region_end s Heap)) (sym (no_rows s m e)) (omega arith);
      ends = λ j l. absurd (omega arith);
    }
