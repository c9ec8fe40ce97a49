-- A shadow space of zero bytes.
use Rattle.std.proofs.Common.{◌≡◌, ℕ, ◌+◌, ◌<◌, ◌≤◌, ◌∙◌, arith}
use Rattle.addr_map.specs.declared.region.Region.TheVariants.{Shadow}
use Rattle.addr_map.specs.Places.{MapSizes, spaces_begin, region_size}
use Rattle.flat_code.specs.Memory.{Bytes, load}
use Rattle.flat_code.proofs.Stored.{load_kept}
use Rattle.flat_code.specs.Routines.Metadata.{no_metadata, IsObjectWord}
use Rattle.shadow_space.specs.TwoLevel.Tables.{pages, page_of, entry_offset, taken_cell, page_cell, table_of}
use Rattle.shadow_space.specs.TwoLevel.Tables.{two_level_entry, AreTablesGood}
use Rattle.shadow_space.proofs.TwoLevel.Levels.{AreLevelsLaidOut, no_table, page_below}

-- a word of zero bytes
zero_word : (m : Bytes) (a : ℕ) → ((i : ℕ) → i < 8 → m (a + i) ≡ 0) → load 8 m a ≡ 0
unfolding load
zero_word m a h = load_kept 8 (λ x. 0) m a h

module _ (s : MapSizes) (m : Bytes) (lie : AreLevelsLaidOut s)
    (zeros : (a : ℕ) → spaces_begin ≤ a → a < spaces_begin + region_size s Shadow → m a ≡ 0) where
  cell_zero : (q : ℕ) → q < pages s → table_of m q ≡ 0
  cell_zero q l =
      let r = lie.room in
      zero_word m (page_cell q) (λ i h. zeros (page_cell q + i) (omega arith) (omega arith))

  pub zeros_good : AreTablesGood s m
  zeros_good =
      let r = lie.room in
      record {
        taken = 0;
        within = omega arith;
        counted = zero_word m taken_cell (λ i h. zeros (taken_cell + i) (omega arith) (omega arith)) ∙ omega arith;
        table = λ q l ne. absurd (ne (cell_zero q l));
        owner = λ i l. absurd (omega arith);
        once = λ p q pl ql ne same. absurd (ne (cell_zero p pl));
        reserve = λ a lo hi. zeros a (omega arith) (omega arith);
      }

  pub zeros_none : (a : ℕ) → IsObjectWord s a → two_level_entry m a ≡ no_metadata
  zeros_none a w =
      no_table m (table_of m (page_of a)) (entry_offset a) (cell_zero (page_of a) (page_below s a lie w))
