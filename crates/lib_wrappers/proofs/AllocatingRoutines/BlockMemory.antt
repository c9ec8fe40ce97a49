-- The memory while a block is made: its row, then its key, then its bytes.
use Rattle.std.proofs.Common.{◌≡◌, ℕ, suc, ◌+◌, inl, inr, sym, ap, ◌∙◌, arith}
use Rattle.addr_map.specs.declared.region.Region.TheVariants.{Locks, Blocks}
use Rattle.addr_map.specs.Places.{MapSizes, AreMapped, spaces_begin, region_start}
use Rattle.flat_code.specs.Memory.{Bytes, load}
use Rattle.flat_code.specs.Routines.Metadata.{View, KeepsShadow}
use Rattle.flat_code.proofs.Routines.Regions.{DoSpacesFollow, spaces_follow}
use Rattle.flat_code.proofs.Routines.Words.{IsLocal}
use Rattle.flat_code.specs.Routines.Objects.StandsFor.{IsLock}
use Rattle.flat_code.proofs.Routines.Objects.Changing.{global_is_lock}
use Rattle.lock_space.specs.Locks.{key_counter, AreLocksGood, KeepsButLocks, KeepsLocks}
use Rattle.lock_space.specs.Routines.{OtherLocksStay}
use Rattle.lock_space.proofs.Spaces.{locks_laid_out}
use Rattle.lock_space.proofs.Local.{lock_kept, counter_kept, good_kept as locks_kept}
use Rattle.heap_space.specs.Rows.{with_row, without_row}
use Rattle.heap_space.specs.Table.{block_rows, IsTableGood, KeepsButTable, KeepsTable}
use Rattle.heap_space.proofs.Regions.{table_laid_out}
use Rattle.heap_space.proofs.Local.{rows_kept, good_kept as table_kept}
use Rattle.flat_actions.specs.Actions.{AreSpacesGood}
use Rattle.lib_wrappers.specs.AllocatingRoutines.Zeroing.{IsZeroed}
use Rattle.lib_wrappers.specs.AllocatingRoutines.Births.{IsKeyTaken, IsBlockMade, IsRangeMade}
use Rattle.lib_wrappers.specs.AllocatingRoutines.Freeing.{IsBlockEnded}

module _ (map : MapSizes) (mapped : AreMapped map) (entry : View) (IsGood : Bytes → Type 0)
    (local : IsLocal map entry IsGood) where
  lie : DoSpacesFollow map
  lie = spaces_follow map

  -- ---- where only the table of blocks changes

  pub shadow_by_table : (m m' : Bytes) → KeepsButTable map m m' → KeepsShadow map m m'
  shadow_by_table m m' keep i l = keep (spaces_begin + i) (inl (let a = lie.shadow in let b = lie.locks in omega arith))

  pub locks_by_table : (m m' : Bytes) → KeepsButTable map m m' → KeepsLocks map m m'
  locks_by_table m m' keep i l = keep (region_start map Locks + i) (inl (omega arith))

  pub good_by_table : (m m' : Bytes) → KeepsButTable map m m' → AreSpacesGood map IsGood m → IsTableGood map m'
      → AreSpacesGood map IsGood m'
  good_by_table m m' keep g table = record {
    shadow = (local m m' (shadow_by_table m m' keep) g.shadow).0;
    locks = locks_kept map m m' (locks_laid_out map mapped) (locks_by_table m m' keep) (global_is_lock map mapped)
        g.locks;
    table = table;
  }

  -- ---- where only the lock space changes

  pub shadow_by_locks : (m m' : Bytes) → KeepsButLocks map m m' → KeepsShadow map m m'
  shadow_by_locks m m' keep i l = keep (spaces_begin + i) (inl (let a = lie.shadow in omega arith))

  pub table_by_locks : (m m' : Bytes) → KeepsButLocks map m m' → KeepsTable map m m'
  table_by_locks m m' keep i l = keep (region_start map Blocks + i) (inr (let a = lie.locks in omega arith))

  pub good_by_locks : (m m' : Bytes) → KeepsButLocks map m m' → AreSpacesGood map IsGood m → AreLocksGood map m'
      → AreSpacesGood map IsGood m'
  good_by_locks m m' keep g locks = record {
    shadow = (local m m' (shadow_by_locks m m' keep) g.shadow).0;
    locks = locks;
    table = table_kept map m m' (table_laid_out map mapped) (table_by_locks m m' keep) g.table;
  }

  -- ---- a block is made

  module _ (p z lock : ℕ) (m0 m1 m2 m3 : Bytes) (good : AreSpacesGood map IsGood m0)
      (placed : block_rows map m1
      ≡ with_row (record { start = p; size = z; key = key_counter map m0 }) (block_rows map m0))
      (table : KeepsButTable map m0 m1) (good1 : AreSpacesGood map IsGood m1)
      (key : IsKeyTaken map lock m1 m2) (taken : KeepsButLocks map m1 m2) (good2 : AreSpacesGood map IsGood m2)
      (zeroed : IsZeroed map entry p z m2 m3) (good3 : AreSpacesGood map IsGood m3) where
    same_lock : (a : ℕ) → IsLock map a → load 8 m1 a ≡ load 8 m0 a
    same_lock a l = lock_kept map m0 m1 (locks_laid_out map mapped) (locks_by_table m0 m1 table) a l

    locks_after : KeepsLocks map m2 m3
    locks_after i l = zeroed.spaces (region_start map Locks + i) (omega arith)

    lock_after : (a : ℕ) → IsLock map a → load 8 m3 a ≡ load 8 m2 a
    lock_after a l = lock_kept map m2 m3 (locks_laid_out map mapped) locks_after a l

    same_counter : key_counter map m1 ≡ key_counter map m0
    same_counter = counter_kept map m0 m1 (locks_laid_out map mapped) (locks_by_table m0 m1 table)

    table_after : KeepsTable map m2 m3
    table_after i l = zeroed.spaces (region_start map Blocks + i) (let a = lie.locks in omega arith)

    pub block_made : IsBlockMade map entry IsGood p z lock m0 m3
    block_made = record {
      range = record {
        zeros = zeroed.zeros;
        low = λ b l out. zeroed.beside b l out ∙ taken b (inl (let a = lie.shadow in omega arith))
            ∙ table b (inl (let a = lie.shadow in let c = lie.locks in omega arith));
        cleared = zeroed.cleared;
        entries = λ b word out. zeroed.entries b word out
            ∙ (local m1 m2 (shadow_by_locks m1 m2 taken) good1.shadow).1 b word
            ∙ (local m0 m1 (shadow_by_table m0 m1 table) good.shadow).1 b word;
      };
      key = record {
        was_free = (let f = key.was_free in record {
          lock = f.lock;
          not_global = f.not_global;
          empty = sym (same_lock lock f.lock) ∙ f.empty;
        });
        locked = lock_after lock key.was_free.lock ∙ key.locked ∙ same_counter;
        others = λ a l ne. lock_after a l ∙ key.others a l ne ∙ same_lock a l;
        counter = counter_kept map m2 m3 (locks_laid_out map mapped) locks_after ∙ key.counter ∙ ap suc same_counter;
      };
      rows = rows_kept map m2 m3 (table_laid_out map mapped) table_after good2.table
          ∙ rows_kept map m1 m2 (table_laid_out map mapped) (table_by_locks m1 m2 taken) good1.table ∙ placed;
      good = good3;
      behind = λ b l. (let a = lie.table in let c = lie.locks in
          zeroed.spaces b (omega arith) ∙ taken b (inr (omega arith)) ∙ table b (inr (omega arith)));
    }

  -- ---- a range of the object stack becomes objects

  pub range_made : (first bytes lock : ℕ) (m0 m1 m2 : Bytes) → AreSpacesGood map IsGood m0
      → IsKeyTaken map lock m0 m1 → KeepsButLocks map m0 m1 → AreSpacesGood map IsGood m1
      → IsZeroed map entry first bytes m1 m2 → AreSpacesGood map IsGood m2
      → IsRangeMade map entry IsGood first bytes lock m0 m2
  range_made first bytes lock m0 m1 m2 good key taken good1 zeroed good2 =
      let words = locks_laid_out map mapped in
      let locks : KeepsLocks map m1 m2 = λ i l. zeroed.spaces (region_start map Locks + i) (omega arith) in
      let table : KeepsTable map m1 m2 = λ i l. zeroed.spaces (region_start map Blocks + i)
      (let a = lie.locks in omega arith) in
      record {
        range = record {
          zeros = zeroed.zeros;
          low = λ b l out. zeroed.beside b l out ∙ taken b (inl (let a = lie.shadow in omega arith));
          cleared = zeroed.cleared;
          entries = λ b word out. zeroed.entries b word out
              ∙ (local m0 m1 (shadow_by_locks m0 m1 taken) good.shadow).1 b word;
        };
        key = record {
          was_free = key.was_free;
          locked = lock_kept map m1 m2 words locks lock key.was_free.lock ∙ key.locked;
          others = λ a l ne. lock_kept map m1 m2 words locks a l ∙ key.others a l ne;
          counter = counter_kept map m1 m2 words locks ∙ key.counter;
        };
        rows = rows_kept map m1 m2 (table_laid_out map mapped) table good1.table
            ∙ rows_kept map m0 m1 (table_laid_out map mapped) (table_by_locks m0 m1 taken) good.table;
        good = good2;
        behind = λ b l. (let a = lie.table in let c = lie.locks in
            zeroed.spaces b (omega arith) ∙ taken b (inr (omega arith)));
      }

  -- ---- a block is taken from the table, and its lock word released

  pub block_ended : (start lock : ℕ) (m0 m1 m2 : Bytes) → AreSpacesGood map IsGood m0 → IsLock map lock
      → block_rows map m1 ≡ without_row start (block_rows map m0) → KeepsButTable map m0 m1 → IsTableGood map m1
      → key_counter map m2 ≡ key_counter map m1 → load 8 m2 lock ≡ 0 → OtherLocksStay map lock m1 m2
      → AreLocksGood map m2 → KeepsButLocks map m1 m2 → IsBlockEnded map entry IsGood start lock m0 m2
  block_ended start lock m0 m1 m2 good is_lock rows table good_table counter released others locks keep =
      let good1 = good_by_table m0 m1 table good good_table in
      let words = locks_laid_out map mapped in
      record {
        low = λ b l. keep b (inl (let a = lie.shadow in omega arith))
            ∙ table b (inl (let a = lie.shadow in let c = lie.locks in omega arith));
        entries = λ b word. (local m1 m2 (shadow_by_locks m1 m2 keep) good1.shadow).1 b word
            ∙ (local m0 m1 (shadow_by_table m0 m1 table) good.shadow).1 b word;
        released = released;
        others = λ a l ne. others a l ne ∙ lock_kept map m0 m1 words (locks_by_table m0 m1 table) a l;
        counter = counter ∙ counter_kept map m0 m1 words (locks_by_table m0 m1 table);
        rows = rows_kept map m1 m2 (table_laid_out map mapped) (table_by_locks m1 m2 keep) good1.table ∙ rows;
        good = good_by_locks m1 m2 keep good1 locks;
        behind = λ b l. (let a = lie.table in let c = lie.locks in keep b (inr (omega arith)) ∙ table b
            (inr (omega arith)));
      }
