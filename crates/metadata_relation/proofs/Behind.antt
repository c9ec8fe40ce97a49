-- Memory that changes behind the runtime's spaces alone, as the cells do, stands for the same objects.
use Rattle.std.proofs.Common.{◌≡◌, ℕ, ◌+◌, ◌*◌, ◌<◌, sym, ◌∙◌, subst, arith}
use Rattle.addr_map.specs.declared.region.Region.TheVariants.{Locks, Blocks, StructureValues}
use Rattle.addr_map.specs.Places.{AreMapped, MapSizes, region_start, spaces_begin}
use Rattle.obj_memory.specs.Objects.{Objects, object_at}
use Rattle.source_meaning.specs.State.{State as Source}
use Rattle.flat_code.specs.Memory.{Bytes, load}
use Rattle.flat_code.specs.State.{State}
use Rattle.flat_code.specs.Routines.Metadata.{KeepsShadow, ShowsNothing, View}
use Rattle.flat_code.specs.Routines.Objects.StandsFor.{IsLock, IsTable, Keys, StandsFor}
use Rattle.flat_code.proofs.Routines.Objects.Changing.{global_is_lock, live_is_made, word_of}
use Rattle.flat_code.proofs.Routines.Regions.{laid_out, spaces_follow}
use Rattle.flat_code.proofs.Routines.Words.{IsLocal}
use Rattle.lock_space.specs.Locks.{KeepsLocks}
use Rattle.lock_space.proofs.Local.{counter_kept, good_kept as locks_kept, lock_kept}
use Rattle.lock_space.proofs.Spaces.{locks_laid_out}
use Rattle.heap_space.specs.Table.{KeepsTable}
use Rattle.heap_space.proofs.Local.{good_kept as table_kept, rows_kept}
use Rattle.heap_space.proofs.Regions.{table_laid_out}
use Rattle.flat_actions.specs.Actions.{AreSpacesGood, IsFor, views_of}
use Rattle.flat_actions.proofs.Standing.{shown_still}

module _ (map : MapSizes) (mapped : AreMapped map) (functions : ℕ) (types : ℕ → ℕ) (entry : View)
    (IsGood : Bytes → Type 0) (local : IsLocal map entry IsGood) (k : Keys) (m m' : Bytes)
    (same : (a : ℕ) → a < region_start map StructureValues → m' a ≡ m a) (good : AreSpacesGood map IsGood m) where
  shadow_same : KeepsShadow map m m'
  shadow_same i lt =
      let f = spaces_follow map in
      let a = f.shadow in let b = f.locks in let c = f.table in
      same (spaces_begin + i) (omega arith)

  locks_same : KeepsLocks map m m'
  locks_same i lt = let c = (spaces_follow map).table in same (region_start map Locks + i) (omega arith)

  table_same : KeepsTable map m m'
  table_same i lt = let c = (spaces_follow map).table in same (region_start map Blocks + i) (omega arith)

  spaces_still : AreSpacesGood map IsGood m'
  spaces_still = record {
    shadow = (local m m' shadow_same good.shadow).0;
    locks = locks_kept map m m' (locks_laid_out map mapped) locks_same (global_is_lock map mapped) good.locks;
    table = table_kept map m m' (table_laid_out map mapped) table_same good.table;
  }

  lock_still : (a : ℕ) → IsLock map a → load 8 m' a ≡ load 8 m a
  lock_still a is = lock_kept map m m' (locks_laid_out map mapped) locks_same a is

  stands_still : (objects : Objects) → StandsFor (views_of map functions types entry) k objects m
      → StandsFor (views_of map functions types entry) k objects m'
  stands_still objects st = record {
    sound = st.sound;
    disjoint = st.disjoint;
    placed = st.placed;
    keyed = st.keyed;
    here = λ n live.
        (let p = st.placed n live in
        let last = p.last in
        let small = (laid_out map mapped).small in
        let f = spaces_follow map in
        let a = f.shadow in let b = f.locks in let c = f.table in
        record {
          bytes = λ j lt. same ((object_at objects n).address + j) (omega arith) ∙ (st.here n live).bytes j lt;
          tags = λ w lt. (local m m' shadow_same good.shadow).1 ((object_at objects n).address + 8 * w)
              (word_of map functions objects (object_at objects n) w (st.sound.at n) p lt)
              ∙ (st.here n live).tags w lt;
        });
    locks = record {
      live = λ n live. lock_still (k.held n).lock (st.keyed.each n (live_is_made objects n live)).lock
          ∙ st.locks.live n live;
      dead = λ n made dead is. st.locks.dead n made dead
          (sym (lock_still (k.held n).lock (st.keyed.each n made).lock) ∙ is);
      global = lock_still _ (global_is_lock map mapped) ∙ st.locks.global;
      unused = λ a is other none. lock_still a is ∙ st.locks.unused a is other none;
    };
    counted = counter_kept map m m' (locks_laid_out map mapped) locks_same ∙ st.counted;
    table = subst (IsTable k objects) (sym (rows_kept map m m' (table_laid_out map mapped) table_same good.table)) st.table;
  }

-- so of states
pub for_behind : (map : MapSizes) → AreMapped map → (functions : ℕ) (types : ℕ → ℕ) (entry : View)
    (IsGood : Bytes → Type 0) → IsLocal map entry IsGood → (k : Keys) (x : Source) (f f' : State)
    → ((a : ℕ) → a < region_start map StructureValues → f'.memory a ≡ f.memory a) → ShowsNothing f f'
    → IsFor (views_of map functions types entry) k IsGood x f → IsFor (views_of map functions types entry) k IsGood x f'
for_behind map mapped functions types entry IsGood local k x f f' same shows h = record {
  objects = stands_still map mapped functions types entry IsGood local k f.memory f'.memory same h.spaces x.objects
      h.objects;
  spaces = spaces_still map mapped functions types entry IsGood local k f.memory f'.memory same h.spaces;
  keys = h.keys;
  shown = shown_still x f f' shows h.shown;
}
