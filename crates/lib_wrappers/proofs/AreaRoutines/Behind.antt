-- What changes behind the table of blocks alone: the memory stands for the same.
use Rattle.std.proofs.Common.{◌≡◌, ℕ, ◌+◌, ◌*◌, ◌<◌, sym, ◌∙◌, subst, arith}
use Rattle.addr_map.specs.declared.region.Region.TheVariants.{Locks, Blocks, StructureValues}
use Rattle.addr_map.specs.Places.{MapSizes, AreMapped, spaces_begin, region_start}
use Rattle.obj_memory.specs.Objects.{Objects, object_at}
use Rattle.source_meaning.specs.State.{State as Source}
use Rattle.flat_code.specs.Memory.{Bytes, load}
use Rattle.flat_code.specs.State.{State}
use Rattle.flat_code.specs.Routines.Metadata.{View, ShowsNothing, KeepsShadow}
use Rattle.flat_code.proofs.Routines.Regions.{DoSpacesFollow, laid_out, spaces_follow}
use Rattle.flat_code.proofs.Routines.Words.{IsLocal}
use Rattle.flat_code.specs.Routines.Objects.StandsFor.{Views, Keys, IsLock, IsTable, StandsFor}
use Rattle.flat_code.proofs.Routines.Objects.Changing.{global_is_lock, live_is_made, word_of}
use Rattle.lock_space.specs.Locks.{KeepsLocks}
use Rattle.lock_space.proofs.Spaces.{AreLocksLaidOut, locks_laid_out}
use Rattle.lock_space.proofs.Local.{lock_kept, counter_kept, good_kept as locks_kept}
use Rattle.heap_space.specs.Table.{KeepsTable}
use Rattle.heap_space.proofs.Regions.{table_laid_out}
use Rattle.heap_space.proofs.Local.{rows_kept, good_kept as table_kept}
use Rattle.flat_actions.specs.Actions.{IsFor, AreSpacesGood, views_of}
use Rattle.flat_actions.proofs.Standing.{shown_still}

module _ (map : MapSizes) (mapped : AreMapped map) (functions : ℕ) (types : ℕ → ℕ) (entry : View)
    (IsGood : Bytes → Type 0) (local : IsLocal map entry IsGood) (k : Keys) (m m' : Bytes)
    (same : (a : ℕ) → a < region_start map StructureValues → m' a ≡ m a) (good : AreSpacesGood map IsGood m) where
  abbrev g : Views
  g = views_of map functions types entry

  lie : DoSpacesFollow map
  lie = spaces_follow map

  words : AreLocksLaidOut map
  words = locks_laid_out map mapped

  shadow : KeepsShadow map m m'
  shadow i l = same (spaces_begin + i) (let a = lie.shadow in let b = lie.locks in let c = lie.table in omega arith)

  locks : KeepsLocks map m m'
  locks i l = same (region_start map Locks + i) (let c = lie.table in omega arith)

  table : KeepsTable map m m'
  table i l = same (region_start map Blocks + i) (let c = lie.table in omega arith)

  pub spaces_kept : AreSpacesGood map IsGood m'
  spaces_kept = record {
    shadow = (local m m' shadow good.shadow).0;
    locks = locks_kept map m m' words locks (global_is_lock map mapped) good.locks;
    table = table_kept map m m' (table_laid_out map mapped) table good.table;
  }

  lock_same : (a : ℕ) → IsLock map a → load 8 m' a ≡ load 8 m a
  lock_same a l = lock_kept map m m' words locks a l

  pub stands_kept : (objects : Objects) → StandsFor g k objects m → StandsFor g k objects m'
  stands_kept objects st = record {
    sound = st.sound;
    disjoint = st.disjoint;
    placed = st.placed;
    keyed = st.keyed;
    here = λ n live. (
        let p = st.placed n live in
        let first = p.first in let last = p.last in let small = (laid_out map mapped).cells in
        let room = (laid_out map mapped).small in
        record {
          bytes = λ j l. same ((object_at objects n).address + j) (
              let a = lie.shadow in let b = lie.locks in let c = lie.table in omega arith)
              ∙ (st.here n live).bytes j l;
          tags = λ w l. (local m m' shadow good.shadow).1 ((object_at objects n).address + 8 * w)
              (word_of map functions objects (object_at objects n) w (st.sound.at n) p l)
              ∙ (st.here n live).tags w l;
        });
    locks = record {
      live = λ n live. lock_same (k.held n).lock (st.keyed.each n (live_is_made objects n live)).lock
          ∙ st.locks.live n live;
      dead = λ n made dead same. st.locks.dead n made dead
          (sym (lock_same (k.held n).lock (st.keyed.each n made).lock) ∙ same);
      global = lock_same _ (global_is_lock map mapped) ∙ st.locks.global;
      unused = λ a l other none. lock_same a l ∙ st.locks.unused a l other none;
    };
    counted = counter_kept map m m' words locks ∙ st.counted;
    table = subst (IsTable k objects) (sym (rows_kept map m m' (table_laid_out map mapped) table good.table)) st.table;
  }

-- so of states
pub for_behind : (map : MapSizes) → AreMapped map → (functions : ℕ) (types : ℕ → ℕ) (entry : View)
    (IsGood : Bytes → Type 0) → IsLocal map entry IsGood → (k : Keys) (x : Source) (f f' : State)
    → ((a : ℕ) → a < region_start map StructureValues → f'.memory a ≡ f.memory a) → ShowsNothing f f'
    → IsFor (views_of map functions types entry) k IsGood x f → IsFor (views_of map functions types entry) k IsGood x f'
for_behind map mapped functions types entry IsGood local k x f f' same shows h = record {
  objects = stands_kept map mapped functions types entry IsGood local k f.memory f'.memory same h.spaces x.objects
      h.objects;
  spaces = spaces_kept map mapped functions types entry IsGood local k f.memory f'.memory same h.spaces;
  keys = h.keys;
  shown = shown_still x f f' shows h.shown;
}
