-- The memory with which an image begins stands for the objects before the run.
use Rattle.std.proofs.Common.{◌≡◌, ◌≢◌, ℕ, zero, suc, ◌+◌, ◌*◌, ◌/◌, ◌<◌, List, [], ◌∷◌, length, get_or}
use Rattle.std.proofs.Common.{refl, sym, ap, ◌∙◌, subst, arith}
use Rattle.addr_map.specs.Places.{MapSizes, AreMapped}
use Rattle.obj_memory.specs.declared.value.Tag.{Tag}
use Rattle.obj_memory.specs.declared.value.Tag.TheVariants.{Untagged, OfFunction, OfObject}
use Rattle.obj_memory.specs.Objects.{Objects, object_at}
use Rattle.source_meaning.specs.State.{State as Source}
use Rattle.flat_code.specs.Memory.{Bytes, load}
use Rattle.flat_code.specs.State.{State}
use Rattle.flat_code.proofs.Stored.{load_kept}
use Rattle.flat_code.specs.Routines.Metadata.{View, IsObjectWord}
use Rattle.flat_code.proofs.Routines.Words.{zero_loaded}
use Rattle.flat_code.specs.Routines.Objects.StandsFor.{Views, IsLock, global_lock, spell, StandsFor}
use Rattle.flat_code.specs.Routines.Objects.Start.{start_keys, IsStart}
use Rattle.flat_code.proofs.Routines.Objects.Starts.{starts as start_stands}
use Rattle.shadow_space.specs.declared.start.StartEntry.{StartEntry}
use Rattle.shadow_space.specs.Start.{metadata_of, AreRead}
use Rattle.lock_space.proofs.Spaces.{locks_laid_out, own_lock}
use Rattle.lock_space.proofs.Local.{good_begins as locks_begin, counter_begins}
use Rattle.heap_space.proofs.Regions.{table_laid_out}
use Rattle.heap_space.proofs.Local.{good_begins as table_begins, no_rows}
use Rattle.flat_actions.specs.Actions.{views_of, AreSpacesGood, IsShown, IsFor}
use Rattle.flat_actions.specs.Start.{AreStatics, no_entry, AreEntriesOf, AreSpacesAtStart}

read_at : (entry : View) (m : Bytes) (es : List StartEntry) (i : ℕ) → i < length es → AreRead entry m es
    → entry m (get_or es i no_entry).at ≡ metadata_of (get_or es i no_entry)
read_at entry m [] i l h = absurd (omega arith)
read_at entry m (e ∷ es) zero l h = h.0
read_at entry m (e ∷ es) (suc i) l h = read_at entry m es i (omega arith) h.1

-- a tag is none or not
by_tag : (t : Tag) (P : Type 0) → (t ≡ Untagged → P) → (t ≢ Untagged → P) → P
by_tag Untagged P none some = none refl
by_tag (OfFunction f) P none some = some (λ e. (let z : OfFunction f ≡ Untagged = e in cc))
by_tag (OfObject o b) P none some = some (λ e. (let z : OfObject o b ≡ Untagged = e in cc))

module _ (map : MapSizes) (mapped : AreMapped map) (functions : ℕ) (types : ℕ → ℕ) (entry : View)
    (IsGood : Bytes → Type 0) (es : List StartEntry) (objects : Objects) (m : Bytes)
    (statics : AreStatics map functions objects m) (entries : AreEntriesOf
    (views_of map functions types entry) objects es)
    (spaces : AreSpacesAtStart map entry IsGood es m) where
  abbrev g : Views
  g = views_of map functions types entry

  word_of : (n w : ℕ) → n < length objects → w < (object_at objects n).size / 8
      → IsObjectWord map ((object_at objects n).address + 8 * w)
  word_of n w l h =
      let p = statics.placed n l in let aligned = (statics.sound.at n).aligned in
      let first = p.first in let last = p.last in
      record { first = omega arith; last = omega arith; aligned = omega arith }

  tags_there : (n w : ℕ) → n < length objects → w < (object_at objects n).size / 8
      → entry m ((object_at objects n).address + 8 * w)
      ≡ spell g (start_keys g) (get_or (object_at objects n).tags w Untagged)
  tags_there n w l h =
      let t = get_or (object_at objects n).tags w Untagged in
      by_tag t (entry m ((object_at objects n).address + 8 * w) ≡ spell g (start_keys g) t)
      (λ none. spaces.shadow.others ((object_at objects n).address + 8 * w) (word_of n w l h)
      (entries.untagged n w l h none) ∙ ap (spell g (start_keys g)) (sym none))
      (λ some.
      let has = entries.tagged n w l h some in
      ap (entry m) (sym has.word) ∙ read_at entry m es has.index has.below spaces.shadow.read ∙ has.is)

  lock_empty : (a : ℕ) → IsLock map a → a ≢ global_lock map → load 8 m a ≡ 0
  lock_empty a is ne =
      let lie = locks_laid_out map mapped in
      let own = own_lock map a lie is ne in
      let begins = own.begins in let ends = own.ends in let cells = lie.cells in let blocks = lie.blocks in
      load_kept 8 (λ b. 0) m a (λ i l. spaces.locks.zeros (a + i) (omega arith) (omega arith)) ∙ zero_loaded a

  is_start : IsStart g objects m
  is_start = record {
    sound = statics.sound;
    disjoint = statics.disjoint;
    static = statics.static;
    live = statics.live;
    placed = statics.placed;
    here = λ n l. record { bytes = statics.bytes n l; tags = λ w h. tags_there n w l h };
    global = spaces.locks.global;
    unused = lock_empty;
    counter = counter_begins map m (locks_laid_out map mapped) spaces.locks;
    blocks = no_rows map m spaces.blocks;
  }

  pub starts : (x : Source) (f : State) → x.objects ≡ objects → x.keys ≡ 0 → f.memory ≡ m → IsShown x f
      → IsFor g (start_keys g) IsGood x f
  starts x f same none memory shown =
      let stands = start_stands g objects m mapped is_start in
      record {
        objects = subst (λ o. StandsFor g (start_keys g) o f.memory) (sym same)
            (subst (StandsFor g (start_keys g) objects) (sym memory) stands);
        spaces = subst (AreSpacesGood map IsGood) (sym memory) (record {
          shadow = spaces.shadow.good;
          locks = locks_begin map m (locks_laid_out map mapped) spaces.locks;
          table = table_begins map m (table_laid_out map mapped) spaces.blocks;
        });
        keys = sym none;
        shown = shown;
      }
