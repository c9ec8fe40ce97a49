-- A live object becomes zero where its bytes and entries do.
use Rattle.std.proofs.Common.{◌≡◌, ℕ, ◌+◌, ◌/◌, inl, inr, ⊎_elim, true, replicate, refl, sym}
use Rattle.std.proofs.Common.{◌∙◌, subst, arith}
use Rattle.addr_map.specs.declared.region.Region.TheVariants.{Locks, Blocks}
use Rattle.addr_map.specs.Places.{MapSizes, AreMapped, region_start}
use Rattle.obj_memory.specs.declared.value.Tag.TheVariants.{Untagged}
use Rattle.obj_memory.specs.Objects.{ObjectState, Objects, object_at, with_zeroed}
use Rattle.obj_memory.proofs.Keeping.{keeps_zeroed}
use Rattle.obj_memory.proofs.Listed.{every_replicate}
use Rattle.obj_memory.proofs.Making.{zeroed_object, zeroed_other}
use Rattle.obj_memory.proofs.Soundness.{sound_zeroed}
use Rattle.flat_code.specs.Memory.{Bytes}
use Rattle.flat_code.specs.Routines.Metadata.{View, no_metadata}
use Rattle.flat_code.proofs.Routines.Regions.{laid_out, spaces_follow}
use Rattle.flat_code.specs.Routines.Objects.StandsFor.{Views, Keys, spell, IsHere, StandsFor}
use Rattle.flat_code.specs.Routines.Objects.Changes.{Changes}
use Rattle.flat_code.proofs.Routines.Objects.Changing.{live_is_made, changed}
use Rattle.lock_space.proofs.Spaces.{locks_laid_out}
use Rattle.lock_space.proofs.Local.{lock_kept, counter_kept}
use Rattle.heap_space.specs.Table.{IsTableGood}
use Rattle.heap_space.proofs.Regions.{table_laid_out}
use Rattle.heap_space.proofs.Local.{rows_kept}
use Rattle.flat_actions.specs.Actions.{views_of}
use Rattle.lib_wrappers.specs.AllocatingRoutines.Zeroing.{IsZeroed}

module _ (map : MapSizes) (mapped : AreMapped map) (functions : ℕ) (types : ℕ → ℕ) (entry : View) (k : Keys)
    (objects : Objects) (n : ℕ) (m m' : Bytes) (st : StandsFor (views_of map functions types entry) k objects m)
    (table : IsTableGood map m) (live : (object_at objects n).is_live ≡ true)
    (zeroed : IsZeroed map entry (object_at objects n).address (object_at objects n).size m m') where
  abbrev g : Views
  g = views_of map functions types entry

  abbrev o : ObjectState
  o = object_at objects n

  abbrev zero_object : ObjectState
  zero_object = record o { bytes = replicate o.size 0; tags = replicate (o.size / 8) Untagged }

  here : IsHere g k m' zero_object
  here = record {
    bytes = λ j l. zeroed.zeros j l ∙ sym (every_replicate (λ x. x ≡ 0) 0 o.size 0 refl refl j);
    tags = λ w l. zeroed.cleared w l
        ∙ sym (every_replicate (λ t. spell g k t ≡ no_metadata) Untagged (o.size / 8) Untagged refl refl w);
  }

  changes : Changes g k o zero_object m m'
  changes =
      let follow = spaces_follow map in let locks = follow.locks in
      record {
        here = here;
        bytes = λ a l out. zeroed.beside a l out;
        entries = λ a word out. zeroed.entries a word (⊎_elim (λ x. inl x) (λ x. inr (omega arith)) out);
        tables = record {
          locks = λ a l. lock_kept map m m' (locks_laid_out map mapped)
              (λ i h. zeroed.spaces (region_start map Locks + i) (omega arith)) a l;
          counter = counter_kept map m m' (locks_laid_out map mapped)
              (λ i h. zeroed.spaces (region_start map Locks + i) (omega arith));
          blocks = rows_kept map m m' (table_laid_out map mapped)
              (λ i h. zeroed.spaces (region_start map Blocks + i) (omega arith)) table;
        };
      }

  pub zeroed_stands : StandsFor g k (with_zeroed n objects) m'
  zeroed_stands =
      changed g k mapped (laid_out map mapped) n objects (with_zeroed n objects) m m' st live (keeps_zeroed n objects)
      (sound_zeroed n objects st.sound) (λ j ne. zeroed_other n j objects ne)
      (subst (λ x. Changes g k o x m m') (sym (zeroed_object n objects (live_is_made objects n live))) changes)
