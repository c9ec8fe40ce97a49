-- What the routines take for granted of a state of the source, beside that the memory stands for its objects.
use Rattle.std.specs.Prelude.{◌≡◌, ℕ, ◌≤◌, true}
use Rattle.addr_map.specs.Places.{MapSizes}
use Rattle.obj_memory.specs.declared.object.Storage.TheVariants.{Automatic}
use Rattle.obj_memory.specs.Objects.{Objects, object_at}
use Rattle.source_meaning.specs.State.{State as Source}
use Rattle.source_meaning.specs.Keeping.{ArePlaced}

-- a live automatic object has a byte, as an object of every complete type of C has (C99 6.2.5, 6.5.3.4)
pub record HaveBytes (objects : Objects) : Type 0 where
  pub some : (n : ℕ) → (object_at objects n).is_live ≡ true → (object_at objects n).storage ≡ Automatic
      → 1 ≤ (object_at objects n).size

-- objects stand in their regions, and the automatic ones have bytes
pub record AreStanding (map : MapSizes) (source : Source) : Type 0 where
  pub placed : ArePlaced map source.objects
  pub bytes : HaveBytes source.objects
