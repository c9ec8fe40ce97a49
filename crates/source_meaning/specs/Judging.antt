-- Judgement as two tests, one after the other: the bounds (SoftBound's check), then the life of the object (CETS's
-- check).
use Rattle.std.specs.Prelude.{ℕ, Bool, false}
use Rattle.sb_base.specs.declared.ending.Ending.TheVariants.{Spatial, Temporal}
use Rattle.obj_memory.specs.declared.value.Tag.{Tag}
use Rattle.obj_memory.specs.declared.value.Tag.TheVariants.{Untagged, OfFunction, OfObject}
use Rattle.obj_memory.specs.declared.value.Value.{Value}
use Rattle.obj_memory.specs.Objects.{Objects, object_at}
use Rattle.obj_memory.specs.Judgement.{are_within}
use Rattle.obj_memory.specs.declared.value.Place.{Place}
use Rattle.source_meaning.specs.State.{Run, ◌>>=◌, ◌>>◌, read_state}
use Rattle.source_meaning.specs.Actions.{located}
use Rattle.source_meaning.specs.Blocks.{pass_or_stop}

-- whether some bytes from an address on are within the bounds of a tag; they are not where it has none
abbrev pub is_within : Tag → (address size : ℕ) → Bool
is_within Untagged address size = false
is_within (OfFunction f) address size = false
is_within (OfObject o b) address size = are_within b address size

-- whether the object of a tag lives
abbrev pub is_live_tag : Tag → Objects → Bool
is_live_tag Untagged objects = false
is_live_tag (OfFunction f) objects = false
is_live_tag (OfObject o b) objects = (object_at objects o).is_live

abbrev pub test_bounds : (size : ℕ) → Value → (line : ℕ) → Run (Unit {0})
test_bounds size v line = pass_or_stop (is_within v.tag v.word size) (Spatial line)

abbrev pub test_life : Value → (line : ℕ) → Run (Unit {0})
test_life v line = do
  is_live ← read_state (λ s. is_live_tag v.tag s.objects)
  pass_or_stop is_live (Temporal line)

-- an access after both tests, which then names its object
abbrev pub tested : (size : ℕ) → Value → (line : ℕ) → Run Place
tested size v line = do
  test_bounds size v line
  test_life v line
  located false size v line
