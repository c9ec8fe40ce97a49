-- What an interpreter keeps of objects: those that are live, and of a dead one neither bytes nor tags.
use Rattle.std.specs.Prelude.{ℕ, ◌+◌, ◌-◌, ◌/◌, ◌%◌, Bool, false, ◌&&◌, nat_le, if◌then◌else◌, List, [], ◌∷◌, map}
use Rattle.std.specs.Prelude.{set, length, take, drop}
use Rattle.std.specs.Prelude.{replicate, Option, Some, None}
use Rattle.byteorder.specs.Endian.{little_bytes}
use Rattle.obj_memory.specs.declared.value.Place.{Place}
use Rattle.obj_memory.specs.declared.value.Scalar.{Scalar}
use Rattle.obj_memory.specs.declared.value.Scalar.TheVariants.{Integer, Pointer}
use Rattle.obj_memory.specs.declared.value.Tag.{Tag}
use Rattle.obj_memory.specs.declared.value.Tag.TheVariants.{Untagged}
use Rattle.obj_memory.specs.declared.value.Value.{Value}
use Rattle.obj_memory.specs.Access.{is_aligned, move_range, overwrite, read_value, scalar_size, write_bytes}
use Rattle.obj_memory.specs.Access.{write_value}
use Rattle.obj_memory.specs.Integers.{size_of}
use Rattle.obj_memory.specs.Objects.{ObjectState, Objects, object_at, with_zeroed}
use Rattle.source_meaning.specs.Structures.{put_range}

-- a dead object without what it held
unfoldable pub buried : ObjectState → ObjectState
buried o = record o { is_live = false; bytes = []; tags = [] }

unfoldable pub kept_object : ObjectState → ObjectState
kept_object o = if o.is_live then o else buried o

unfoldable pub kept : Objects → Objects
kept objects = map kept_object objects

-- the objects after one died
unfoldable pub with_buried : ℕ → Objects → Objects
with_buried n objects = set objects n (buried (object_at objects n))

-- an object that is live has some bytes from an offset on
unfoldable pub has_bytes : (offset size : ℕ) → ObjectState → Bool
has_bytes offset size o = o.is_live && nat_le (offset + size) (length o.bytes)

-- the same with the tags of the whole words among them
unfoldable pub has_range : (offset size : ℕ) → ObjectState → Bool
has_range offset size o = has_bytes offset size o && nat_le ((offset + size) / 8) (length o.tags)

-- the same bytes of a place
unfoldable pub is_there : (size : ℕ) → Place → Objects → Bool
is_there size p objects = has_bytes p.offset size (object_at objects p.object)

-- a scalar read of one object, where its bytes are there, and one with a scalar written
unfoldable pub read_in : Scalar → (offset : ℕ) → ObjectState → Value
read_in k offset o = read_value k (record { object = 0; offset = offset }) (o ∷ [])

unfoldable pub found_in : Scalar → (offset : ℕ) → ObjectState → Option Value
found_in k offset o = if has_bytes offset (scalar_size k) o then Some (read_in k offset o) else None

abbrev pub with_bytes : (offset : ℕ) → List ℕ → ObjectState → ObjectState
with_bytes offset new o = record o { bytes = overwrite offset new o.bytes }

abbrev pub with_tag : (offset : ℕ) → Tag → ObjectState → ObjectState
with_tag offset t o = if is_aligned offset then record o { tags = set o.tags (offset / 8) t } else o

unfoldable pub written_in : Scalar → Value → (offset : ℕ) → ObjectState → ObjectState
written_in (Integer t) v offset o = with_bytes offset (little_bytes (size_of t) v.word) o
written_in Pointer v offset o = with_tag offset v.tag (with_bytes offset (little_bytes 8 v.word) o)

-- an object with zero bytes and no tags
unfoldable pub zeroed : ObjectState → ObjectState
zeroed o = record o { bytes = replicate o.size 0; tags = replicate (o.size / 8) Untagged }

-- the words of an object from that of an offset on, up to the end of a range of bytes
unfoldable pub part_of : (offset size : ℕ) → ObjectState → ObjectState
part_of offset size o = record o {
  bytes = take (offset % 8 + size) (drop (offset - offset % 8) o.bytes);
  tags = take ((offset % 8 + size) / 8) (drop (offset / 8) o.tags);
}

-- what is read and written among all objects where its bytes are there
unfoldable pub found : Scalar → Place → Objects → Option Value
found k p objects = if is_there (scalar_size k) p objects then Some (read_value k p objects) else None

unfoldable pub with_written : Scalar → Value → Place → Objects → Objects
with_written k v p objects = if is_there (scalar_size k) p objects then write_value k v p objects else objects

-- bytes written, which leaves the tags
unfoldable pub with_bytes_put : List ℕ → Place → Objects → Objects
with_bytes_put bytes p objects = if is_there (length bytes) p objects then write_bytes bytes p objects else objects

-- ranges of bytes with their tags, moved between objects or from contents, and an object with zero bytes, where a live
-- object has all that is read and written
unfoldable pub is_movable : (size : ℕ) → (destination source : Place) → Objects → Bool
is_movable size d s objects =
    has_range s.offset size (object_at objects s.object) && has_range d.offset size (object_at objects d.object)

unfoldable pub with_moved : (size : ℕ) → (destination source : Place) → Objects → Objects
with_moved size d s objects = if is_movable size d s objects then move_range size d s objects else objects

unfoldable pub is_puttable : (size : ℕ) → (destination : Place) → (source : ℕ) → ObjectState → Objects → Bool
is_puttable size d source c objects = has_range source size c && has_range d.offset size (object_at objects d.object)

unfoldable pub with_put : (size : ℕ) → (destination : Place) → (source : ℕ) → ObjectState → Objects → Objects
with_put size d source c objects =
    if is_puttable size d source c objects then put_range size d source c objects else objects

unfoldable pub with_cleared : ℕ → Objects → Objects
with_cleared n objects = if (object_at objects n).is_live then with_zeroed n objects else objects
