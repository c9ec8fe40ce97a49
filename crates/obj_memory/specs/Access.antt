-- Reads and writes. Numbers are little endian. A pointer at a multiple of 8 has its tag in the word there; at any other
-- place it is bytes alone.
use Rattle.std.specs.Prelude.{ℕ, ◌+◌, ◌-◌, ◌*◌, ◌/◌, ◌%◌, Bool, ◌&&◌, ◌==◌, nat_le, if◌then◌else◌, List, [], ◌∷◌}
use Rattle.std.specs.Prelude.{◌++◌, length, take, drop, get_or, set}
use Rattle.byteorder.specs.Endian.{little_bytes, little_number}
use Rattle.obj_memory.specs.declared.value.Tag.{Tag}
use Rattle.obj_memory.specs.declared.value.Tag.TheVariants.{Untagged}
use Rattle.obj_memory.specs.declared.value.Value.{Value}
use Rattle.obj_memory.specs.declared.value.Place.{Place}
use Rattle.obj_memory.specs.declared.value.Scalar.{Scalar}
use Rattle.obj_memory.specs.declared.value.Scalar.TheVariants.{Integer, Pointer}
use Rattle.obj_memory.specs.Integers.{size_of, fit}
use Rattle.obj_memory.specs.Objects.{Objects, object_at}

-- a list with other elements from a place on
abbrev pub overwrite : {A : Type 0} → (start : ℕ) → (new old : List A) → List A
overwrite start new old = take start old ++ (new ++ drop (start + length new) old)

-- some bytes from a place on
abbrev pub bytes_at : (size : ℕ) → Place → Objects → List ℕ
bytes_at size p objects = take size (drop p.offset (object_at objects p.object).bytes)

-- whether a word begins at an offset
abbrev pub is_aligned : (offset : ℕ) → Bool
is_aligned offset = offset % 8 == 0

-- the tag of a word of an object
abbrev pub tag_of : (object word : ℕ) → Objects → Tag
tag_of object word objects = get_or (object_at objects object).tags word Untagged

-- the tag of the word at a place, none where none begins there
abbrev pub tag_at : Place → Objects → Tag
tag_at p objects = if is_aligned p.offset then tag_of p.object (p.offset / 8) objects else Untagged

-- the number of bytes of a scalar
abbrev pub scalar_size : Scalar → ℕ
scalar_size (Integer t) = size_of t
scalar_size Pointer = 8

-- what is read of a scalar: its bytes, and of a pointer the tag of the word there
unfoldable pub read_value : Scalar → Place → Objects → Value
read_value (Integer t) p objects = record {
  word = fit t (little_number (size_of t)
      (bytes_at (size_of t) p objects));
  tag = Untagged;
}
read_value Pointer p objects = record { word = little_number 8 (bytes_at 8 p objects); tag = tag_at p objects }

-- bytes written, which leaves the tags
unfoldable pub write_bytes : List ℕ → Place → Objects → Objects
write_bytes new p objects =
    let o = object_at objects p.object in
    set objects p.object (record o { bytes = overwrite p.offset new o.bytes })

-- the tag of a word set
unfoldable pub write_tag : Tag → Place → Objects → Objects
write_tag t p objects =
    let o = object_at objects p.object in
    if is_aligned p.offset then set objects p.object (record o { tags = set o.tags (p.offset / 8) t }) else objects

-- a scalar written: its bytes, and of a pointer the tag of the word there
unfoldable pub write_value : Scalar → Value → Place → Objects → Objects
write_value (Integer t) v p objects = write_bytes (little_bytes (size_of t) v.word) p objects
write_value Pointer v p objects = write_tag v.tag p (write_bytes (little_bytes 8 v.word) p objects)

-- what a scalar at a place keeps of a value that is written to it
unfoldable pub kept_value : Scalar → Value → Place → Value
kept_value (Integer t) v p = record { word = fit t v.word; tag = Untagged }
kept_value Pointer v p = record { word = v.word; tag = if is_aligned p.offset then v.tag else Untagged }

-- whether the word of a number lies in a range
abbrev pub is_word_in : (start size word : ℕ) → Bool
is_word_in start size word = nat_le start (8 * word) && nat_le (8 * word + 8) (start + size)

-- the tags from the word of a number on, after a range was moved there: a word in the range has the tag of its source
abbrev pub moved_tags : (size start source : ℕ) → (from : List Tag) → (word : ℕ) → List Tag → List Tag
moved_tags size start source from word [] = []
moved_tags size start source from word (t ∷ ts) =
    (if is_word_in start size word then get_or from ((8 * word - start + source) / 8) Untagged else t)
    ∷ moved_tags size start source from (word + 1) ts

-- a range of bytes moved from one place to another, as by memmove (C99 7.21.2.2), with the tags of whole words where
-- both places are equal modulo 8
unfoldable pub move_range : (size : ℕ) → (destination source : Place) → Objects → Objects
move_range size d s objects =
    let o = object_at objects d.object in
    let from = object_at objects s.object in
    let tags = if d.offset % 8 == s.offset % 8 then moved_tags size d.offset s.offset from.tags 0 o.tags else o.tags in
    set objects d.object (record o { bytes = overwrite d.offset (bytes_at size s objects) o.bytes; tags = tags })
