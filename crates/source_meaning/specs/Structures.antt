-- Structures and unions by value (C99 6.5.2.2 paragraph 4, 6.8.6.4 paragraph 3). The value of a structure that is no
-- result of a call, argument or parameter stands for the place that it was read from; one that is has contents: its
-- bytes with one tag for each word, as those of an object at a multiple of 16.
use Rattle.std.specs.Prelude.{ℕ, ◌%◌, Bool, false, ◌==◌, if◌then◌else◌, List, [], ◌∷◌, map, take, drop, set, Option}
use Rattle.std.specs.Prelude.{Some, None}
use Rattle.obj_memory.specs.declared.value.Value.{Value}
use Rattle.obj_memory.specs.declared.value.Place.{Place}
use Rattle.obj_memory.specs.declared.object.Storage.TheVariants.{Automatic}
use Rattle.obj_memory.specs.Objects.{ObjectState, Objects, object_at, new_object}
use Rattle.obj_memory.specs.Judgement.{narrowed}
use Rattle.obj_memory.specs.Access.{overwrite, moved_tags, read_value}
use Rattle.c_tree.specs.declared.expression.Kind.{Kind}
use Rattle.c_tree.specs.declared.expression.Kind.TheVariants.{Void, Scalar as OfScalar, Structure, Array}
use Rattle.source_meaning.specs.State.{Rvalue, Run, ◌>>=◌, ◌>>◌, done, read_state, change, tally}
use Rattle.source_meaning.specs.Actions.{integer, located, copy_structure, read_lvalue, write_lvalue}

-- a value that has no contents
abbrev pub rvalue : Value → Rvalue
rvalue v = record { value = v; contents = None }

abbrev pub give : Value → Run Rvalue
give v = done (rvalue v)

abbrev pub as_rvalue : Run Value → Run Rvalue
as_rvalue r = do
  v ← r
  give v

-- the same of a run that gives a pointer
abbrev pub as_pointer : Run Rvalue → Run Rvalue
as_pointer r = do
  v ← r
  give v.value

abbrev pub values_of : List Rvalue → List Value
values_of vs = map (λ v. v.value) vs

-- an object into which some bytes of another were moved, from an offset there to one here; where both are equal modulo
-- 8, each whole word of the range takes the tag of its source
unfoldable pub moved_into : (size start source : ℕ) → (from to : ObjectState) → ObjectState
moved_into size start source from to = record to {
  bytes = overwrite start (take size (drop source from.bytes)) to.bytes;
  tags = if start % 8 == source % 8 then moved_tags size start source from.tags 0 to.tags else to.tags;
}

-- contents of some bytes, from an offset of an object or of other contents on
abbrev pub contents_of : (size source : ℕ) → ObjectState → ObjectState
contents_of size source from = moved_into size 0 source from (new_object Automatic 0 size)

abbrev pub with_contents : (size source : ℕ) → ObjectState → Rvalue
with_contents size source from = record { value = integer 0; contents = Some (contents_of size source from) }

-- contents moved to a place with their tags; each byte is work
unfoldable pub put_range : (size : ℕ) → (destination : Place) → (source : ℕ) → ObjectState → Objects → Objects
put_range size d source from objects = set objects d.object
    (moved_into size d.offset source from (object_at objects d.object))

abbrev pub put_contents : (size : ℕ) → (destination : Place) → (source : ℕ) → ObjectState → Run (Unit {0})
put_contents size d source c = do
  tally size
  change (λ s. record s { objects = put_range size d source c s.objects })

-- the value of a structure as an argument or a result: its contents, found at once; each byte is work
abbrev pub taken : Option ObjectState → (size : ℕ) → Value → (line : ℕ) → Run Rvalue
taken None size v line = do
  p ← located false size v line
  tally size
  read_state (λ s. with_contents size p.offset (object_at s.objects p.object))
taken (Some c) size v line = do
  tally size
  done (with_contents size v.word c)

abbrev pub take_value : Kind → (line : ℕ) → Rvalue → Run Rvalue
take_value Void line v = done v
take_value (OfScalar k) line v = done v
take_value (Structure n) line v = taken v.contents n v.value line
take_value (Array n) line v = done v

-- a structure that is assigned: moved from its place, or from its contents
abbrev pub copy_value : Option ObjectState → (size : ℕ) → (is_judged : Bool) → Value → (line : ℕ) → Value
    → Run (Unit {0})
copy_value None size is_judged p line v = copy_structure size is_judged p line v
copy_value (Some c) size is_judged p line v = do
  destination ← located is_judged size p line
  put_contents size destination v.word c

-- an lvalue of a kind gets a value; what is given is the value as it is stored, for a structure the place (6.5.16
-- paragraph 3)
abbrev pub write_rvalue : Kind → (is_judged : Bool) → Value → (line : ℕ) → Rvalue → Run Rvalue
write_rvalue Void is_judged p line v = done v
write_rvalue (OfScalar k) is_judged p line v = as_rvalue (write_lvalue (OfScalar k) is_judged p line v.value)
write_rvalue (Structure n) is_judged p line v = do
  copy_value v.contents n is_judged p line v.value
  give p
write_rvalue (Array n) is_judged p line v = done v

-- a part of contents, which is no access: a scalar, or a structure from an offset on
abbrev pub part_of : Kind → ObjectState → Value → Rvalue
part_of Void c q = rvalue (integer 0)
part_of (OfScalar k) c q = rvalue (read_value k (record { object = 0; offset = q.word }) (c ∷ []))
part_of (Structure n) c q = record { value = q; contents = Some c }
part_of (Array n) c q = rvalue (integer 0)

-- what an lvalue of a kind holds (6.3.2.1 paragraph 2), or a member of a value
abbrev pub read_part : Option ObjectState → Kind → (is_judged : Bool) → Value → (line : ℕ) → Run Rvalue
read_part None kind is_judged q line = as_rvalue (read_lvalue kind is_judged q line)
read_part (Some c) kind is_judged q line = done (part_of kind c q)

abbrev pub read_rvalue : Kind → (is_judged : Bool) → Rvalue → (line : ℕ) → Run Rvalue
read_rvalue kind is_judged q line = read_part q.contents kind is_judged q.value line

-- a member: of what a pointer points to, or of contents
abbrev pub member_of : (offset size : ℕ) → Rvalue → Rvalue
member_of offset size q = record { value = narrowed offset size q.value; contents = q.contents }

-- 0 of a kind with no tag: of a structure all bytes are 0
abbrev pub zero_of : Kind → Rvalue
zero_of Void = rvalue (integer 0)
zero_of (OfScalar k) = rvalue (integer 0)
zero_of (Structure n) = record { value = integer 0; contents = Some (new_object Automatic 0 n) }
zero_of (Array n) = rvalue (integer 0)

-- the bytes that a value of a kind has as its contents
abbrev pub contents_size : Kind → ℕ
contents_size (Structure n) = n
contents_size _ = 0

-- 0 of a kind is made; each byte of a structure is work, as where one is taken
abbrev pub make_zero : Kind → Run Rvalue
make_zero kind = do
  tally (contents_size kind)
  done (zero_of kind)
