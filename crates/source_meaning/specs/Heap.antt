-- `malloc`, `calloc`, `free` and `realloc` (C99 7.20.3).
use Rattle.std.specs.Prelude.{ℕ, ◌+◌, ◌*◌, ◌^◌, min, Bool, false, ◌&&◌, ◌==◌, nat_lt, if◌then◌else◌, Option, Some, None}
use Rattle.sb_base.specs.declared.ending.Ending.TheVariants.{Temporal, BadFree}
use Rattle.obj_memory.specs.declared.object.Storage.TheVariants.{Allocated}
use Rattle.obj_memory.specs.declared.value.Tag.{Tag}
use Rattle.obj_memory.specs.declared.value.Tag.TheVariants.{Untagged, OfFunction, OfObject}
use Rattle.obj_memory.specs.declared.value.Value.{Value}
use Rattle.obj_memory.specs.Objects.{ObjectState, Objects, object_at, with_dead, pointer_to}
use Rattle.obj_memory.specs.Heap.{is_allocated, block_count, least_place}
use Rattle.source_meaning.specs.State.{Run, ◌>>=◌, ◌>>◌, done, stop, choose, read_state, change, tally, Setting}
use Rattle.source_meaning.specs.Places.{heap_first, heap_last}
use Rattle.source_meaning.specs.Actions.{integer, is_zero, take_key, make_object, located, move_bytes}

-- the work of seeking a place in the heap, and of a block's end
abbrev pub tally_blocks : Run (Unit {0})
tally_blocks = do
  count ← read_state (λ s. block_count s.objects)
  tally (1 + count)

-- the place of a new block: none where as many blocks are live as the budget allows, or there is no room
abbrev pub block_place : Setting → (size : ℕ) → Objects → Option ℕ
block_place g size objects =
    if nat_lt (block_count objects) g.sizes.budgets.blocks then least_place (heap_first g) (heap_last g) size objects
    else None

-- a new block with a key of its own; a null pointer takes none
abbrev pub make_block : Setting → (size line : ℕ) → Option ℕ → Run Value
make_block g size line None = done (integer 0)
make_block g size line (Some address) = do
  take_key g line
  o ← make_object Allocated address size
  read_state (λ s. pointer_to o s.objects)

abbrev pub allocate : Setting → (size line : ℕ) → Run Value
allocate g size line = do
  tally_blocks
  place ← read_state (λ s. block_place g size s.objects)
  make_block g size line place

abbrev pub malloc : Setting → (size : Value) → (line : ℕ) → Run Value
malloc g size line = allocate g size.word line

abbrev pub bad_free : {A : Type 0} → (line : ℕ) → Run A
bad_free line = do
  tally_blocks
  stop (BadFree line)

abbrev pub is_block_start : ObjectState → (address : ℕ) → Bool
is_block_start o address = is_allocated o.storage && (address == o.address)

-- the object that the tag of a pointer names, which is judged, not the address alone: a dead one is a temporal
-- violation, and all but the start of a block cannot be freed
abbrev pub freed_object : (number : ℕ) → ObjectState → (address line : ℕ) → Run ℕ
freed_object n o address line =
    choose o.is_live (choose (is_block_start o address) (done n) (bad_free line)) (stop (Temporal line))

abbrev pub freed_by : Tag → (address line : ℕ) → Run ℕ
freed_by Untagged address line = bad_free line
freed_by (OfFunction f) address line = bad_free line
freed_by (OfObject n b) address line = do
  o ← read_state (λ s. object_at s.objects n)
  freed_object n o address line

-- the number of the block that a pointer other than null frees
abbrev pub freed : Value → (line : ℕ) → Run ℕ
freed p line = freed_by p.tag p.word line

-- a block dies
abbrev pub release : (number : ℕ) → Run (Unit {0})
release n = do
  tally_blocks
  change (λ s. record s { objects = with_dead n s.objects })

-- nothing is done to a null pointer
abbrev pub free : Value → (line : ℕ) → Run Value
free p line = choose (is_zero p) (done (integer 0)) (do
  n ← freed p line
  release n
  done (integer 0))

-- an array of zero bytes: null where its size is no size_t, and then no place is sought
abbrev pub calloc : Setting → (count size : Value) → (line : ℕ) → Run Value
calloc g count size line =
    choose (nat_lt (count.word * size.word) (2 ^ 64)) (allocate g (count.word * size.word) line) (done (integer 0))

-- the bytes and tags that an object and a new block of some size both have room for, moved to the block
abbrev pub move_block : (number : ℕ) → (new : Value) → (size line : ℕ) → Run (Unit {0})
move_block n new size line = do
  destination ← located false size new line
  lesser ← read_state (λ s. min size (object_at s.objects n).size)
  move_bytes lesser destination (record { object = n; offset = 0 })

-- a block in place of an old one, which lives while a place is sought, and on where there is none
abbrev pub replace_block : Setting → (number : ℕ) → (size line : ℕ) → Run Value
replace_block g n size line = do
  new ← allocate g size line
  choose (is_zero new) (done new) (do
    move_block n new size line
    release n
    done new)

-- a block of another size: of a null pointer a new one, of any other one in place of the block that the pointer would
-- free
abbrev pub realloc : Setting → (old size : Value) → (line : ℕ) → Run Value
realloc g old size line = choose (is_zero old) (allocate g size.word line) (do
  n ← freed old line
  replace_block g n size.word line)
