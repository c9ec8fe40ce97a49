-- Parts of the routines of the heap.
use Rattle.std.specs.Prelude.{◌≡◌, ℕ, ◌%◌, Bool, List, Option, length}
use Rattle.obj_memory.specs.declared.object.Storage.TheVariants.{Allocated}
use Rattle.obj_memory.specs.declared.value.Value.{Value}
use Rattle.obj_memory.specs.Objects.{object_at, with_new}
use Rattle.obj_memory.specs.Heap.{block_room}
use Rattle.source_meaning.specs.State.{Run, Setting, ◌>>=◌, ◌>>◌, change, choose, done, read_state}
use Rattle.source_meaning.specs.Actions.{integer}
use Rattle.source_meaning.specs.Bytes.{unless_empty}
use Rattle.source_meaning.specs.Heap.{bad_free, freed, freed_object, move_block, release, replace_block}
use Rattle.interpreter_objects.specs.declared.blocks.Block.{Block}
use Rattle.interpreter_objects.specs.Blocks.{gap_in}
use Rattle.source_interp.specs.declared.limits.Limits.{Limits}

-- one block more, and its number
abbrev pub add_block : (address size : ℕ) → Run ℕ
add_block address size = read_state (λ s. length s.objects) >>= λ number.
    (change (λ s. record s { objects = with_new Allocated address size s.objects }) >> done number)

-- the object that is freed by a pointer to one: whether the pointer is to the start of a block is known
abbrev pub freed_at : (number : ℕ) → (is_start : Bool) → (line : ℕ) → Run ℕ
freed_at number is_start line = choose is_start (done number) (bad_free line)

abbrev pub find_freed : (number address line : ℕ) → Run ℕ
find_freed number address line = read_state (λ s. object_at s.objects number)
    >>= λ o. freed_object number o address line

-- a block is freed by a pointer other than null
abbrev pub free_some : Value → (line : ℕ) → Run Value
free_some p line = freed p line >>= λ n. (release n >> done (integer 0))

-- the place is the first gap of a heap that begins at a multiple of 16
pub record IsFirstGap (l : Limits) (size : ℕ) (blocks : List Block) (place : Option ℕ) : Type 0 where
  pub whole : l.heap_first % 16 ≡ 0
  pub is_first : place ≡ gap_in l.heap_first l.heap_last (block_room size) blocks

-- a block moves to a new one and dies; the same where there is a new one; a block of another size
abbrev pub move_to : (number : ℕ) → (new : Value) → (size line : ℕ) → Run Value
move_to number new size line = move_block number new size line >> (release number >> done new)

abbrev pub replace_by : (number : ℕ) → (new : Value) → (size line : ℕ) → Run Value
replace_by number new size line = unless_empty new new (move_to number new size line)

abbrev pub resize : Setting → (old : Value) → (size line : ℕ) → Run Value
resize g old size line = freed old line >>= λ n. replace_block g n size line
