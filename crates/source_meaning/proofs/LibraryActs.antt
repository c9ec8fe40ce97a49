-- Every routine of the library is an action, and keeps the variables of its caller.
use Rattle.std.proofs.Common.{ℕ, zero, suc, ◌==◌, true, List, [], ◌∷◌, length, drop, Option, Some, None, refl, arith}
use Rattle.behaviours.proofs.Moments.{prefix_refl}
use Rattle.sb_base.specs.declared.ending.Ending.TheVariants.{Spatial}
use Rattle.obj_memory.specs.declared.int_type.IntType.TheVariants.{Char}
use Rattle.obj_memory.specs.declared.value.Place.{Place}
use Rattle.obj_memory.specs.declared.value.Tag.{Tag}
use Rattle.obj_memory.specs.declared.value.Tag.TheVariants.{Untagged, OfFunction, OfObject}
use Rattle.obj_memory.specs.declared.value.Value.{Value}
use Rattle.obj_memory.specs.Objects.{ObjectState}
use Rattle.obj_memory.specs.Integers.{fit}
use Rattle.obj_memory.specs.Judgement.{moved}
use Rattle.obj_memory.specs.Access.{write_bytes}
use Rattle.obj_memory.proofs.Continuing.{continues_same, continues_bytes}
use Rattle.c_tree.specs.declared.format.Directive.{Directive}
use Rattle.c_tree.specs.declared.format.Directive.TheVariants as directive
use Rattle.c_tree.specs.declared.format.Piece.{Piece}
use Rattle.c_tree.specs.declared.format.Piece.TheVariants as piece
use Rattle.c_tree.specs.Format.{pieces}
use Rattle.c_tree.specs.declared.expression.Routine.{Routine}
use Rattle.c_tree.specs.declared.expression.Routine.TheVariants.{Malloc, Calloc, Free, Realloc, Memcpy, Memmove, Memset}
use Rattle.c_tree.specs.declared.expression.Routine.TheVariants.{Memcmp, Strlen, Strcmp, Strcpy, Strncpy, Strcat}
use Rattle.c_tree.specs.declared.expression.Routine.TheVariants.{Strchr, Putchar, Getchar, Puts, Exit, Abort}
use Rattle.source_meaning.specs.State.{State, Run, done, stop, Setting}
use Rattle.source_meaning.specs.Actions.{integer}
use Rattle.source_meaning.specs.Heap.{tally_blocks, make_block, allocate, bad_free, freed_object, freed_by, release}
use Rattle.source_meaning.specs.Heap.{free, calloc, move_block, replace_block, realloc}
use Rattle.source_meaning.specs.Bytes.{look, set_bytes}
use Rattle.source_meaning.specs.Memory.{memmove, memset, memcmp}
use Rattle.source_meaning.specs.Strings.{reach, scan_within, scan, strlen, compare_within, write_string, strcpy}
use Rattle.source_meaning.specs.Strings.{strncpy, strcat, seek_within}
use Rattle.source_meaning.specs.Printing.{puts, argument_bytes, formatted, pieces_or_none, print_formatted}
use Rattle.source_meaning.specs.Library.{next_byte, argument, routine}
use Rattle.source_meaning.specs.Acting.{at_work, ActsBy, IsAction}
use Rattle.source_meaning.proofs.Acting.{later_same}
use Rattle.source_meaning.specs.Staying.{KeepsBy}
use Rattle.source_meaning.proofs.Local.{IsLocal, local_on, local_then, local_done, local_stop, local_tally}
use Rattle.source_meaning.proofs.Local.{local_choose, local_objects, local_changes, local_basic}
use Rattle.source_meaning.proofs.ActionsAct.{local_located, local_move_bytes, local_make_object, local_put_bytes}
use Rattle.source_meaning.proofs.ActionsAct.{local_take_key}

local_tally_blocks : IsLocal tally_blocks
local_tally_blocks = search local_basic

local_make_block : (g : Setting) (size line : ℕ) (place : Option ℕ) → IsLocal (make_block g size line place)
local_make_block g size line None = local_done
local_make_block g size line (Some address) = search (local_basic, local_take_key, local_make_object)

local_allocate : (g : Setting) (size line : ℕ) → IsLocal (allocate g size line)
local_allocate g size line = search (local_basic, local_tally_blocks, local_make_block)

local_bad_free : {A : Type 0} (line : ℕ) → IsLocal (bad_free {A = A} line)
local_bad_free line = search (local_basic, local_tally_blocks)

local_freed_object : (n : ℕ) (o : ObjectState) (address line : ℕ) → IsLocal (freed_object n o address line)
local_freed_object n o address line = search (local_basic, local_bad_free)

local_freed_by : (t : Tag) (address line : ℕ) → IsLocal (freed_by t address line)
local_freed_by Untagged address line = local_bad_free line
local_freed_by (OfFunction f) address line = local_bad_free line
local_freed_by (OfObject n b) address line = search (local_basic, local_freed_object)

local_release : (n : ℕ) → IsLocal (release n)
local_release n = search (local_basic, local_tally_blocks, local_changes)

local_free : (p : Value) (line : ℕ) → IsLocal (free p line)
local_free p line = search (local_basic, local_freed_by, local_release)

local_move_block : (n : ℕ) (new : Value) (size line : ℕ) → IsLocal (move_block n new size line)
local_move_block n new size line = search (local_basic, local_located, local_move_bytes)

local_replace_block : (g : Setting) (n size line : ℕ) → IsLocal (replace_block g n size line)
local_replace_block g n size line = search (local_basic, local_allocate, local_move_block, local_release)

local_calloc : (g : Setting) (count size : Value) (line : ℕ) → IsLocal (calloc g count size line)
local_calloc g count size line = search (local_basic, local_allocate)

local_realloc : (g : Setting) (old size : Value) (line : ℕ) → IsLocal (realloc g old size line)
local_realloc g old size line = search (local_basic, local_allocate, local_freed_by, local_replace_block)

-- bytes

local_look : (p : Value) (line : ℕ) → IsLocal (look p line)
local_look p line = search (local_basic, local_located)

local_set_bytes : (bytes : List ℕ) (place : Place) → IsLocal (set_bytes bytes place)
local_set_bytes bytes place = local_then (local_tally (length bytes))
    (local_objects (write_bytes bytes place) (continues_bytes bytes place))

local_memmove : (d s size : Value) (line : ℕ) → IsLocal (memmove d s size line)
local_memmove d s size line = search (local_basic, local_located, local_move_bytes)

local_memset : (d byte size : Value) (line : ℕ) → IsLocal (memset d byte size line)
local_memset d byte size line = search (local_basic, local_located, local_set_bytes)

local_memcmp : (a b size : Value) (line : ℕ) → IsLocal (memcmp a b size line)
local_memcmp a b size line = search (local_basic, local_located) depth 9

-- strings

local_scan_within : (count : ℕ) (behind : Run (List ℕ)) → IsLocal behind → (p : Value) (line : ℕ)
    → IsLocal (scan_within count behind p line)
local_scan_within zero behind h p line = h
local_scan_within (suc k) behind h p line =
    local_on (local_look p line)
    (λ byte. local_choose _ local_done
    (local_on (local_scan_within k behind h (moved 1 p) line) (λ others. local_done)))

local_scan : (s : Value) (line : ℕ) → IsLocal (scan s line)
local_scan s line = local_scan_within (reach s) (stop (Spatial line)) local_stop s line

local_compare_within : (count : ℕ) (a b : Value) (line : ℕ) → IsLocal (compare_within count a b line)
local_compare_within zero a b line = local_stop
local_compare_within (suc k) a b line =
    local_on (local_look a line)
    (λ x. local_on (local_look b line)
    (λ y. local_choose _ (local_compare_within k (moved 1 a) (moved 1 b) line) local_done))

local_seek_within : (count c : ℕ) (p : Value) (line : ℕ) → IsLocal (seek_within count c p line)
local_seek_within zero c p line = local_stop
local_seek_within (suc k) c p line =
    local_on (local_look p line)
    (λ byte. local_choose (byte == c) (local_done {a = p})
    (local_choose (byte == 0) (local_done {a = integer 0}) (local_seek_within k c (moved 1 p) line)))

local_write_string : (d : Value) (bytes : List ℕ) (line : ℕ) → IsLocal (write_string d bytes line)
local_write_string d bytes line = search (local_basic, local_located, local_set_bytes)

local_strlen : (s : Value) (line : ℕ) → IsLocal (strlen s line)
local_strlen s line = local_on (local_scan s line) (λ bytes. local_done)

local_strcpy : (d s : Value) (line : ℕ) → IsLocal (strcpy d s line)
local_strcpy d s line = local_on (local_scan s line) (λ bytes. local_then (local_write_string d bytes line) local_done)

local_strncpy : (d s size : Value) (line : ℕ) → IsLocal (strncpy d s size line)
local_strncpy d s size line =
    local_choose _ local_done (local_on (local_scan_within size.word (done []) local_done s line) (λ bytes.
    local_on (local_located true size.word d line) (λ place. local_then (local_set_bytes _ place) local_done)))

local_strcat : (d s : Value) (line : ℕ) → IsLocal (strcat d s line)
local_strcat d s line =
    local_on (local_scan d line)
    (λ before. local_on (local_scan s line)
    (λ bytes. local_then (local_write_string (moved (length before) d) bytes line) local_done))

-- input and output

acts_next_byte : (bytes : List ℕ) (s : State) (k : ℕ) → ActsBy k s (next_byte bytes s) (next_byte bytes (at_work k s))
acts_next_byte [] s k = (k, refl, record { work = refl; turns = refl; later = later_same s })
acts_next_byte (b ∷ bs) s k = (
  k,
  refl,
  record {
    work = refl;
    turns = refl;
    later = record {
      output = prefix_refl s.output;
      accesses = prefix_refl s.accesses;
      taken = omega arith;
      work = omega arith;
      turns = omega arith;
      keys = omega arith;
      objects = continues_same s.objects;
    };
  },
)

keeps_next_byte : (bytes : List ℕ) (s : State) → KeepsBy s (next_byte bytes s)
keeps_next_byte [] s = record { plain = refl; frame = refl }
keeps_next_byte (b ∷ bs) s = record { plain = refl; frame = refl }

local_puts : (s : Value) (line : ℕ) → IsLocal (puts s line)
local_puts s line = local_on (local_scan s line) (λ bytes. local_then (local_put_bytes _) local_done)

local_argument_bytes : (d : Directive) (v : Value) (line : ℕ) → IsLocal (argument_bytes d v line)
local_argument_bytes directive.Int v line = local_done
local_argument_bytes directive.UnsignedInt v line = local_done
local_argument_bytes directive.Hexadecimal v line = local_done
local_argument_bytes directive.Character v line = local_done
local_argument_bytes directive.Long v line = local_done
local_argument_bytes directive.UnsignedLong v line = local_done
local_argument_bytes directive.String v line = local_scan v line

local_formatted : (ps : List Piece) (vs : List Value) (line : ℕ) → IsLocal (formatted ps vs line)
local_formatted [] vs line = local_done
local_formatted (piece.Byte b ∷ ps) vs line = local_on (local_formatted ps vs line) (λ others. local_done)
local_formatted (piece.Directive d ∷ ps) vs line =
    local_on (local_argument_bytes d _ line)
    (λ bytes. local_on (local_formatted ps (drop 1 vs) line) (λ others. local_done))

pub local_routine : (g : Setting) (r : Routine) (vs : List Value) (line : ℕ) → IsLocal (routine g r vs line)
local_routine g Malloc vs line = local_allocate g (argument 0 vs).word line
local_routine g Calloc vs line = local_calloc g (argument 0 vs) (argument 1 vs) line
local_routine g Free vs line = local_free (argument 0 vs) line
local_routine g Realloc vs line = local_realloc g (argument 0 vs) (argument 1 vs) line
local_routine g Memcpy vs line = local_memmove (argument 0 vs) (argument 1 vs) (argument 2 vs) line
local_routine g Memmove vs line = local_memmove (argument 0 vs) (argument 1 vs) (argument 2 vs) line
local_routine g Memset vs line = local_memset (argument 0 vs) (argument 1 vs) (argument 2 vs) line
local_routine g Memcmp vs line = local_memcmp (argument 0 vs) (argument 1 vs) (argument 2 vs) line
local_routine g Strlen vs line = local_strlen (argument 0 vs) line
local_routine g Strcmp vs line = local_compare_within (reach (argument 0 vs)) (argument 0 vs) (argument 1 vs) line
local_routine g Strcpy vs line = local_strcpy (argument 0 vs) (argument 1 vs) line
local_routine g Strncpy vs line = local_strncpy (argument 0 vs) (argument 1 vs) (argument 2 vs) line
local_routine g Strcat vs line = local_strcat (argument 0 vs) (argument 1 vs) line
local_routine g Strchr vs line = local_seek_within (reach (argument 0 vs)) (fit Char (argument 1 vs).word)
    (argument 0 vs) line
local_routine g Putchar vs line = search (local_basic, local_put_bytes)
local_routine g Getchar vs line = record
    { action = record { acts = λ s k. acts_next_byte s.input s k }; keeps = λ s. keeps_next_byte s.input s }
local_routine g Puts vs line = local_puts (argument 0 vs) line
local_routine g Exit vs line = local_stop
local_routine g Abort vs line = local_stop

pub local_print : (format : List ℕ) (vs : List Value) (line : ℕ) → IsLocal (print_formatted format vs line)
local_print format vs line = local_on (local_formatted (pieces_or_none (pieces format)) vs line)
    (λ bytes. local_then (local_put_bytes bytes) local_done)

pub acts_routine : (g : Setting) (r : Routine) (vs : List Value) (line : ℕ) → IsAction (routine g r vs line)
acts_routine g r vs line = (local_routine g r vs line).action

pub acts_print : (format : List ℕ) (vs : List Value) (line : ℕ) → IsAction (print_formatted format vs line)
acts_print format vs line = (local_print format vs line).action
