-- Parts of routines of the library.
use Rattle.std.specs.Prelude.{ℕ, Bool, true, false, List, [], ◌++◌, replicate, ◌-◌, length}
use Rattle.sb_base.specs.declared.ending.Ending.TheVariants.{Spatial}
use Rattle.obj_memory.specs.declared.int_type.IntType.TheVariants.{UnsignedChar}
use Rattle.obj_memory.specs.declared.value.Place.{Place}
use Rattle.obj_memory.specs.declared.value.Scalar.TheVariants.{Integer}
use Rattle.obj_memory.specs.declared.value.Value.{Value}
use Rattle.obj_memory.specs.Access.{read_value}
use Rattle.source_meaning.specs.State.{Run, ◌>>=◌, ◌>>◌, done, read_state, stop}
use Rattle.source_meaning.specs.Actions.{located, move_bytes}
use Rattle.source_meaning.specs.Bytes.{set_bytes}
use Rattle.source_meaning.specs.Strings.{scan_within}

-- bytes that are moved, and set, of which there are some
abbrev pub move_some : (to from : Value) → (size line : ℕ) → Run Value
move_some to from size line = do
  destination ← located true size to line
  source ← located true size from line
  move_bytes size destination source
  done to

abbrev pub set_some : (to : Value) → (byte size line : ℕ) → Run Value
set_some to byte size line = do
  place ← located true size to line
  set_bytes (replicate size byte) place
  done to

-- the byte at a place
abbrev pub byte_at : Place → Run ℕ
byte_at place = read_state (λ s. read_value (Integer UnsignedChar) place s.objects) >>= λ v. done v.word

-- what is done where a scan found no 0 byte
abbrev pub behind_scan : (must_end : Bool) → (line : ℕ) → Run (List ℕ)
behind_scan true line = stop (Spatial line)
behind_scan false line = done []

-- what it comes to, behind the bytes that it found
abbrev pub scanned : (bytes : List ℕ) → (must_end : Bool) → (line : ℕ) → Run (List ℕ)
scanned bytes must_end line = behind_scan must_end line >>= λ others. done (bytes ++ others)

-- bytes of a string that are copied, of which there are some
abbrev pub copy_some : (to from : Value) → (size line : ℕ) → Run Value
copy_some to from size line = do
  bytes ← scan_within size (behind_scan false line) from line
  place ← located true size to line
  set_bytes (bytes ++ replicate (size - length bytes) 0) place
  done to
