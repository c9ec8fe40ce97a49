-- `strlen`, `strcmp`, `strcpy`, `strncpy`, `strcat` and `strchr` (C99 7.21). The bytes of a string are judged one by
-- one.
use Rattle.std.specs.Prelude.{ℕ, zero, suc, ◌+◌, ◌-◌, Bool, true, ◌&&◌, not, ◌==◌, List, [], ◌∷◌, ◌++◌, length}
use Rattle.std.specs.Prelude.{replicate}
use Rattle.sb_base.specs.declared.ending.Ending.TheVariants.{Spatial}
use Rattle.obj_memory.specs.declared.int_type.IntType.TheVariants.{Char}
use Rattle.obj_memory.specs.declared.value.Tag.{Tag}
use Rattle.obj_memory.specs.declared.value.Tag.TheVariants.{Untagged, OfFunction, OfObject}
use Rattle.obj_memory.specs.declared.value.Value.{Value}
use Rattle.obj_memory.specs.Integers.{fit}
use Rattle.obj_memory.specs.Judgement.{moved}
use Rattle.source_meaning.specs.State.{Run, ◌>>=◌, ◌>>◌, done, stop, choose}
use Rattle.source_meaning.specs.Actions.{integer, located}
use Rattle.source_meaning.specs.Bytes.{unless_empty, look, set_bytes, order}

abbrev pub reach_by : Tag → (address : ℕ) → ℕ
reach_by Untagged address = 0
reach_by (OfFunction f) address = 0
reach_by (OfObject n b) address = b.bound - address

-- how many bytes lie between a pointer and its bound; the byte behind them is a spatial violation
abbrev pub reach : Value → ℕ
reach p = reach_by p.tag p.word

-- the bytes from a pointer on before the first 0 byte, each judged and looked at in turn, the 0 byte too; what is done
-- where so many bytes have no 0 byte
abbrev pub scan_within : (count : ℕ) → (behind : Run (List ℕ)) → Value → (line : ℕ) → Run (List ℕ)
scan_within zero behind p line = behind
scan_within (suc k) behind p line = do
  byte ← look p line
  choose (byte == 0) (done []) (do
    others ← scan_within k behind (moved 1 p) line
    done (byte ∷ others))

-- the bytes of a string before its 0 byte (7.1.1 paragraph 1); one that does not end before its bound is a spatial
-- violation
abbrev pub scan : Value → (line : ℕ) → Run (List ℕ)
scan s line = scan_within (reach s) (stop (Spatial line)) s line

-- 7.21.6.3
abbrev pub strlen : Value → (line : ℕ) → Run Value
strlen s line = do
  bytes ← scan s line
  done (integer (length bytes))

-- whether two bytes of strings are equal and neither string ends
abbrev pub go_on : (x y : ℕ) → Bool
go_on x y = x == y && not (x == 0)

abbrev pub compare_within : (count : ℕ) → (left right : Value) → (line : ℕ) → Run Value
compare_within zero a b line = stop (Spatial line)
compare_within (suc k) a b line = do
  x ← look a line
  y ← look b line
  choose (go_on x y) (compare_within k (moved 1 a) (moved 1 b) line) (done (order x y))

-- a byte of the first string and one of the second in turn, up to a difference or the end (7.21.4.2)
abbrev pub strcmp : (left right : Value) → (line : ℕ) → Run Value
strcmp a b line = compare_within (reach a) a b line

-- a string written at a pointer, with its 0 byte, its range judged as one access
abbrev pub write_string : Value → (string : List ℕ) → (line : ℕ) → Run (Unit {0})
write_string d bytes line = do
  place ← located true (length bytes + 1) d line
  set_bytes (bytes ++ (0 ∷ [])) place

-- 7.21.2.3; the bytes written are those that were scanned, also where they overlap
abbrev pub strcpy : (destination source : Value) → (line : ℕ) → Run Value
strcpy d s line = do
  bytes ← scan s line
  write_string d bytes line
  done d

-- at most so many bytes of a string, with zeros up to that number (7.21.2.4)
abbrev pub strncpy : (destination source size : Value) → (line : ℕ) → Run Value
strncpy d s size line = unless_empty size d (do
  bytes ← scan_within size.word (done []) s line
  place ← located true size.word d line
  set_bytes (bytes ++ replicate (size.word - length bytes) 0) place
  done d)

-- a string written over the 0 byte of another (7.21.3.1)
abbrev pub strcat : (destination source : Value) → (line : ℕ) → Run Value
strcat d s line = do
  before ← scan d line
  bytes ← scan s line
  write_string (moved (length before) d) bytes line
  done d

abbrev pub seek_within : (count : ℕ) → (byte : ℕ) → Value → (line : ℕ) → Run Value
seek_within zero c p line = stop (Spatial line)
seek_within (suc k) c p line = do
  byte ← look p line
  choose (byte == c) (done p) (choose (byte == 0) (done (integer 0)) (seek_within k c (moved 1 p) line))

-- the first byte of a string that is a value, converted to char, or null; the 0 byte is sought too (7.21.5.2)
abbrev pub strchr : (string byte : Value) → (line : ℕ) → Run Value
strchr s byte line = seek_within (reach s) (fit Char byte.word) s line
