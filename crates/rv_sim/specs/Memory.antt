-- Memory: segments of bytes, each with its permissions. An access lies in the one segment that holds its first byte, or
-- is
-- refused; it may be misaligned. Numbers are little endian.
use Rattle.std.specs.Prelude.{ℕ, ◌+◌, ◌-◌, Bool, false, ◌&&◌, nat_lt, nat_le, if◌then◌else◌, List, length, take, drop}
use Rattle.std.specs.Prelude.{◌++◌, Option, Some, None, option_and_then, position, slice_get, slice_set}
use Rattle.byteorder.specs.Endian.{little_number, little_bytes}

pub record SegmentState : Type 0 where
  pub address : ℕ
  pub bytes : List ℕ
  pub readable : Bool
  pub writable : Bool
  pub executable : Bool

infixl 10 ◌>>=◌
abbrev pub ◌>>=◌ : {A B : Type 0} → Option A → (A → Option B) → Option B
o >>= f = option_and_then f o

-- a segment holds an address, and, where it does, the n bytes from there on
abbrev pub holds : SegmentState → ℕ → Bool
holds s a = nat_le s.address a && nat_lt (a - s.address) (length s.bytes)

abbrev pub covers : SegmentState → ℕ → ℕ → Bool
covers s a n = nat_le (a - s.address + n) (length s.bytes)

-- the place in the list of the first segment that holds an address, and that segment
unfoldable pub place_of : List SegmentState → ℕ → Option ℕ
place_of memory a = position (λ s. holds s a) memory

abbrev pub segment_at : List SegmentState → ℕ → Option SegmentState
segment_at memory a = place_of memory a >>= λ place. slice_get memory place

-- the number in the n bytes from an address on, and the segment with another number there
abbrev pub number_in : SegmentState → ℕ → ℕ → ℕ
number_in s a n = little_number n (drop (a - s.address) s.bytes)

abbrev pub with_number : SegmentState → ℕ → ℕ → ℕ → SegmentState
with_number s a n v =
    record s { bytes = take (a - s.address) s.bytes ++ (little_bytes n v ++ drop n (drop (a - s.address) s.bytes)) }

-- the same, where the segment covers these bytes and permits it
abbrev pub read_in : SegmentState → ℕ → ℕ → Option ℕ
read_in s a n = if s.readable && covers s a n then Some (number_in s a n) else None

abbrev pub fetched_in : SegmentState → ℕ → Option ℕ
fetched_in s a = if s.executable && covers s a 4 then Some (number_in s a 4) else None

abbrev pub written_in : SegmentState → ℕ → ℕ → ℕ → Option SegmentState
written_in s a n v = if s.writable && covers s a n then Some (with_number s a n v) else None

abbrev pub bytes_in : SegmentState → ℕ → ℕ → Option (List ℕ)
bytes_in s a n = if s.readable && covers s a n then Some (take n (drop (a - s.address) s.bytes)) else None

abbrev pub room_in : Option SegmentState → ℕ → ℕ → Bool
room_in None a n = false
room_in (Some s) a n = s.writable && covers s a n

-- load n bytes as a number
unfoldable pub load : List SegmentState → ℕ → ℕ → Option ℕ
load memory a n = segment_at memory a >>= λ s. read_in s a n

-- fetch the word of an instruction
unfoldable pub fetch : List SegmentState → ℕ → Option ℕ
fetch memory a = segment_at memory a >>= λ s. fetched_in s a

-- memory after the low n bytes of a number were stored
unfoldable pub store : List SegmentState → ℕ → ℕ → ℕ → Option (List SegmentState)
store memory a n v =
    place_of memory a >>= λ place. slice_get memory place >>= λ s. written_in s a n v
    >>= λ after. Some (slice_set memory place after)

-- the buffer of n bytes from an address on, to be read by the environment
unfoldable pub bytes_at : List SegmentState → ℕ → ℕ → Option (List ℕ)
bytes_at memory a n = segment_at memory a >>= λ s. bytes_in s a n

-- whether the environment may write all of that buffer
unfoldable pub may_write : List SegmentState → ℕ → ℕ → Bool
may_write memory a n = room_in (segment_at memory a) a n
