-- What an image says of memory. An image is an executable file of the ELF-64 Object File Format.
use Rattle.std.specs.Prelude.{ℕ, ◌-◌, Bool, List, ◌++◌, length, replicate}

-- A segment that is loaded: its first address, the bytes that the file has of it, its size in memory, and what the
-- machine may do there.
pub record SegmentContent : Type 0 where
  pub address : ℕ
  pub bytes : List ℕ
  pub size : ℕ
  pub readable : Bool
  pub writable : Bool
  pub executable : Bool

-- what the memory of a segment holds at the start: the file's bytes, and zeros after them
unfoldable pub memory_of : SegmentContent → List ℕ
memory_of s = s.bytes ++ replicate (s.size - length s.bytes) 0

-- an image: the address at which the run begins, and the segments in the order of their program headers
pub record Content : Type 0 where
  pub entry : ℕ
  pub segments : List SegmentContent
