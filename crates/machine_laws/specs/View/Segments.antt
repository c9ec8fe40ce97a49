-- The memory of a machine that runs a compiled program: four segments, of which two hold code and two hold data; and
-- the data as one memory, the byte at each address.
use Rattle.std.specs.Prelude.{◌≡◌, ℕ, ◌+◌, ◌^◌, ◌<◌, ◌≤◌, ◌⊎◌, List, [], ◌∷◌, length, true, false, slice_index}
use Rattle.addr_map.specs.Places.{functions_begin, code_begin, objects_begin, spaces_begin}
use Rattle.rv_sim.specs.Memory.{SegmentState}
use Rattle.flat_code.specs.Memory.{Bytes}

abbrev pub code_segment : (address : ℕ) → List ℕ → SegmentState
code_segment a bytes = record { address = a; bytes = bytes; readable = false; writable = false; executable = true }

abbrev pub data_segment : (address : ℕ) → List ℕ → SegmentState
data_segment a bytes = record { address = a; bytes = bytes; readable = true; writable = true; executable = false }

-- the jump table with the runtime's code, compiled code, the objects, and the runtime's spaces
abbrev pub segments : (table code objects spaces : List ℕ) → List SegmentState
segments table code objects spaces =
    code_segment functions_begin table
    ∷ code_segment code_begin code
    ∷ data_segment objects_begin objects
    ∷ data_segment spaces_begin spaces
    ∷ []

-- each segment ends before the next begins, and the last within the addresses
pub record AreApart (table code objects spaces : List ℕ) : Type 0 where
  pub table_fits : functions_begin + length table ≤ code_begin
  pub code_fits : code_begin + length code ≤ objects_begin
  pub objects_fit : objects_begin + length objects ≤ spaces_begin
  pub spaces_fit : spaces_begin + length spaces ≤ 2 ^ 63

-- the two data segments, of so many bytes, have the bytes of a memory
pub record Hold (object_bytes space_bytes : ℕ) (memory : Bytes) (objects spaces : List ℕ) : Type 0 where
  pub objects_length : length objects ≡ object_bytes
  pub spaces_length : length spaces ≡ space_bytes
  pub objects_are : (k : ℕ) → k < length objects → memory (objects_begin + k) ≡ slice_index objects k
  pub spaces_are : (k : ℕ) → k < length spaces → memory (spaces_begin + k) ≡ slice_index spaces k

-- so many bytes from an address on lie in one of the data segments
abbrev pub IsOfData : (object_bytes space_bytes : ℕ) → (address size : ℕ) → Type 0
IsOfData o s a n =
    ((objects_begin ≤ a) × (a + n ≤ objects_begin + o)) ⊎ ((spaces_begin ≤ a) × (a + n ≤ spaces_begin + s))
