-- The tests that make bytes an image, in their order. A reader answers the first that fails.
use Rattle.std.specs.Prelude.{◌≡◌, ℕ, ◌+◌, ◌-◌, ◌*◌, ◌%◌, ◌^◌, max, min, Bool, false, not, ◌||◌, ◌&&◌, ◌==◌, nat_lt}
use Rattle.std.specs.Prelude.{nat_le, if◌then◌else◌, List, [], ◌∷◌, ◌++◌, map, length, Option, Some, None, Result, Ok}
use Rattle.std.specs.Prelude.{Err}
use Rattle.std.specs.List.{list_any}
use Rattle.elf_image.specs.declared.fault.ImageFault.{ImageFault}
use Rattle.elf_image.specs.declared.fault.ImageFault.TheVariants.{Truncated, Magic, Class, Machine, FileType, Count}
use Rattle.elf_image.specs.declared.fault.ImageFault.TheVariants.{Overlap, TooLarge, Range}
use Rattle.elf_image.specs.declared.fault.ReadError.{ReadError}
use Rattle.elf_image.specs.declared.fault.ReadError.TheVariants as errors
use Rattle.elf_image.specs.declared.header.FileHeader.{FileHeader}
use Rattle.elf_image.specs.declared.header.ProgramHeader.{ProgramHeader}
use Rattle.elf_image.specs.Content.{SegmentContent, Content}
use Rattle.elf_image.specs.Layout.{file_header, loads_of, segment_of, content_of}

-- the number by which a fault is reported
abbrev pub fault_number : ImageFault → ℕ
fault_number Truncated = 1
fault_number Magic = 2
fault_number Class = 3
fault_number Machine = 4
fault_number FileType = 5
fault_number (Count n) = 6
fault_number Overlap = 7
fault_number (TooLarge n) = 8
fault_number Range = 9

-- a fault, unless the test holds
infixr 10 ◌unless◌
abbrev pub ◌unless◌ : ImageFault → Bool → Option ImageFault
f unless b = if b then None else Some f

-- the fault of a test, else what the tests after it find
infixr 5 ◌then◌
abbrev pub ◌then◌ : Option ImageFault → Option ImageFault → Option ImageFault
None then g = g
(Some f) then g = Some f

-- The tests of the file header, of a file of so many bytes: the magic number; ELFCLASS64, ELFDATA2LSB and EV_CURRENT;
-- EM_RISCV; ET_EXEC and EV_CURRENT; at most 64 program headers, of 56 bytes each, which lie in the file.
unfoldable pub header_fault : (file_size : ℕ) → FileHeader → Option ImageFault
header_fault file_size h =
    (Magic unless (h.magic == 0x464c457f)) then
    (Class unless ((h.class == 2) && ((h.data_encoding == 1) && (h.identification_version == 1)))) then
    (Machine unless (h.machine == 243)) then
    (FileType unless ((h.object_type == 2) && (h.version == 1))) then
    (Count h.program_header_count unless nat_le h.program_header_count 64) then
    (Range unless ((h.program_header_count == 0) || (h.program_header_size == 56))) then
    (Truncated unless nat_le (h.program_header_offset + 56 * h.program_header_count) file_size)

-- the number of segments to load
abbrev pub count_fault : ℕ → Option ImageFault
count_fault n = Count n unless (nat_le 1 n && nat_le n 8)

-- one segment to load: what the file has of it fits its memory, which fits the addresses, and lies in the file
abbrev pub load_fault : (file_size : ℕ) → ProgramHeader → Option ImageFault
load_fault file_size h =
    (Range unless (nat_le h.file_size h.memory_size && nat_le (h.virtual_address + h.memory_size) (2 ^ 64))) then
    (Truncated unless nat_le (h.offset + h.file_size) file_size)

-- each of them, in order
abbrev pub loads_fault : (file_size : ℕ) → List ProgramHeader → Option ImageFault
loads_fault file_size [] = None
loads_fault file_size (h ∷ hs) = load_fault file_size h then loads_fault file_size hs

-- the memory of all segments together, at most 512 MiB
abbrev pub memory_size : List SegmentContent → ℕ
memory_size [] = 0
memory_size (s ∷ ss) = s.size + memory_size ss

abbrev pub size_fault : List SegmentContent → Option ImageFault
size_fault segments = TooLarge (memory_size segments) unless nat_le (memory_size segments) 536870912

-- no address is in two segments: the later start of two lies below the earlier end just where they share one
abbrev pub meets : SegmentContent → SegmentContent → Bool
meets s t = nat_lt (max s.address t.address) (min (s.address + s.size) (t.address + t.size))

abbrev pub overlaps : List SegmentContent → Bool
overlaps [] = false
overlaps (s ∷ ss) = list_any (meets s) ss || overlaps ss

abbrev pub overlap_fault : List SegmentContent → Option ImageFault
overlap_fault segments = Overlap unless not (overlaps segments)

-- the entry is the place of an instruction, in an executable segment
abbrev pub holds : ℕ → SegmentContent → Bool
holds a s = nat_le s.address a && nat_lt (a - s.address) s.size

abbrev pub may_run_at : ℕ → List SegmentContent → Bool
may_run_at a segments = list_any (λ s. s.executable && holds a s) segments

abbrev pub entry_fault : ℕ → List SegmentContent → Option ImageFault
entry_fault entry segments = Range unless ((entry % 4 == 0) && may_run_at entry segments)

-- the tests of an image whose segments each passed
abbrev pub content_fault : Content → Option ImageFault
content_fault c = size_fault c.segments then overlap_fault c.segments then entry_fault c.entry c.segments

-- The first of the tests before any segment that bytes fail: that there is a file header, of 64 bytes, its tests,
-- and the number of segments.
unfoldable pub headers_fault : List ℕ → Option ImageFault
headers_fault bytes =
    (Truncated unless nat_le 64 (length bytes)) then
    header_fault (length bytes) (file_header bytes) then
    count_fault (length (loads_of bytes))

-- The first test that bytes fail.
unfoldable pub image_fault : List ℕ → Option ImageFault
image_fault bytes =
    headers_fault bytes then loads_fault (length bytes) (loads_of bytes) then content_fault (content_of bytes)

-- an error is want of memory, or the first fault
abbrev pub Fails : ReadError → Option ImageFault → Type 0
Fails errors.Memory fault = Unit {0}
Fails (errors.Fault f) fault = fault ≡ Some f

-- what collecting the segments of these headers answers, in a file of these bytes
abbrev pub IsCollected : {X : Type 0} → (X → List SegmentContent) → List ℕ → List ProgramHeader → Result X ReadError
    → Type 0
IsCollected view bytes hs (Ok x) = (loads_fault (length bytes) hs ≡ None) × (view x ≡ map (segment_of bytes) hs)
IsCollected view bytes hs (Err e) = Fails e (loads_fault (length bytes) hs)

-- what adding them to the segments before them answers
abbrev pub IsAdded : {X : Type 0} → (old new : List SegmentContent) → List ℕ → List ProgramHeader
    → Result X ReadError → Type 0
IsAdded old new bytes hs (Ok x) = (loads_fault (length bytes) hs ≡ None) × (new ≡ old ++ map (segment_of bytes) hs)
IsAdded old new bytes hs (Err e) = Fails e (loads_fault (length bytes) hs)

-- what a reader answers of these bytes: their image where they pass each test, else the first test that fails.
-- Memory is taken for the segments alone, so its want is answered only where the tests before them pass.
abbrev pub IsAnswer : {X : Type 0} → (X → Content) → List ℕ → Result X ReadError → Type 0
IsAnswer view bytes (Ok x) = (image_fault bytes ≡ None) × (view x ≡ content_of bytes)
IsAnswer view bytes (Err errors.Memory) = headers_fault bytes ≡ None
IsAnswer view bytes (Err (errors.Fault f)) = image_fault bytes ≡ Some f
