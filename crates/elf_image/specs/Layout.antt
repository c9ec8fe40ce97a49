-- Where the fields of a file stand, by the ELF-64 Object File Format ("File header", "Program header table"). Every
-- number is little endian.
use Rattle.std.specs.Prelude.{ℕ, zero, suc, ◌/◌, ◌%◌, Bool, ◌==◌, if◌then◌else◌, List, [], ◌∷◌, drop, take, map}
use Rattle.std.specs.Prelude.{slice_index}
use Rattle.std.specs.List.{filter}
use Rattle.byteorder.specs.Endian.{little_number}
use Rattle.elf_image.specs.declared.header.FileHeader.{FileHeader}
use Rattle.elf_image.specs.declared.header.ProgramHeader.{ProgramHeader}
use Rattle.elf_image.specs.Content.{SegmentContent, Content}

-- the number in the `size` bytes at an offset
abbrev pub field : (bytes : List ℕ) (offset size : ℕ) → ℕ
field bytes offset size = little_number size (drop offset bytes)

-- the file header, in the first 64 bytes; fields that no test reads are left out
unfoldable pub file_header : List ℕ → FileHeader
file_header bytes = record {
  magic = field bytes 0 4;  -- e_ident[EI_MAG0] to e_ident[EI_MAG3]
  class = slice_index bytes 4;  -- e_ident[EI_CLASS]
  data_encoding = slice_index bytes 5;  -- e_ident[EI_DATA]
  identification_version = slice_index bytes 6;  -- e_ident[EI_VERSION]
  object_type = field bytes 16 2;  -- e_type
  machine = field bytes 18 2;  -- e_machine
  version = field bytes 20 4;  -- e_version
  entry = field bytes 24 8;  -- e_entry
  program_header_offset = field bytes 32 8;  -- e_phoff
  program_header_size = field bytes 54 2;  -- e_phentsize
  program_header_count = field bytes 56 2;  -- e_phnum
}

-- a program header, of 56 bytes; p_paddr at 24 and p_align at 48 are passed over
unfoldable pub program_header : List ℕ → ProgramHeader
program_header bytes = record {
  segment_type = field bytes 0 4;  -- p_type
  flags = field bytes 4 4;  -- p_flags
  offset = field bytes 8 8;  -- p_offset
  virtual_address = field bytes 16 8;  -- p_vaddr
  file_size = field bytes 32 8;  -- p_filesz
  memory_size = field bytes 40 8;  -- p_memsz
}

-- PT_LOAD: the segment is loaded
abbrev pub is_load : ProgramHeader → Bool
is_load h = h.segment_type == 1

-- p_flags: PF_X is 1, PF_W 2, PF_R 4
abbrev pub is_executable : ProgramHeader → Bool
is_executable h = h.flags % 2 == 1

abbrev pub is_writable : ProgramHeader → Bool
is_writable h = h.flags / 2 % 2 == 1

abbrev pub is_readable : ProgramHeader → Bool
is_readable h = h.flags / 4 % 2 == 1

-- a header before those after it, if it is one of a segment to load
abbrev pub with_load : ProgramHeader → List ProgramHeader → List ProgramHeader
with_load h others = if is_load h then h ∷ others else others

-- the headers of the type PT_LOAD among the first n of a table
abbrev pub loads : ℕ → List ℕ → List ProgramHeader
loads zero table = []
loads (suc n) table = with_load (program_header (take 56 table)) (loads n (drop 56 table))

-- those of a whole file
unfoldable pub loads_of : List ℕ → List ProgramHeader
loads_of bytes =
    loads (file_header bytes).program_header_count (drop (file_header bytes).program_header_offset bytes)

-- the segment that a program header describes, in a file of these bytes
abbrev pub segment_of : List ℕ → ProgramHeader → SegmentContent
segment_of bytes h = record {
  address = h.virtual_address;
  bytes = take h.file_size (drop h.offset bytes);
  size = h.memory_size;
  readable = is_readable h;
  writable = is_writable h;
  executable = is_executable h;
}

-- the image that bytes spell. It is meant where they pass the tests of an image.
unfoldable pub content_of : List ℕ → Content
content_of bytes = record { entry = (file_header bytes).entry; segments = map (segment_of bytes) (loads_of bytes) }

-- where the bytes of the executable segments stand in the file: the first place of each, and how many they are
abbrev pub ranges_of : List ProgramHeader → List (ℕ × ℕ)
ranges_of headers = map (λ h. (h.offset, h.file_size)) (filter is_executable headers)

-- those of a whole file
unfoldable pub code_ranges : List ℕ → List (ℕ × ℕ)
code_ranges bytes = ranges_of (loads_of bytes)
