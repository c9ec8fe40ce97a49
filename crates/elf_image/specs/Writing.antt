-- The bytes of an image of four segments, as it is written: the file header, four program headers, and from 4096 on
-- the bytes of the segments, each at a multiple of 4096.
use Rattle.std.specs.Prelude.{◌≡◌, ℕ, ◌+◌, ◌-◌, ◌*◌, ◌/◌, ◌%◌, ◌^◌, ◌<◌, ◌≤◌, true, false, List, [], ◌∷◌, ◌++◌}
use Rattle.std.specs.Prelude.{length, replicate, None}
use Rattle.byteorder.specs.Endian.{little_bytes}
use Rattle.elf_image.specs.Content.{SegmentContent, Content}
use Rattle.elf_image.specs.Tests.{content_fault}

-- a segment to be written: its address, the bytes that the file has of it, its size in memory
pub record WrittenSegment : Type 0 where
  pub address : ℕ
  pub bytes : List ℕ
  pub size : ℕ

-- An image to be written. `jump_table` and `code` are executable alone, `objects` and `runtime` are readable and
-- writable.
pub record WrittenImage : Type 0 where
  pub entry : ℕ
  pub jump_table : WrittenSegment
  pub code : WrittenSegment
  pub objects : WrittenSegment
  pub runtime : WrittenSegment

unfoldable pub zeros : ℕ → List ℕ
zeros n = replicate n 0

-- the first multiple of 4096 that is at least n
abbrev pub page_end : ℕ → ℕ
page_end n = (n + 4095) / 4096 * 4096

unfoldable pub u32_bytes : ℕ → List ℕ
u32_bytes n = little_bytes 4 n

unfoldable pub u64_bytes : ℕ → List ℕ
u64_bytes n = little_bytes 8 n

-- e_ident: the magic number, ELFCLASS64, ELFDATA2LSB, EV_CURRENT, and nine zeros
abbrev pub identification_bytes : List ℕ
identification_bytes = 0x7f ∷ 0x45 ∷ 0x4c ∷ 0x46 ∷ 2 ∷ 1 ∷ 1 ∷ 0 ∷ 0 ∷ 0 ∷ 0 ∷ 0 ∷ 0 ∷ 0 ∷ 0 ∷ 0 ∷ []

-- The file header. Its line ends are those of the fields: e_type ET_EXEC, e_machine EM_RISCV, e_version EV_CURRENT;
-- e_entry, e_phoff, e_shoff; e_flags, e_ehsize, e_phentsize, e_phnum; e_shentsize, e_shnum, e_shstrndx.
unfoldable pub header_bytes : (entry : ℕ) → List ℕ
header_bytes entry =
    identification_bytes ++ little_bytes 2 2 ++ little_bytes 2 243 ++ little_bytes 4 1
    ++ little_bytes 8 entry ++ little_bytes 8 64 ++ little_bytes 8 0
    ++ little_bytes 4 0 ++ little_bytes 2 64 ++ little_bytes 2 56 ++ little_bytes 2 4
    ++ little_bytes 2 0 ++ little_bytes 2 0 ++ little_bytes 2 0

-- a program header: p_type PT_LOAD, p_flags, p_offset, p_vaddr, p_paddr, p_filesz, p_memsz, p_align
unfoldable pub load_bytes : (flags offset : ℕ) → WrittenSegment → List ℕ
load_bytes flags offset p =
    u32_bytes 1 ++ u32_bytes flags ++ u64_bytes offset ++ u64_bytes p.address ++ u64_bytes p.address
    ++ u64_bytes (length p.bytes) ++ u64_bytes p.size ++ u64_bytes 4096

-- bytes and zeros after them, up to a multiple of 4096
unfoldable pub padded : List ℕ → List ℕ
padded bytes = bytes ++ zeros (page_end (length bytes) - length bytes)

-- where the bytes of each segment after the first begin, and where the file ends
abbrev pub code_offset : WrittenImage → ℕ
code_offset p = 4096 + page_end (length p.jump_table.bytes)

abbrev pub objects_offset : WrittenImage → ℕ
objects_offset p = code_offset p + page_end (length p.code.bytes)

abbrev pub runtime_offset : WrittenImage → ℕ
runtime_offset p = objects_offset p + page_end (length p.objects.bytes)

abbrev pub image_size : WrittenImage → ℕ
image_size p = runtime_offset p + length p.runtime.bytes

-- The whole file. p_flags: PF_X is 1, PF_W and PF_R together are 6.
unfoldable pub image_bytes : WrittenImage → List ℕ
image_bytes p =
    header_bytes p.entry ++ load_bytes 1 4096 p.jump_table ++ load_bytes 1 (code_offset p) p.code
    ++ load_bytes 6 (objects_offset p) p.objects ++ load_bytes 6 (runtime_offset p) p.runtime ++ zeros 3808
    ++ padded p.jump_table.bytes ++ padded p.code.bytes ++ padded p.objects.bytes ++ p.runtime.bytes

-- the segment of a segment that is code, and of one that is data
abbrev pub code_segment : WrittenSegment → SegmentContent
code_segment p = record {
  address = p.address;
  bytes = p.bytes;
  size = p.size;
  readable = false;
  writable = false;
  executable = true;
}

abbrev pub data_segment : WrittenSegment → SegmentContent
data_segment p = record {
  address = p.address;
  bytes = p.bytes;
  size = p.size;
  readable = true;
  writable = true;
  executable = false;
}

-- the image that the segments are
abbrev pub content : WrittenImage → Content
content p = record {
  entry = p.entry;
  segments = code_segment p.jump_table ∷ code_segment p.code ∷ data_segment p.objects ∷ data_segment p.runtime ∷ [];
}

-- a segment that passes the tests of one segment
abbrev pub SegmentFits : WrittenSegment → Type 0
SegmentFits p = (length p.bytes ≤ p.size) × (p.address + p.size ≤ 2 ^ 64) × (p.address < 2 ^ 64)

-- segments that pass all tests of an image
pub record SegmentsFit (image : WrittenImage) : Type 0 where
  pub entry : image.entry < 2 ^ 64
  pub jump_table : SegmentFits image.jump_table
  pub code : SegmentFits image.code
  pub objects : SegmentFits image.objects
  pub runtime : SegmentFits image.runtime
  pub together : content_fault (content image) ≡ None

-- Each segment has no more bytes in the file than in memory, they stand one after another, take at most 512 MiB
-- together,
-- and the run begins at an instruction of the first.
pub record IsInOrder (image : WrittenImage) : Type 0 where
  pub jump_table_bytes : length image.jump_table.bytes ≤ image.jump_table.size
  pub code_bytes : length image.code.bytes ≤ image.code.size
  pub objects_bytes : length image.objects.bytes ≤ image.objects.size
  pub runtime_bytes : length image.runtime.bytes ≤ image.runtime.size
  pub jump_table_first : image.jump_table.address + image.jump_table.size ≤ image.code.address
  pub code_next : image.code.address + image.code.size ≤ image.objects.address
  pub objects_next : image.objects.address + image.objects.size ≤ image.runtime.address
  pub runtime_last : image.runtime.address + image.runtime.size ≤ 2 ^ 64
  pub runtime_address : image.runtime.address < 2 ^ 64
  pub together : image.jump_table.size + image.code.size + image.objects.size + image.runtime.size ≤ 536870912
  pub aligned : image.entry % 4 ≡ 0
  pub entry_from : image.jump_table.address ≤ image.entry
  pub entry_below : image.entry < image.jump_table.address + image.jump_table.size
